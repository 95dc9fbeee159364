-- What a call of other words keeps of each promise.
use Rattle.std.proofs.Common.{◌≡◌, ℕ, refl, arith, List, []}
use Rattle.std.specs.Prelude.{Option}
use Rattle.std.proofs.KnownBytes.{Consumes-nil}
use Rattle.tool_io.specs.Fetches.{Fetches}
use Rattle.whole_tool.specs.Promises.{FetchesFiles, CountsWork, Failures, HasStatus, LeavesAlone, LeavesRest, ReportsFailures, ReportsRefusals, Stops, WritesPages}
use Rattle.whole_tool.specs.Tool.{Given}
use Rattle.whole_tool.specs.Usage.{Usage, Unknown}
use Rattle.whole_tool.specs.Works.{Trace}
use Rattle.whole_tool.proofs.stacks.StackPageLaws.{page_isolated}
use Rattle.whole_tool.proofs.promises.Endings.{same_measured, same_painted}

pub none_pages : {call : Given} {old new : Option (List ℕ)} {status : ℕ} → call.usage ≡ Unknown → WritesPages call old new status
none_pages is = record {
  dump = λ _ _ of. absurd (cc (is, of.words));
  load = λ _ of. absurd (cc (is, of));
  lookup = λ _ _ _ of. absurd (cc (is, of.words));
  focus = λ _ _ _ of _. absurd (cc (is, of.words));
  stack = λ _ _ of _. absurd (cc (is, of.words));
  stack_isolated = λ script files k of. page_isolated script files k;
  long = λ _ _ of _. absurd (cc (is, of.words));
}

pub none_refusals : {call : Given} {status : ℕ} → call.usage ≡ Unknown → ReportsRefusals call status
none_refusals is = record {
  refused = λ _ _ of _ _. absurd (cc (is, of.words));
  stack_refused = λ _ _ of _. absurd (cc (is, of.words));
  focus_refused = λ _ _ _ of _. absurd (cc (is, of.words));
  dump_refused = λ _ _ of _. absurd (cc (is, of.words));
  lookup_refused = λ _ _ _ of _. absurd (cc (is, of.words));
  gen_accepts = λ _ of _. absurd (cc (is, of));
}

pub none_statuses : {call : Given} {status : ℕ} → call.usage ≡ Unknown → HasStatus call status
none_statuses is = record {
  run_statuses = λ of. absurd (cc (is, of));
  stack_statuses = λ of. absurd (cc (is, of));
  focus_statuses = λ _ of. absurd (cc (is, of));
  dump_statuses = λ _ of. absurd (cc (is, of));
  lookup_statuses = λ _ _ of. absurd (cc (is, of));
  gen_statuses = λ _ of. absurd (cc (is, of));
  long_only = λ _ _ of _. absurd (cc (is, of.words));
}

pub none_failures : {call : Given} {before : Failures} → call.usage ≡ Unknown → ReportsFailures call before before 2
none_failures {before} is = record {
  source_failed = refl;
  sink_failed = refl;
  shelf_failed = λ not_5. refl;
  shelf_later = omega arith;
  complete = λ _ _ of _ _ _ _. absurd (cc (is, of.words));
  stack_complete = λ _ _ of _ _ _ _. absurd (cc (is, of.words));
  focus_complete = λ _ _ _ of _ _ _ _. absurd (cc (is, of.words));
  dump_complete = λ _ of _ _. absurd (cc (is, of));
  lookup_complete = λ _ _ of _ _. absurd (cc (is, of));
  gen_complete = λ _ of _. absurd (cc (is, of));
}

pub none_stops : {call : Given} {left old new : Option (List ℕ)} {status : ℕ} {SameSink : Type 0} → call.usage ≡ Unknown → Stops call left old new status SameSink
none_stops is = record {
  lines_taken = λ _ _ of _. absurd (cc (is, of.words));
  failed_fetch = λ _ _ of _. absurd (cc (is, of.words));
  dump_failed_fetch = λ _ of _. absurd (cc (is, of));
  no_memory = λ _ _ of _. absurd (cc (is, of.words));
  dump_no_memory = λ _ of _. absurd (cc (is, of));
  gen_no_memory = λ _ of _. absurd (cc (is, of));
  lookup_stops = λ _ _ of _. absurd (cc (is, of));
  stack_ends = λ _ _ of. absurd (cc (is, of.words));
}

pub none_alone : {form : Usage} {SameSource SameSink SameShelf SameWork : Type 0} → form ≡ Unknown → SameSource → SameSink → SameShelf → SameWork → LeavesAlone form 2 SameSource SameSink SameShelf SameWork
none_alone is source sink shelf work = record {
  usage = (λ e. is, λ e. refl);
  untouched = λ e. (source, sink, shelf, work);
  dump_reads_no_script = λ _ of. absurd (cc (is, of));
  dump_measures_nothing = λ _ of. absurd (cc (is, of));
  gen_alone = λ _ of. absurd (cc (is, of));
  lookup_alone = λ _ _ of. absurd (cc (is, of));
  uncounted = λ no_run no_stack no_load no_question. work;
}

pub none_rest : {call : Given} {status : ℕ} → call.usage ≡ Unknown → LeavesRest call call.left call.held status
none_rest {call} is = record {
  read_to_end = λ of _. absurd (cc (is, of));
  stack_read_to_end = λ of _. absurd (cc (is, of));
  focus_read_to_end = λ _ of _. absurd (cc (is, of));
  taken = ([], Consumes-nil call.left, omega arith);
  files_stay = refl;
}

pub none_counts : {call : Given} {left : Option (List ℕ)} {first last : Trace} {status : ℕ} → call.usage ≡ Unknown → last.work ≡ first.work → CountsWork call left first last status
none_counts {first} {last} is same = record {
  worth = λ _ _ of _. absurd (cc (is, of.words));
  works = λ _ _ of. absurd (cc (is, of.words));
  gen_worth = λ _ of _. absurd (cc (is, of));
  gen_works = λ _ of. absurd (cc (is, of));
  stack_worth = λ _ _ of _. absurd (cc (is, of.words));
  stack_works = λ _ _ of. absurd (cc (is, of.words));
  focus_worth = λ _ _ _ of _. absurd (cc (is, of.words));
  focus_ends = λ _ _ _ of. absurd (cc (is, of.words));
  painted_later = same_painted first.work last.work same;
  measured_later = same_measured first.work last.work same;
}

pub none_asked : {call : Given} {before after : Fetches} {status : ℕ} → call.usage ≡ Unknown → FetchesFiles call before after status
none_asked is = record {
  fetched = λ _ _ of _. absurd (cc (is, of.words));
  stack_fetched = λ _ _ of _. absurd (cc (is, of.words));
  dump_fetched = λ _ of. absurd (cc (is, of));
  lookup_fetched = λ _ _ of. absurd (cc (is, of));
}
