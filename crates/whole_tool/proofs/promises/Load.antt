-- What a load keeps of each promise.
use Rattle.std.proofs.Common.{◌≡◌, ◌≢◌, ℕ, ◌-◌, ◌^◌, ◌≤◌, ◌∙◌, sym, refl, arith, List, [], ◌∷◌, min}
use Rattle.std.specs.Prelude.{◌==◌, if◌then◌else◌, Option, false}
use Rattle.std.proofs.KnownBytes.{Consumes-nil}
use Rattle.load_maker.specs.Load.{load}
use Rattle.script_lines.specs.cutting.Lines.{lines_of}
use Rattle.tool_io.specs.Counts.{raised}
use Rattle.tool_io.specs.Fetched.{Files}
use Rattle.tool_io.specs.Fetches.{Fetches}
use Rattle.tool_io.specs.SinkState.{SinkState}
use Rattle.view_world.specs.frames.Watched.{IsWorth}
use Rattle.tool_replies.specs.Dump.{Dumps}
use Rattle.whole_tool.specs.Gen.{gen_page}
use Rattle.whole_tool.specs.Promises.{FetchesFiles, CountsWork, Failures, HasStatus, LeavesAlone, LeavesRest, ReportsFailures, ReportsRefusals, Stops, WritesPages}
use Rattle.whole_tool.specs.Tally.{costs_of_script}
use Rattle.whole_tool.specs.Tool.{Given}
use Rattle.tool_replies.specs.Endings.{IsOneOf}
use Rattle.whole_tool.specs.Usage.{Usage, Gen}
use Rattle.whole_tool.specs.Works.{Trace, WorksPart}
use Rattle.whole_tool.proofs.stacks.StackPageLaws.{page_isolated}
use Rattle.tool_replies.proofs.EndingLaws.{not_status, other_status}
use Rattle.whole_tool.proofs.promises.Endings.{load_accepts, load_ends}

pub load_pages : {call : Given} {size : ℕ} {old new : SinkState} {status : ℕ} → call.usage ≡ Gen size → Dumps (gen_page size) false old new status → WritesPages call old.gone new.gone status
load_pages {size} {old} {new} {status} is made = record {
  dump = λ _ _ of. absurd (cc (is, of.words));
  load = λ n of. (let same : size ≡ n = cc (is, of) in (rw same at made).writes);
  lookup = λ _ _ _ of. absurd (cc (is, of.words));
  focus = λ _ _ _ of _. absurd (cc (is, of.words));
  stack = λ _ _ of _. absurd (cc (is, of.words));
  stack_isolated = λ script files k of. page_isolated script files k;
  long = λ _ _ of _. absurd (cc (is, of.words));
}

pub load_refusals : {call : Given} {size : ℕ} {status : ℕ} → call.usage ≡ Gen size → IsOneOf status (0 ∷ 4 ∷ 5 ∷ []) → ReportsRefusals call status
load_refusals {status} is known = record {
  refused = λ _ _ of _ _. absurd (cc (is, of.words));
  stack_refused = λ _ _ of _. absurd (cc (is, of.words));
  focus_refused = λ _ _ _ of _. absurd (cc (is, of.words));
  dump_refused = λ _ _ of _. absurd (cc (is, of.words));
  lookup_refused = λ _ _ _ of _. absurd (cc (is, of.words));
  gen_accepts = λ n of ended. load_accepts status known ended;
}

pub load_statuses : {call : Given} {size : ℕ} {status : ℕ} → call.usage ≡ Gen size → IsOneOf status (0 ∷ 4 ∷ 5 ∷ []) → HasStatus call status
load_statuses is known = record {
  run_statuses = λ of. absurd (cc (is, of));
  stack_statuses = λ of. absurd (cc (is, of));
  focus_statuses = λ _ of. absurd (cc (is, of));
  dump_statuses = λ _ of. absurd (cc (is, of));
  lookup_statuses = λ _ _ of. absurd (cc (is, of));
  gen_statuses = λ n of. known;
  long_only = λ _ _ of _. absurd (cc (is, of.words));
}

pub load_failures : {call : Given} {size : ℕ} {before after : Failures} {status : ℕ} → call.usage ≡ Gen size → IsOneOf status (0 ∷ 4 ∷ 5 ∷ []) → after.reads ≡ before.reads
    → after.writes ≡ (if status == 4 then raised before.writes else before.writes) → after.fetches ≡ before.fetches
    → ReportsFailures call before after status
load_failures {before} {after} {status} is known reads writes fetches = record {
  source_failed = reads ∙ sym (other_status status 3 (0 ∷ 4 ∷ 5 ∷ []) (raised before.reads) before.reads known refl);
  sink_failed = writes;
  shelf_failed = λ not_5. fetches ∙ sym (other_status status 6 (0 ∷ 4 ∷ 5 ∷ []) (raised before.fetches) before.fetches known refl);
  shelf_later = omega (arith, fetches);
  complete = λ _ _ of _ _ _ _. absurd (cc (is, of.words));
  stack_complete = λ _ _ of _ _ _ _. absurd (cc (is, of.words));
  focus_complete = λ _ _ _ of _ _ _ _. absurd (cc (is, of.words));
  dump_complete = λ _ of _ _. absurd (cc (is, of));
  lookup_complete = λ _ _ of _ _. absurd (cc (is, of));
  gen_complete = λ n of no_write. load_ends status known (λ e. no_write (let failed = rw e at writes in omega (arith, failed)));
}

pub load_stops : {call : Given} {size : ℕ} {left old new : Option (List ℕ)} {status : ℕ} {SameSink : Type 0} → call.usage ≡ Gen size → (status ≡ 5 → SameSink) → Stops call left old new status SameSink
load_stops is same = record {
  lines_taken = λ _ _ of _. absurd (cc (is, of.words));
  failed_fetch = λ _ _ of _. absurd (cc (is, of.words));
  dump_failed_fetch = λ _ of _. absurd (cc (is, of));
  no_memory = λ _ _ of _. absurd (cc (is, of.words));
  dump_no_memory = λ _ of _. absurd (cc (is, of));
  gen_no_memory = λ n of. same;
  lookup_stops = λ _ _ of _. absurd (cc (is, of));
  stack_ends = λ _ _ of. absurd (cc (is, of.words));
}

pub load_alone : {form : Usage} {size : ℕ} {status : ℕ} {SameSource SameSink SameShelf SameWork : Type 0} → form ≡ Gen size → IsOneOf status (0 ∷ 4 ∷ 5 ∷ []) → SameSource → SameShelf
    → LeavesAlone form status SameSource SameSink SameShelf SameWork
load_alone {size} {status} is known source shelf = record {
  usage = (λ e. absurd (not_status status 2 (0 ∷ 4 ∷ 5 ∷ []) known refl e), λ e. absurd (cc (is, e)));
  untouched = λ e. absurd (not_status status 2 (0 ∷ 4 ∷ 5 ∷ []) known refl e);
  dump_reads_no_script = λ _ of. absurd (cc (is, of));
  dump_measures_nothing = λ _ of. absurd (cc (is, of));
  gen_alone = λ n of. (source, shelf);
  lookup_alone = λ _ _ of. absurd (cc (is, of));
  uncounted = λ no_run no_stack no_load no_question. absurd (no_load size is);
}

pub load_rest : {call : Given} {size : ℕ} {held : Option Files} {status : ℕ} → call.usage ≡ Gen size → held ≡ call.held → LeavesRest call call.left held status
load_rest {call} is files = record {
  read_to_end = λ of _. absurd (cc (is, of));
  stack_read_to_end = λ of _. absurd (cc (is, of));
  focus_read_to_end = λ _ of _. absurd (cc (is, of));
  taken = ([], Consumes-nil call.left, omega arith);
  files_stay = files;
}

pub load_counts : {call : Given} {size : ℕ} {left : Option (List ℕ)} {first last : Trace} {status : ℕ} → call.usage ≡ Gen size → (status ≢ 5 → IsWorth (costs_of_script (load size) []) first.work last.work)
    → WorksPart [] first.work last.work (lines_of (load size)) → first.work.painted ≤ last.work.painted → min first.work.measured (2 ^ 64 - 1) ≤ last.work.measured
    → CountsWork call left first last status
load_counts {size} {first} {last} {status} is worth works painted measured = record {
  worth = λ _ _ of _. absurd (cc (is, of.words));
  works = λ _ _ of. absurd (cc (is, of.words));
  gen_worth = λ n of. (let same : size ≡ n = cc (is, of) in rw same at worth);
  gen_works = λ n of. (let same : size ≡ n = cc (is, of) in rw same at works);
  stack_worth = λ _ _ of _. absurd (cc (is, of.words));
  stack_works = λ _ _ of. absurd (cc (is, of.words));
  focus_worth = λ _ _ _ of _. absurd (cc (is, of.words));
  focus_ends = λ _ _ _ of. absurd (cc (is, of.words));
  painted_later = painted;
  measured_later = measured;
}

pub load_asked : {call : Given} {size : ℕ} {before after : Fetches} {status : ℕ} → call.usage ≡ Gen size → FetchesFiles call before after status
load_asked is = record {
  fetched = λ _ _ of _. absurd (cc (is, of.words));
  stack_fetched = λ _ _ of _. absurd (cc (is, of.words));
  dump_fetched = λ _ of. absurd (cc (is, of));
  lookup_fetched = λ _ _ of. absurd (cc (is, of));
}
