-- What the print of a file keeps of each promise.
use Rattle.std.proofs.Common.{◌≡◌, ◌≢◌, ℕ, ◌≤◌, ◌∙◌, ap, sym, refl, arith, inl, inr, List, [], ◌∷◌}
use Rattle.std.specs.Prelude.{◌⊎◌, ◌==◌, if◌then◌else◌, Option, Some}
use Rattle.std.proofs.KnownBytes.{Consumes-nil}
use Rattle.tool_io.specs.Counts.{raised}
use Rattle.tool_io.specs.Fetched.{Files}
use Rattle.tool_io.specs.Fetches.{Fetches, with_fetch}
use Rattle.tool_io.specs.SinkState.{SinkState}
use Rattle.world_parts.specs.Shelves.{layout_fetch}
use Rattle.tool_replies.specs.Dump.{Dumps, dump_page, refuses_file}
use Rattle.whole_tool.specs.Promises.{FetchesFiles, CountsWork, Failures, HasStatus, LeavesAlone, LeavesRest, ReportsFailures, ReportsRefusals, Stops, WritesPages}
use Rattle.whole_tool.specs.Tool.{Given}
use Rattle.tool_replies.specs.Endings.{IsOneOf}
use Rattle.whole_tool.specs.Usage.{Usage, Dump}
use Rattle.whole_tool.specs.Works.{Trace}
use Rattle.whole_tool.proofs.stacks.StackPageLaws.{page_isolated}
use Rattle.tool_replies.proofs.EndingLaws.{not_status, other_status}
use Rattle.whole_tool.proofs.promises.Endings.{file_ends, same_measured, same_painted}

pub dump_pages : {call : Given} {name : List ℕ} {old new : SinkState} {status : ℕ} → call.usage ≡ Dump name → ((files : Files) → call.held ≡ Some files → Dumps (dump_page files name) (refuses_file files name) old new status)
    → WritesPages call old.gone new.gone status
dump_pages {name} is made = record {
  dump = λ asked files of. (let same : name ≡ asked = cc (is, of.words) in rw same at (made files of.shelf)).writes;
  load = λ _ of. absurd (cc (is, of));
  lookup = λ _ _ _ of. absurd (cc (is, of.words));
  focus = λ _ _ _ of _. absurd (cc (is, of.words));
  stack = λ _ _ of _. absurd (cc (is, of.words));
  stack_isolated = λ script files k of. page_isolated script files k;
  long = λ _ _ of _. absurd (cc (is, of.words));
}

pub dump_refusals : {call : Given} {name : List ℕ} {old new : SinkState} {status : ℕ} → call.usage ≡ Dump name → ((files : Files) → call.held ≡ Some files → Dumps (dump_page files name) (refuses_file files name) old new status)
    → ReportsRefusals call status
dump_refusals {name} is made = record {
  refused = λ _ _ of _ _. absurd (cc (is, of.words));
  stack_refused = λ _ _ of _. absurd (cc (is, of.words));
  focus_refused = λ _ _ _ of _. absurd (cc (is, of.words));
  dump_refused = λ asked files of ended. (let same : name ≡ asked = cc (is, of.words) in rw same at (made files of.shelf)).ended ended;
  lookup_refused = λ _ _ _ of _. absurd (cc (is, of.words));
  gen_accepts = λ _ of _. absurd (cc (is, of));
}

pub dump_statuses : {call : Given} {name : List ℕ} {status : ℕ} → call.usage ≡ Dump name → IsOneOf status (0 ∷ 1 ∷ 4 ∷ 5 ∷ 6 ∷ []) → HasStatus call status
dump_statuses is known = record {
  run_statuses = λ of. absurd (cc (is, of));
  stack_statuses = λ of. absurd (cc (is, of));
  focus_statuses = λ _ of. absurd (cc (is, of));
  dump_statuses = λ asked of. known;
  lookup_statuses = λ _ _ of. absurd (cc (is, of));
  gen_statuses = λ _ of. absurd (cc (is, of));
  long_only = λ _ _ of _. absurd (cc (is, of.words));
}

pub dump_failures : {call : Given} {name : List ℕ} {before after : Failures} {status : ℕ} → call.usage ≡ Dump name → IsOneOf status (0 ∷ 1 ∷ 4 ∷ 5 ∷ 6 ∷ []) → after.reads ≡ before.reads
    → after.writes ≡ (if status == 4 then raised before.writes else before.writes)
    → (status ≢ 5 → after.fetches ≡ (if status == 6 then raised before.fetches else before.fetches)) → before.fetches ≤ after.fetches
    → ReportsFailures call before after status
dump_failures {before} {status} is known reads writes fetches later = record {
  source_failed = reads ∙ sym (other_status status 3 (0 ∷ 1 ∷ 4 ∷ 5 ∷ 6 ∷ []) (raised before.reads) before.reads known refl);
  sink_failed = writes;
  shelf_failed = fetches;
  shelf_later = later;
  complete = λ _ _ of _ _ _ _. absurd (cc (is, of.words));
  stack_complete = λ _ _ of _ _ _ _. absurd (cc (is, of.words));
  focus_complete = λ _ _ _ of _ _ _ _. absurd (cc (is, of.words));
  dump_complete = λ asked of no_write no_fetch.
      file_ends status known
      (λ e. no_write (let failed = rw e at writes in omega (arith, failed)))
      (λ e. no_fetch (let failed = rw e at fetches (λ five. omega (arith, five)) in omega (arith, failed)));
  lookup_complete = λ _ _ of _ _. absurd (cc (is, of));
  gen_complete = λ _ of _. absurd (cc (is, of));
}

pub dump_stops : {call : Given} {name : List ℕ} {left old new : Option (List ℕ)} {status : ℕ} {SameSink : Type 0} → call.usage ≡ Dump name → ((status ≡ 5) ⊎ (status ≡ 6) → SameSink)
    → Stops call left old new status SameSink
dump_stops is same = record {
  lines_taken = λ _ _ of _. absurd (cc (is, of.words));
  failed_fetch = λ _ _ of _. absurd (cc (is, of.words));
  dump_failed_fetch = λ asked of e. same (inr e);
  no_memory = λ _ _ of _. absurd (cc (is, of.words));
  dump_no_memory = λ asked of e. same (inl e);
  gen_no_memory = λ _ of _. absurd (cc (is, of));
  lookup_stops = λ _ _ of _. absurd (cc (is, of));
  stack_ends = λ _ _ of. absurd (cc (is, of.words));
}

pub dump_alone : {form : Usage} {name : List ℕ} {status : ℕ} {SameSource SameSink SameShelf SameWork : Type 0} → form ≡ Dump name → IsOneOf status (0 ∷ 1 ∷ 4 ∷ 5 ∷ 6 ∷ []) → SameSource → SameWork
    → LeavesAlone form status SameSource SameSink SameShelf SameWork
dump_alone {status} is known source work = record {
  usage = (λ e. absurd (not_status status 2 (0 ∷ 1 ∷ 4 ∷ 5 ∷ 6 ∷ []) known refl e), λ e. absurd (cc (is, e)));
  untouched = λ e. absurd (not_status status 2 (0 ∷ 1 ∷ 4 ∷ 5 ∷ 6 ∷ []) known refl e);
  dump_reads_no_script = λ asked of. source;
  dump_measures_nothing = λ asked of. work;
  gen_alone = λ _ of. absurd (cc (is, of));
  lookup_alone = λ _ _ of. absurd (cc (is, of));
  uncounted = λ no_run no_stack no_load no_question. work;
}

pub dump_rest : {call : Given} {name : List ℕ} {held : Option Files} {status : ℕ} → call.usage ≡ Dump name → held ≡ call.held → LeavesRest call call.left held status
dump_rest {call} is files = record {
  read_to_end = λ of _. absurd (cc (is, of));
  stack_read_to_end = λ of _. absurd (cc (is, of));
  focus_read_to_end = λ _ of _. absurd (cc (is, of));
  taken = ([], Consumes-nil call.left, omega arith);
  files_stay = files;
}

pub dump_counts : {call : Given} {name : List ℕ} {left : Option (List ℕ)} {first last : Trace} {status : ℕ} → call.usage ≡ Dump name → last.work ≡ first.work → CountsWork call left first last status
dump_counts {first} {last} is same = record {
  worth = λ _ _ of _. absurd (cc (is, of.words));
  works = λ _ _ of. absurd (cc (is, of.words));
  gen_worth = λ _ of _. absurd (cc (is, of));
  gen_works = λ _ of. absurd (cc (is, of));
  stack_worth = λ _ _ of _. absurd (cc (is, of.words));
  stack_works = λ _ _ of. absurd (cc (is, of.words));
  focus_worth = λ _ _ _ of _. absurd (cc (is, of.words));
  focus_ends = λ _ _ _ of. absurd (cc (is, of.words));
  painted_later = same_painted first.work last.work same;
  measured_later = same_measured first.work last.work same;
}

pub dump_asked : {call : Given} {name : List ℕ} {before after : Fetches} {status : ℕ} → call.usage ≡ Dump name → after ≡ with_fetch before (layout_fetch name) → FetchesFiles call before after status
dump_asked {name} {before} is made = record {
  fetched = λ _ _ of _. absurd (cc (is, of.words));
  stack_fetched = λ _ _ of _. absurd (cc (is, of.words));
  dump_fetched = λ asked of. made ∙ ap (λ (n : List ℕ). with_fetch before (layout_fetch n)) (cc (is, of));
  lookup_fetched = λ _ _ of. absurd (cc (is, of));
}
