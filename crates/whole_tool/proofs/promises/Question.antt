-- What a run with a question after it keeps of each promise.
use Rattle.std.proofs.Common.{◌≡◌, ℕ, ◌-◌, ◌^◌, ◌≤◌, refl, arith, List, [], ◌∷◌, min}
use Rattle.std.specs.Prelude.{Option}
use Rattle.tool_io.specs.Fetches.{Fetches}
use Rattle.whole_tool.specs.Focus.{AsksWith}
use Rattle.whole_tool.specs.Outside.{EndsWith, Surroundings}
use Rattle.whole_tool.specs.Promises.{FetchesFiles, CountsWork, HasStatus, LeavesAlone, LeavesRest, ReportsFailures, ReportsRefusals, Stops, WritesPages, failures}
use Rattle.whole_tool.specs.Tool.{Given, given}
use Rattle.tool_replies.specs.Endings.{IsOneOf}
use Rattle.whole_tool.specs.Usage.{Usage, Focus}
use Rattle.whole_tool.specs.Works.{Trace}
use Rattle.whole_tool.specs.declared.focusing.Question.{Question}
use Rattle.whole_tool.proofs.stacks.StackPageLaws.{page_isolated}
use Rattle.tool_replies.proofs.EndingLaws.{not_status}
use Rattle.whole_tool.proofs.promises.Endings.{OnScript}

pub focus_pages : {call : Given} {question : Question} {left : Option (List ℕ)} {first last : Trace} {status : ℕ} → call.usage ≡ Focus question → OnScript call (λ files script. AsksWith files script question left first last status)
    → WritesPages call first.gone last.gone status
focus_pages {question} is made = record {
  dump = λ _ _ of. absurd (cc (is, of.words));
  load = λ _ of. absurd (cc (is, of));
  lookup = λ _ _ _ of. absurd (cc (is, of.words));
  focus = λ script files asked of short. (let same : question ≡ asked = cc (is, of.words) in rw same at (made files script of.shelf of.source)).writes short;
  stack = λ _ _ of _. absurd (cc (is, of.words));
  stack_isolated = λ script files k of. page_isolated script files k;
  long = λ _ _ of _. absurd (cc (is, of.words));
}

pub focus_refusals : {call : Given} {question : Question} {left : Option (List ℕ)} {first last : Trace} {status : ℕ} → call.usage ≡ Focus question → OnScript call (λ files script. AsksWith files script question left first last status)
    → ReportsRefusals call status
focus_refusals {question} is made = record {
  refused = λ _ _ of _ _. absurd (cc (is, of.words));
  stack_refused = λ _ _ of _. absurd (cc (is, of.words));
  focus_refused = λ script files asked of ended. ((let same : question ≡ asked = cc (is, of.words) in rw same at (made files script of.shelf of.source)).ended ended).1;
  dump_refused = λ _ _ of _. absurd (cc (is, of.words));
  lookup_refused = λ _ _ _ of _. absurd (cc (is, of.words));
  gen_accepts = λ _ of _. absurd (cc (is, of));
}

pub focus_statuses : {call : Given} {question : Question} {status : ℕ} → call.usage ≡ Focus question → IsOneOf status (0 ∷ 1 ∷ 3 ∷ 4 ∷ 5 ∷ 6 ∷ 7 ∷ []) → HasStatus call status
focus_statuses is known = record {
  run_statuses = λ of. absurd (cc (is, of));
  stack_statuses = λ of. absurd (cc (is, of));
  focus_statuses = λ asked of. known;
  dump_statuses = λ _ of. absurd (cc (is, of));
  lookup_statuses = λ _ _ of. absurd (cc (is, of));
  gen_statuses = λ _ of. absurd (cc (is, of));
  long_only = λ _ _ of _. absurd (cc (is, of.words));
}

pub focus_failures : {call : Given} {before after : Surroundings} {question : Question} {left : Option (List ℕ)} {first last : Trace} {status : ℕ} → call.usage ≡ Focus question → OnScript call (λ files script. AsksWith files script question left first last status) → EndsWith before after status
    → ReportsFailures call (failures before.reads before.writes before.fetches) (failures after.reads after.writes after.fetches) status
focus_failures is made ended = record {
  source_failed = ended.source_failed;
  sink_failed = ended.sink_failed;
  shelf_failed = ended.shelf_failed;
  shelf_later = ended.shelf_later;
  complete = λ _ _ of _ _ _ _. absurd (cc (is, of.words));
  stack_complete = λ _ _ of _ _ _ _. absurd (cc (is, of.words));
  focus_complete = λ script files question of short no_read no_write no_fetch.
      ended.whole
      (λ e. no_read (let failed = rw e at ended.source_failed in omega (arith, failed)))
      (λ e. no_write (let failed = rw e at ended.sink_failed in omega (arith, failed)))
      (λ e. no_fetch (let failed = rw e at ended.shelf_failed (λ five. omega (arith, five)) in omega (arith, failed)))
      (λ e. (let long = ((made files script of.shelf of.source).long e).0 in omega (arith, short, long)));
  dump_complete = λ _ of _ _. absurd (cc (is, of));
  lookup_complete = λ _ _ of _ _. absurd (cc (is, of));
  gen_complete = λ _ of _. absurd (cc (is, of));
}

pub focus_stops : {call : Given} {question : Question} {left : Option (List ℕ)} {first last : Trace} {status : ℕ} → call.usage ≡ Focus question → OnScript call (λ files script. AsksWith files script question left first last status)
    → {SameSink : Type 0} → Stops call left first.gone last.gone status SameSink
focus_stops {question} is made = record {
  lines_taken = λ _ _ of _. absurd (cc (is, of.words));
  failed_fetch = λ _ _ of _. absurd (cc (is, of.words));
  dump_failed_fetch = λ _ of _. absurd (cc (is, of));
  no_memory = λ _ _ of _. absurd (cc (is, of.words));
  dump_no_memory = λ _ of _. absurd (cc (is, of));
  gen_no_memory = λ _ of _. absurd (cc (is, of));
  lookup_stops = λ _ _ of _. absurd (cc (is, of));
  stack_ends = λ _ _ of. absurd (cc (is, of.words));
}

pub focus_alone : {form : Usage} {question : Question} {status : ℕ} {SameSource SameSink SameShelf SameWork : Type 0} → form ≡ Focus question → IsOneOf status (0 ∷ 1 ∷ 3 ∷ 4 ∷ 5 ∷ 6 ∷ 7 ∷ [])
    → LeavesAlone form status SameSource SameSink SameShelf SameWork
focus_alone {question} {status} is known = record {
  usage = (λ e. absurd (not_status status 2 (0 ∷ 1 ∷ 3 ∷ 4 ∷ 5 ∷ 6 ∷ 7 ∷ []) known refl e), λ e. absurd (cc (is, e)));
  untouched = λ e. absurd (not_status status 2 (0 ∷ 1 ∷ 3 ∷ 4 ∷ 5 ∷ 6 ∷ 7 ∷ []) known refl e);
  dump_reads_no_script = λ _ of. absurd (cc (is, of));
  dump_measures_nothing = λ _ of. absurd (cc (is, of));
  gen_alone = λ _ of. absurd (cc (is, of));
  lookup_alone = λ _ _ of. absurd (cc (is, of));
  uncounted = λ no_run no_stack no_load no_question. absurd (no_question question is);
}

pub focus_rest : {form : Usage} {question : Question} {before after : Surroundings} {status : ℕ} → form ≡ Focus question → EndsWith before after status
    → LeavesRest (given form before.left before.files) after.left after.files status
focus_rest {question} is ended = record {
  read_to_end = λ of _. absurd (cc (is, of));
  stack_read_to_end = λ of _. absurd (cc (is, of));
  focus_read_to_end = λ asked of. ended.read_to_end;
  taken = (ended.taken, ended.consumed, ended.most);
  files_stay = ended.files_stay;
}

pub focus_counts : {call : Given} {question : Question} {left : Option (List ℕ)} {first last : Trace} {status : ℕ} → call.usage ≡ Focus question → OnScript call (λ files script. AsksWith files script question left first last status)
    → first.work.painted ≤ last.work.painted → min first.work.measured (2 ^ 64 - 1) ≤ last.work.measured
    → CountsWork call left first last status
focus_counts {question} is made painted measured = record {
  worth = λ _ _ of _. absurd (cc (is, of.words));
  works = λ _ _ of. absurd (cc (is, of.words));
  gen_worth = λ _ of _. absurd (cc (is, of));
  gen_works = λ _ of. absurd (cc (is, of));
  stack_worth = λ _ _ of _. absurd (cc (is, of.words));
  stack_works = λ _ _ of. absurd (cc (is, of.words));
  focus_worth = λ script files asked of ended. ((let same : question ≡ asked = cc (is, of.words) in rw same at (made files script of.shelf of.source)).ended ended).0.worth;
  focus_ends = λ script files asked of. (let same : question ≡ asked = cc (is, of.words) in rw same at (made files script of.shelf of.source));
  painted_later = painted;
  measured_later = measured;
}

pub focus_asked : {call : Given} {question : Question} {before after : Fetches} {status : ℕ} → call.usage ≡ Focus question → FetchesFiles call before after status
focus_asked is = record {
  fetched = λ _ _ of _. absurd (cc (is, of.words));
  stack_fetched = λ _ _ of _. absurd (cc (is, of.words));
  dump_fetched = λ _ of. absurd (cc (is, of));
  lookup_fetched = λ _ _ of. absurd (cc (is, of));
}
