-- What a run keeps of each promise.
use Rattle.std.proofs.Common.{◌≡◌, ℕ, ◌-◌, ◌^◌, ◌≤◌, subst, refl, arith, List, [], ◌∷◌, length, min}
use Rattle.std.specs.Prelude.{Option}
use Rattle.std.specs.Io.KnownBytes.{Appends}
use Rattle.script_lines.specs.cutting.Lines.{Line}
use Rattle.tool_io.specs.Fetched.{Files}
use Rattle.world_parts.specs.World.{empty_world}
use Rattle.whole_tool.specs.Carried.{Alone}
use Rattle.whole_tool.specs.Outside.{EndsWith, Surroundings}
use Rattle.whole_tool.specs.Promises.{FetchesFiles, CountsWork, HasStatus, LeavesAlone, LeavesRest, ReportsFailures, ReportsRefusals, Stops, WritesPages, failures}
use Rattle.whole_tool.specs.Tool.{Given, IsRunOf, RunsWith, given}
use Rattle.tool_replies.specs.Endings.{IsOneOf, Writes}
use Rattle.whole_tool.specs.Transcript.{after_lines, max_script, transcript}
use Rattle.whole_tool.specs.Usage.{Usage, Run}
use Rattle.whole_tool.specs.Works.{Trace}
use Rattle.whole_tool.specs.WorksWith.{WorksWithFrom}
use Rattle.whole_tool.proofs.lines.LongScriptLaws.{carried_long, carried_short}
use Rattle.whole_tool.proofs.stacks.StackPageLaws.{page_isolated}
use Rattle.tool_replies.proofs.EndingLaws.{not_status}
use Rattle.whole_tool.proofs.promises.Endings.{OnScript}

pub run_headline : {call : Given} {left old new : Option (List ℕ)} {status : ℕ} → OnScript call (λ files script. RunsWith (Alone empty_world) files script left old new status)
    → (script : List ℕ) (files : Files) → IsRunOf call script files → length script ≤ max_script → Writes status old new (transcript script files)
run_headline {old} {new} {status} made script files of short =
    subst (λ (lines : List Line). Writes status old new (after_lines files lines).text) (carried_short script short) (made files script of.shelf of.source).writes

pub run_pages : {call : Given} {left old new : Option (List ℕ)} {status : ℕ} → call.usage ≡ Run → OnScript call (λ files script. RunsWith (Alone empty_world) files script left old new status)
    → WritesPages call old new status
run_pages {old} {new} {status} is made = record {
  dump = λ _ _ of. absurd (cc (is, of.words));
  load = λ _ of. absurd (cc (is, of));
  lookup = λ _ _ _ of. absurd (cc (is, of.words));
  focus = λ _ _ _ of _. absurd (cc (is, of.words));
  stack = λ _ _ of _. absurd (cc (is, of.words));
  stack_isolated = λ script files k of. page_isolated script files k;
  long = λ script files of long.
      let ran = made files script of.shelf of.source in
      let lines = carried_long script long in (
        λ ended. (let short = (ran.ended ended).0 in omega (arith, short, long)),
        subst (λ (ls : List Line). Writes status old new (after_lines files ls).text) lines ran.writes,
        λ cut. subst (λ (ls : List Line). Appends old new (after_lines files ls).text) lines (ran.long cut).1,
      );
}

pub run_refusals : {call : Given} {left old new : Option (List ℕ)} {status : ℕ} → call.usage ≡ Run → OnScript call (λ files script. RunsWith (Alone empty_world) files script left old new status)
    → ReportsRefusals call status
run_refusals is made = record {
  refused = λ script files of short ended. ((made files script of.shelf of.source).ended ended).1;
  stack_refused = λ _ _ of _. absurd (cc (is, of.words));
  focus_refused = λ _ _ _ of _. absurd (cc (is, of.words));
  dump_refused = λ _ _ of _. absurd (cc (is, of.words));
  lookup_refused = λ _ _ _ of _. absurd (cc (is, of.words));
  gen_accepts = λ _ of _. absurd (cc (is, of));
}

pub run_statuses : {call : Given} {left old new : Option (List ℕ)} {status : ℕ} → call.usage ≡ Run → OnScript call (λ files script. RunsWith (Alone empty_world) files script left old new status) → IsOneOf status (0 ∷ 1 ∷ 3 ∷ 4 ∷ 5 ∷ 6 ∷ 7 ∷ [])
    → HasStatus call status
run_statuses is made known = record {
  run_statuses = λ of. known;
  stack_statuses = λ of. absurd (cc (is, of));
  focus_statuses = λ _ of. absurd (cc (is, of));
  dump_statuses = λ _ of. absurd (cc (is, of));
  lookup_statuses = λ _ _ of. absurd (cc (is, of));
  gen_statuses = λ _ of. absurd (cc (is, of));
  long_only = λ script files of cut. ((made files script of.shelf of.source).long cut).0;
}

pub run_failures : {call : Given} {before after : Surroundings} {left old new : Option (List ℕ)} {status : ℕ} → call.usage ≡ Run → OnScript call (λ files script. RunsWith (Alone empty_world) files script left old new status) → EndsWith before after status
    → ReportsFailures call (failures before.reads before.writes before.fetches) (failures after.reads after.writes after.fetches) status
run_failures is made ended = record {
  source_failed = ended.source_failed;
  sink_failed = ended.sink_failed;
  shelf_failed = ended.shelf_failed;
  shelf_later = ended.shelf_later;
  complete = λ script files of short no_read no_write no_fetch.
      ended.whole
      (λ e. no_read (let failed = rw e at ended.source_failed in omega (arith, failed)))
      (λ e. no_write (let failed = rw e at ended.sink_failed in omega (arith, failed)))
      (λ e. no_fetch (let failed = rw e at ended.shelf_failed (λ five. omega (arith, five)) in omega (arith, failed)))
      (λ e. (let long = ((made files script of.shelf of.source).long e).0 in omega (arith, short, long)));
  stack_complete = λ _ _ of _ _ _ _. absurd (cc (is, of.words));
  focus_complete = λ _ _ _ of _ _ _ _. absurd (cc (is, of.words));
  dump_complete = λ _ of _ _. absurd (cc (is, of));
  lookup_complete = λ _ _ of _ _. absurd (cc (is, of));
  gen_complete = λ _ of _. absurd (cc (is, of));
}

pub run_stops : {call : Given} {left old new : Option (List ℕ)} {status : ℕ} → call.usage ≡ Run → OnScript call (λ files script. RunsWith (Alone empty_world) files script left old new status)
    → {SameSink : Type 0} → Stops call left old new status SameSink
run_stops is made = record {
  lines_taken = λ script files of e. (made files script of.shelf of.source).taken e;
  failed_fetch = λ script files of e. (made files script of.shelf of.source).failed_fetch e;
  dump_failed_fetch = λ _ of _. absurd (cc (is, of));
  no_memory = λ script files of e. (made files script of.shelf of.source).no_memory e;
  dump_no_memory = λ _ of _. absurd (cc (is, of));
  gen_no_memory = λ _ of _. absurd (cc (is, of));
  lookup_stops = λ _ _ of _. absurd (cc (is, of));
  stack_ends = λ _ _ of. absurd (cc (is, of.words));
}

pub run_alone : {form : Usage} {status : ℕ} {SameSource SameSink SameShelf SameWork : Type 0} → form ≡ Run → IsOneOf status (0 ∷ 1 ∷ 3 ∷ 4 ∷ 5 ∷ 6 ∷ 7 ∷ [])
    → LeavesAlone form status SameSource SameSink SameShelf SameWork
run_alone {status} is known = record {
  usage = (λ e. absurd (not_status status 2 (0 ∷ 1 ∷ 3 ∷ 4 ∷ 5 ∷ 6 ∷ 7 ∷ []) known refl e), λ e. absurd (cc (is, e)));
  untouched = λ e. absurd (not_status status 2 (0 ∷ 1 ∷ 3 ∷ 4 ∷ 5 ∷ 6 ∷ 7 ∷ []) known refl e);
  dump_reads_no_script = λ _ of. absurd (cc (is, of));
  dump_measures_nothing = λ _ of. absurd (cc (is, of));
  gen_alone = λ _ of. absurd (cc (is, of));
  lookup_alone = λ _ _ of. absurd (cc (is, of));
  uncounted = λ no_run no_stack no_load no_question. absurd (no_run is);
}

pub run_rest : {form : Usage} {before after : Surroundings} {status : ℕ} → form ≡ Run → EndsWith before after status
    → LeavesRest (given form before.left before.files) after.left after.files status
run_rest is ended = record {
  read_to_end = λ of. ended.read_to_end;
  stack_read_to_end = λ of _. absurd (cc (is, of));
  focus_read_to_end = λ _ of _. absurd (cc (is, of));
  taken = (ended.taken, ended.consumed, ended.most);
  files_stay = ended.files_stay;
}

pub run_counts : {call : Given} {left : Option (List ℕ)} {first last : Trace} {status : ℕ} → call.usage ≡ Run → OnScript call (λ files script. WorksWithFrom (Alone empty_world) files script left first last status)
    → first.work.painted ≤ last.work.painted → min first.work.measured (2 ^ 64 - 1) ≤ last.work.measured
    → CountsWork call left first last status
run_counts is made painted measured = record {
  worth = λ script files of ended. ((made files script of.shelf of.source).ended ended).worth;
  works = λ script files of. made files script of.shelf of.source;
  gen_worth = λ _ of _. absurd (cc (is, of));
  gen_works = λ _ of. absurd (cc (is, of));
  stack_worth = λ _ _ of _. absurd (cc (is, of.words));
  stack_works = λ _ _ of. absurd (cc (is, of.words));
  focus_worth = λ _ _ _ of _. absurd (cc (is, of.words));
  focus_ends = λ _ _ _ of. absurd (cc (is, of.words));
  painted_later = painted;
  measured_later = measured;
}

pub run_asked : {call : Given} {left : Option (List ℕ)} {first last : Trace} {status : ℕ} → call.usage ≡ Run → OnScript call (λ files script. WorksWithFrom (Alone empty_world) files script left first last status)
    → FetchesFiles call first.fetches last.fetches status
run_asked is made = record {
  fetched = λ script files of ended. ((made files script of.shelf of.source).ended ended).fetched;
  stack_fetched = λ _ _ of _. absurd (cc (is, of.words));
  dump_fetched = λ _ of. absurd (cc (is, of));
  lookup_fetched = λ _ _ of. absurd (cc (is, of));
}
