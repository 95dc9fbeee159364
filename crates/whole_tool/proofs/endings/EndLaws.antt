-- A run ends with the status of its outcome.
use Rattle.std.proofs.Common.{◌≡◌, ℕ, ◌+◌, ◌-◌, ◌^◌, ◌≤◌, List, length, min, sym, subst, ◌∙◌}
use Rattle.std.specs.Prelude.{Bool, Option, Some, Result, IfOk}
use Rattle.std.specs.Io.KnownBytes.{Consumes, IsAtEnd}
use Rattle.tool_io.specs.Fetched.{Files}
use Rattle.whole_tool.specs.Carried.{Carried}
use Rattle.whole_tool.specs.declared.script.End.{End}
use Rattle.whole_tool.specs.Outside.{EndsWith, Surroundings}
use Rattle.whole_tool.specs.Script.{CountsEnd, RunsFrom, ends_counted, reads_counted}
use Rattle.whole_tool.specs.Tool.{RunsWith, status_of}
use Rattle.whole_tool.specs.Transcript.{max_script}
use Rattle.whole_tool.specs.Works.{Trace}
use Rattle.whole_tool.specs.WorksWith.{WorksWithFrom}
use Rattle.whole_tool.proofs.costs.CostLaws.{works_with}
use Rattle.whole_tool.proofs.endings.StatusLaws.{ends_known, ends_read}
use Rattle.whole_tool.proofs.endings.ToolLaws.{ends_whole, runs_with, shelf_by_status, shelf_later, sink_by_status, source_by_status}

pub ends_with : (before after : Surroundings) (outcome : Result Bool End) (status : ℕ) → status ≡ status_of outcome → IfOk outcome (λ _. IsAtEnd after.left) → (taken : List ℕ) → Consumes before.left after.left taken → length taken ≤ max_script + 1
    → after.reads ≡ reads_counted outcome before.reads → after.writes ≡ ends_counted outcome before.writes → CountsEnd before.fetches after.fetches outcome
    → after.files ≡ before.files → before.work.painted ≤ after.work.painted → min before.work.measured (2 ^ 64 - 1) ≤ after.work.measured → EndsWith before after status
ends_with before after outcome status is end taken consumed most reads writes fetches files painted measured = subst (EndsWith before after) (sym is) (record {
  known = ends_known outcome;
  whole = ends_whole outcome;
  read_to_end = ends_read outcome after.left end;
  taken = taken;
  consumed = consumed;
  most = most;
  source_failed = reads ∙ source_by_status outcome before.reads;
  sink_failed = writes ∙ sink_by_status outcome before.writes;
  shelf_failed = shelf_by_status outcome before.fetches after.fetches fetches;
  shelf_later = shelf_later outcome before.fetches after.fetches fetches;
  files_stay = files;
  painted = painted;
  measured = measured;
})

-- what was written, and what was counted, in a run that began so

pub runs_by_status : {now start : Carried} {shelf : Option Files} {before after : Option (List ℕ)} {first last : Trace} {outcome : Result Bool End} {status : ℕ} → now ≡ start → status ≡ status_of outcome → RunsFrom now shelf before after first last outcome
    → (files : Files) (script : List ℕ) → shelf ≡ Some files → before ≡ Some script → RunsWith start files script after first.gone last.gone status
runs_by_status {start} {after} {first} {last} {outcome} from is runs files script at_hand reported =
    subst (RunsWith start files script after first.gone last.gone) (sym is) (runs_with start files script after first last outcome ((rw from at runs).runs files script at_hand reported))

pub works_by_status : {now start : Carried} {shelf : Option Files} {before after : Option (List ℕ)} {first last : Trace} {outcome : Result Bool End} {status : ℕ} → now ≡ start → status ≡ status_of outcome → RunsFrom now shelf before after first last outcome
    → (files : Files) (script : List ℕ) → shelf ≡ Some files → before ≡ Some script → WorksWithFrom start files script after first last status
works_by_status {start} {after} {first} {last} {outcome} from is runs files script at_hand reported =
    subst (WorksWithFrom start files script after first last) (sym is) (works_with start files script after first last outcome ((rw from at runs).runs files script at_hand reported))
