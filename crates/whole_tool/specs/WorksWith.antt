-- What was counted in the run of a script that ended with a status.
use Rattle.std.specs.Prelude.{◌≡◌, ℕ, List, Option}
use Rattle.script_lines.specs.cutting.Lines.{lines_of}
use Rattle.tool_io.specs.Fetched.{Files}
use Rattle.whole_tool.specs.Carried.{Carried, Alone}
use Rattle.whole_tool.specs.Script.{WorksTaken}
use Rattle.tool_replies.specs.Endings.{IsComplete}
use Rattle.whole_tool.specs.Transcript.{carried_lines}
use Rattle.whole_tool.specs.Works.{Trace, Works, WorksBefore, WorksPartFrom, WorksToFetch, WorksToWrite}
use Rattle.world_parts.specs.World.{empty_world}

-- what the carried out lines cost, besides the texts that were written: the first lines in any case
pub record WorksWithFrom (start : Carried) (files : Files) (script : List ℕ) (left : Option (List ℕ))
    (first last : Trace) (status : ℕ) : Type 0 where
  pub part : WorksPartFrom start files first.work last.work (carried_lines script)
  pub ended : IsComplete status → Works start files first last (lines_of script)
  pub taken : status ≡ 3 → WorksTaken start files script left first last
  pub failed_write : status ≡ 4 → WorksToWrite start files first last (carried_lines script)
  pub no_memory : status ≡ 5 → WorksBefore start files first last (carried_lines script)
  pub failed_fetch : status ≡ 6 → WorksToFetch start files first last (carried_lines script)
  pub long : status ≡ 7 → Works start files first last (carried_lines script)

-- the same of a run that began with the empty world
abbrev pub WorksWith : Files → List ℕ → Option (List ℕ) → Trace → Trace → ℕ → Type 0
WorksWith files script left first last status = WorksWithFrom (Alone empty_world) files script left first last status
