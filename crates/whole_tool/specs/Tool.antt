-- What a call of the tool is and how it ends.
use Rattle.std.specs.Prelude.{◌≡◌, ℕ, ◌<◌, ◌≤◌, nat_lt, Bool, if◌then◌else◌, List, length, Option, Some, Result}
use Rattle.std.specs.Prelude.{Ok, Err}
use Rattle.std.specs.Io.KnownBytes.{Appends}
use Rattle.script_lines.specs.cutting.Lines.{lines_of}
use Rattle.whole_tool.specs.Carried.{Carried}
use Rattle.whole_tool.specs.declared.run.Stop.TheVariants as stop
use Rattle.whole_tool.specs.declared.script.End.{End}
use Rattle.whole_tool.specs.declared.script.End.TheVariants as ends
use Rattle.tool_io.specs.Fetched.{Files}
use Rattle.tool_replies.specs.Endings.{IsComplete, Writes}
use Rattle.whole_tool.specs.Run.{StopsAtFetchFrom, StopsBeforeFrom}
use Rattle.whole_tool.specs.Script.{WritesTakenFrom}
use Rattle.whole_tool.specs.Transcript.{after_from, carried_lines, max_script}
use Rattle.whole_tool.specs.Usage.{Usage, Run, Stack, Dump, Lookup}

-- what a call is given: the form of its words, and what is left of the source and the files of the shelf, if contracts
-- see them
pub record Given : Type 0 where
  pub usage : Usage
  pub left : Option (List ℕ)
  pub held : Option Files

abbrev pub given : Usage → Option (List ℕ) → Option Files → Given
given usage left held = record { usage = usage; left = left; held = held }

-- a run of this script with these files: the words are those of a run, the source has these bytes left, and the shelf
-- holds these files
pub record IsRunOf (call : Given) (script : List ℕ) (files : Files) : Type 0 where
  pub words : call.usage ≡ Run
  pub source : call.left ≡ Some script
  pub shelf : call.held ≡ Some files

-- a run of this script for a stack of windows with these files
pub record IsStackOf (call : Given) (script : List ℕ) (files : Files) : Type 0 where
  pub words : call.usage ≡ Stack
  pub source : call.left ≡ Some script
  pub shelf : call.held ≡ Some files

-- the print of the file of this name, with these files
pub record IsDumpOf (call : Given) (name : List ℕ) (files : Files) : Type 0 where
  pub words : call.usage ≡ Dump name
  pub shelf : call.held ≡ Some files

-- the print of what the resources of these ids hold in the table of the file of this name, with these files
pub record IsLookupOf (call : Given) (name ids : List ℕ) (files : Files) : Type 0 where
  pub words : call.usage ≡ Lookup name ids
  pub shelf : call.held ≡ Some files

-- the status of a run
abbrev pub status_of : Result Bool End → ℕ
status_of (Ok refused) = if refused then 1 else 0
status_of (Err ends.Source) = 3
status_of (Err ends.Long) = 7
status_of (Err (ends.Stopped stop.Sink)) = 4
status_of (Err (ends.Stopped stop.NoMemory)) = 5
status_of (Err (ends.Stopped stop.Shelf)) = 6

-- how a run of a script ended with a status
pub record RunsWith (start : Carried) (files : Files) (script : List ℕ) (left first last : Option (List ℕ)) (status : ℕ)
    : Type 0 where
  pub writes : Writes status first last (after_from start files (carried_lines script)).text
  pub ended : IsComplete status
      → (length script ≤ max_script)
      × (status ≡ (if nat_lt 0 (after_from start files (lines_of script)).refused then 1 else 0))
  pub taken : status ≡ 3 → WritesTakenFrom start files script left first last
  pub no_memory : status ≡ 5 → StopsBeforeFrom start files first last (carried_lines script)
  pub failed_fetch : status ≡ 6 → StopsAtFetchFrom start files first last (carried_lines script)
  pub long : status ≡ 7
      → (max_script < length script) × Appends first last (after_from start files (carried_lines script)).text
