-- A script that is read in pieces while it is carried out.
use Rattle.std.specs.Prelude.{◌≡◌, ℕ, ◌+◌, ◌<◌, ◌≤◌, nat_lt, Bool, List, ◌++◌, length, Option, Some, Result, Ok, Err}
use Rattle.std.specs.Prelude.{IfOk}
use Rattle.std.specs.Io.KnownBytes.{Appends, Consumes, IsAtEnd}
use Rattle.script_lines.specs.cutting.Lines.{cut_of, lines_of}
use Rattle.tool_io.specs.Counts.{raised}
use Rattle.tool_io.specs.Fetched.{Files}
use Rattle.whole_tool.specs.Carried.{Carried, Alone}
use Rattle.whole_tool.specs.declared.script.End.{End}
use Rattle.whole_tool.specs.declared.script.End.TheVariants as ends
use Rattle.whole_tool.specs.Run.{CountsStop, StopsIn, stop_counted}
use Rattle.whole_tool.specs.Transcript.{after_from, carried_lines, max_script}
use Rattle.whole_tool.specs.Works.{Trace, Works}
use Rattle.world_parts.specs.World.{empty_world}

-- the bytes that were taken of a script are at its front, and the rest is left
pub record Takes (script : List ℕ) (now : Option (List ℕ)) (taken : List ℕ) : Type 0 where
  pub rest : List ℕ
  pub front : script ≡ taken ++ rest
  pub left : now ≡ Some rest

-- what was written is the transcript of the lines whose line feed was taken
pub record WritesTakenFrom (start : Carried) (files : Files) (script : List ℕ) (left old new : Option (List ℕ)) : Type 0
  where
    pub taken : List ℕ
    pub takes : Takes script left taken
    pub within : length taken ≤ max_script
    pub text : Appends old new (after_from start files (cut_of taken).lines).text

-- the same of a run that began with the empty world
abbrev pub WritesTaken : Files → List ℕ → Option (List ℕ) → Option (List ℕ) → Option (List ℕ) → Type 0
WritesTaken files script left old new = WritesTakenFrom (Alone empty_world) files script left old new

-- the lines whose line feed was taken were carried out
pub record WorksTaken (start : Carried) (files : Files) (script : List ℕ) (left : Option (List ℕ)) (first now : Trace) :
    Type 0 where
  pub taken : List ℕ
  pub takes : Takes script left taken
  pub within : length taken ≤ max_script
  pub works : Works start files first now (cut_of taken).lines

-- what a run reads: a script, and the files that its lines ask for
pub record Input : Type 0 where
  pub files : Files
  pub script : List ℕ

-- How the run of a script got to its end, if it went from the first moment to the last, and this is left of the script.
abbrev pub RunsTo : Carried → Input → Option (List ℕ) → Trace → Trace → Result Bool End → Type 0
RunsTo start input left first last (Ok refused) =
    (length input.script ≤ max_script) × Works start input.files first last (lines_of input.script)
    × (refused ≡ nat_lt 0 (after_from start input.files (lines_of input.script)).refused)
RunsTo start input left first last (Err ends.Source) = WorksTaken start input.files input.script left first last
RunsTo start input left first last (Err ends.Long) =
    (max_script < length input.script) × Works start input.files first last (carried_lines input.script)
RunsTo start input left first last (Err (ends.Stopped stop)) =
    StopsIn start input.files first last (carried_lines input.script) stop

-- the run of a source from its first bytes to its end
pub record RunsFrom (start : Carried) (shelf : Option Files) (before after : Option (List ℕ)) (first last : Trace)
    (outcome : Result Bool End) : Type 0 where
  pub runs : (files : Files) (script : List ℕ) → shelf ≡ Some files → before ≡ Some script
      → RunsTo start (record { files = files; script = script }) after first last outcome
  pub end : IfOk outcome (λ _. IsAtEnd after)
  pub taken : List ℕ
  pub consumed : Consumes before after taken
  pub most : length taken ≤ max_script + 1

-- a source's count of failed calls once a run ended in this way: a failed read raises it by one
abbrev pub end_reads : End → ℕ → ℕ
end_reads ends.Source faults = raised faults
end_reads ends.Long faults = faults
end_reads (ends.Stopped stop) faults = faults

-- and a sink's
abbrev pub end_writes : End → ℕ → ℕ
end_writes ends.Source faults = faults
end_writes ends.Long faults = faults
end_writes (ends.Stopped stop) faults = stop_counted stop faults

abbrev pub reads_counted : {A : Type 0} → Result A End → ℕ → ℕ
reads_counted (Ok _) faults = faults
reads_counted (Err end) faults = end_reads end faults

abbrev pub ends_counted : {A : Type 0} → Result A End → ℕ → ℕ
ends_counted (Ok _) faults = faults
ends_counted (Err end) faults = end_writes end faults

-- a shelf's count of failed calls once a run ended in this way: a failed fetch raises it by one
abbrev pub CountsEnd : {A : Type 0} → ℕ → ℕ → Result A End → Type 0
CountsEnd before now (Ok _) = now ≡ before
CountsEnd before now (Err ends.Source) = now ≡ before
CountsEnd before now (Err ends.Long) = now ≡ before
CountsEnd before now (Err (ends.Stopped stop)) = CountsStop before now stop
