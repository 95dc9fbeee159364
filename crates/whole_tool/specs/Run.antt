-- The run of a script in the code.
use Rattle.std.specs.Prelude.{◌≡◌, ◌≤◌, ℕ, List, [], ◌∷◌, ◌++◌, Option, Some, None, Result, Ok, Err, IfSome, length}
use Rattle.std.proofs.Common.{Bor}
use Rattle.std.specs.Io.KnownBytes.{Appends}
use Rattle.script_lines.specs.cutting.LineBuffer.{IsAfter}
use Rattle.script_lines.specs.cutting.Lines.{Line, Text, LongLine, cut_of, max_line}
use Rattle.tool_io.specs.Counts.{raised}
use Rattle.tool_io.specs.Fetched.{Files}
use Rattle.tool_io.specs.Fetches.{with_fetches}
use Rattle.view_model.specs.declared.work.Work.{Work}
use Rattle.whole_tool.specs.Carried.{Carried, Alone}
use Rattle.whole_tool.specs.Carrier.{IsWatching, carried_of}
use Rattle.whole_tool.specs.declared.carrier.Carrier.{Carrier}
use Rattle.whole_tool.specs.declared.run.LineRunner.{LineRunner}
use Rattle.whole_tool.specs.declared.run.Run.{Run}
use Rattle.whole_tool.specs.declared.run.Stop.{Stop}
use Rattle.whole_tool.specs.declared.run.Stop.TheVariants as stop
use Rattle.whole_tool.specs.Tally.{Tally, tally_from}
use Rattle.whole_tool.specs.Transcript.{Asks, MayWant, ScriptProgress, after_from}
use Rattle.whole_tool.specs.Works.{Trace, WorksBefore, WorksToFetch, WorksToWrite}
use Rattle.view_world.specs.frames.Watched.{IsWorth}
use Rattle.world_parts.specs.World.{empty_world}

-- a line as the code has it: it is not too long
abbrev pub line_now : Option (Bor (List ℕ)) → Line
line_now None = LongLine
line_now (Some line) = Text line.now

-- a line as the code has it is no longer than a line may be
abbrev pub IsShort : Option (Bor (List ℕ)) → Type 0
IsShort line = IfSome line (λ bytes. length bytes.now ≤ max_line)

-- the line that has ended, if one has
abbrev pub lines_now : Option (Option (Bor (List ℕ))) → List Line
lines_now None = []
lines_now (Some line) = line_now line ∷ []

-- what carries out lines is what they have made, and what was counted is worth what they cost
pub record HasTallied (first now : Work) (carrier : Carrier) (tally : Tally) : Type 0 where
  pub watched : IsWatching carrier tally.watched
  pub worth : IsWorth tally.costs first now

-- the state of a run so far: since its start its text was written, what was counted is worth what its lines cost, and
-- the shelf was asked for what its lines ask for
pub record HasCarriedOut (first now : Trace) (runner : LineRunner) (progress : ScriptProgress) (tally : Tally) : Type 0
  where
    pub lines : runner.lines ≡ progress.lines
    pub carried : carried_of runner.carrier ≡ progress.carried
    pub refused : runner.refused ≡ progress.refused
    pub few : progress.refused ≤ progress.lines
    pub gone : Appends first.gone now.gone progress.text
    pub tallied : HasTallied first.work now.work runner.carrier tally
    pub fetched : now.fetches ≡ with_fetches first.fetches progress.asked

-- what holds with the files of a shelf, if it makes them visible
abbrev pub WithFiles : Option Files → (Files → Type 0) → Type 0
WithFiles shelf P = (files : Files) → shelf ≡ Some files → P files

-- a run has carried out the lines whose line feed is among these bytes, and holds what comes after them
pub record HasReadUpTo (start : Carried) (shelf : Option Files) (first now : Trace) (run : Run) (bytes : List ℕ) : Type
    0 where
  pub held : IsAfter run.lines bytes
  pub runner : WithFiles shelf
      (λ files. HasCarriedOut first now run.runner (after_from start files (cut_of bytes).lines)
      (tally_from start files (cut_of bytes).lines))

-- the texts of the lines before one of these, which may run out of memory, were written
pub record StopsBeforeFrom (start : Carried) (files : Files) (first now : Option (List ℕ)) (lines : List Line) : Type 0
  where
    pub done : List Line
    pub line : Line
    pub left : List Line
    pub all : done ++ line ∷ left ≡ lines
    pub wants : MayWant (after_from start files done).carried line
    pub gone : Appends first now (after_from start files done).text

-- the texts of the lines before one of these, which asks the shelf for a file, were written
pub record StopsAtFetchFrom (start : Carried) (files : Files) (first now : Option (List ℕ)) (lines : List Line) : Type 0
  where
    pub done : List Line
    pub line : Line
    pub left : List Line
    pub all : done ++ line ∷ left ≡ lines
    pub asks : Asks (after_from start files done).carried line
    pub gone : Appends first now (after_from start files done).text

-- the same of a run that began with the empty world

abbrev pub StopsBefore : Files → Option (List ℕ) → Option (List ℕ) → List Line → Type 0
StopsBefore files first now lines = StopsBeforeFrom (Alone empty_world) files first now lines

abbrev pub StopsAtFetch : Files → Option (List ℕ) → Option (List ℕ) → List Line → Type 0
StopsAtFetch files first now lines = StopsAtFetchFrom (Alone empty_world) files first now lines

-- a run stopped in these lines: a write failed, there was no memory, or a fetch failed
abbrev pub StopsIn : Carried → Files → Trace → Trace → List Line → Stop → Type 0
StopsIn start files first now lines stop.Sink = WorksToWrite start files first now lines
StopsIn start files first now lines stop.NoMemory = WorksBefore start files first now lines
StopsIn start files first now lines stop.Shelf = WorksToFetch start files first now lines

-- a sink's count of failed calls once a run stopped in this way: a failed write raises it by one
abbrev pub stop_counted : Stop → ℕ → ℕ
stop_counted stop.Sink faults = raised faults
stop_counted stop.NoMemory faults = faults
stop_counted stop.Shelf faults = faults

-- and once lines were carried out
abbrev pub writes_counted : {A : Type 0} → Result A Stop → ℕ → ℕ
writes_counted (Ok _) faults = faults
writes_counted (Err stop) faults = stop_counted stop faults

abbrev pub CountsWrites : {A : Type 0} → ℕ → ℕ → Result A Stop → Type 0
CountsWrites before now result = now ≡ writes_counted result before

-- a shelf's count of failed calls once a run stopped in this way: a failed fetch raises it by one, and running out of
-- memory may count as one
abbrev pub CountsStop : ℕ → ℕ → Stop → Type 0
CountsStop before now stop.Sink = now ≡ before
CountsStop before now stop.NoMemory = before ≤ now
CountsStop before now stop.Shelf = now ≡ raised before

-- and once lines were carried out
abbrev pub CountsFetches : {A : Type 0} → ℕ → ℕ → Result A Stop → Type 0
CountsFetches before now (Ok _) = now ≡ before
CountsFetches before now (Err stop) = CountsStop before now stop
