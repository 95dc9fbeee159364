-- What was counted while lines were carried out, besides the texts that were written: the work, and what the shelf was
-- asked for.
use Rattle.std.specs.Prelude.{◌≡◌, ℕ, List, [], ◌∷◌, ◌++◌, Option}
use Rattle.std.specs.Io.KnownBytes.{Appends}
use Rattle.script_lines.specs.cutting.Lines.{Line}
use Rattle.text_lines.specs.Prefix.{AppendsPrefix}
use Rattle.tool_io.specs.Fetched.{Files}
use Rattle.tool_io.specs.Fetches.{Fetch, Fetches, with_fetches}
use Rattle.tool_io.specs.SinkState.{SinkState}
use Rattle.view_model.specs.declared.work.Work.{Work}
use Rattle.whole_tool.specs.Carried.{Carried, Alone}
use Rattle.whole_tool.specs.Tally.{costs_from}
use Rattle.whole_tool.specs.Transcript.{Asks, MayWant, after_from, line_text}
use Rattle.view_world.specs.frames.Watched.{IsWorth}
use Rattle.world_parts.specs.World.{empty_world}

-- what is known of a run at a moment: the bytes that were written, if the sink makes them visible, what was counted,
-- and what the shelf shows of the calls on it
pub record Trace : Type 0 where
  pub gone : Option (List ℕ)
  pub work : Work
  pub fetches : Fetches

abbrev pub trace : SinkState → Work → Fetches → Trace
trace state work fetches = record { gone = state.gone; work = work; fetches = fetches }

-- what these lines ask of the shelf, in their order
abbrev pub fetches_from : Carried → Files → List Line → List Fetch
fetches_from start files lines = (after_from start files lines).asked

-- the shelf was asked once for each of these lines that asks for a file, by its name and with the limit of a layout
-- file, in their order, and not for any other
abbrev pub HasFetched : Carried → Files → List Line → Trace → Trace → Type 0
HasFetched start files lines first now = now.fetches ≡ with_fetches first.fetches (fetches_from start files lines)

-- lines were carried out between two moments: their texts were written, and what was counted is worth what they cost
pub record Works (start : Carried) (files : Files) (first now : Trace) (lines : List Line) : Type 0 where
  pub gone : Appends first.gone now.gone (after_from start files lines).text
  pub worth : IsWorth (costs_from start files lines) first.work now.work
  pub fetched : HasFetched start files lines first now

-- the lines before one of these were carried out, which may run out of memory
pub record WorksBefore (start : Carried) (files : Files) (first now : Trace) (lines : List Line) : Type 0 where
  pub done : List Line
  pub line : Line
  pub left : List Line
  pub all : done ++ line ∷ left ≡ lines
  pub wants : MayWant (after_from start files done).carried line
  pub gone : Appends first.gone now.gone (after_from start files done).text
  pub worth : IsWorth (costs_from start files done) first.work now.work
  -- that line may have asked
  pub fetched : HasFetched start files (done ++ line ∷ []) first now

-- the lines before one of these were carried out, which asks the shelf for a file
pub record WorksToFetch (start : Carried) (files : Files) (first now : Trace) (lines : List Line) : Type 0 where
  pub done : List Line
  pub line : Line
  pub left : List Line
  pub all : done ++ line ∷ left ≡ lines
  pub asks : Asks (after_from start files done).carried line
  pub gone : Appends first.gone now.gone (after_from start files done).text
  pub worth : IsWorth (costs_from start files done) first.work now.work
  pub fetched : HasFetched start files (done ++ line ∷ []) first now

-- one of these lines was the last that was carried out, and only a front part of its text was written
pub record WorksToWrite (start : Carried) (files : Files) (first now : Trace) (lines : List Line) : Type 0 where
  pub done : List Line
  pub line : Line
  pub left : List Line
  pub all : done ++ line ∷ left ≡ lines
  -- what was written before its text
  pub between : Option (List ℕ)
  pub gone : Appends first.gone between (after_from start files done).text
  pub part : AppendsPrefix between now.gone (line_text files (after_from start files done) line)
  pub worth : IsWorth (costs_from start files (done ++ line ∷ [])) first.work now.work
  pub fetched : HasFetched start files (done ++ line ∷ []) first now

-- the first of these lines were carried out, all, some or none, and what was counted is worth what they cost
pub record WorksPartFrom (start : Carried) (files : Files) (old new : Work) (lines : List Line) : Type 0 where
  pub done : List Line
  pub left : List Line
  pub all : done ++ left ≡ lines
  pub worth : IsWorth (costs_from start files done) old new

-- the same of a run that began with the empty world
abbrev pub WorksPart : Files → Work → Work → List Line → Type 0
WorksPart files old new lines = WorksPartFrom (Alone empty_world) files old new lines
