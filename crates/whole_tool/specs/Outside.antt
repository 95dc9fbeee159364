-- What is outside of the run of a script, and how the run leaves it.
use Rattle.std.specs.Prelude.{◌≡◌, ◌≢◌, ◌⊎◌, ℕ, ◌+◌, ◌-◌, ◌^◌, ◌≤◌, ◌==◌, if◌then◌else◌, List, [], ◌∷◌, length, min}
use Rattle.std.specs.Prelude.{Option}
use Rattle.std.specs.Io.KnownBytes.{Consumes, IsAtEnd}
use Rattle.tool_io.specs.Counts.{raised}
use Rattle.tool_io.specs.Fetched.{Files}
use Rattle.tool_io.specs.SinkState.{SinkState}
use Rattle.view_model.specs.declared.work.Work.{Work}
use Rattle.tool_replies.specs.Endings.{IsComplete, IsOneOf}
use Rattle.whole_tool.specs.Transcript.{max_script}

-- what is left of the source, how many reads, writes and fetches have failed, the files of the shelf, and the work
pub record Surroundings : Type 0 where
  pub left : Option (List ℕ)
  pub reads : ℕ
  pub writes : ℕ
  pub fetches : ℕ
  pub files : Option Files
  pub work : Work

abbrev pub outside : Option (List ℕ) → ℕ → SinkState → ℕ → Option Files → Work → Surroundings
outside left reads sink fetches files work =
    record { left = left; reads = reads; writes = sink.faults; fetches = fetches; files = files; work = work }

-- a run ended with a status, with a question after it or without one
pub record EndsWith (before after : Surroundings) (status : ℕ) : Type 0 where
  pub known : IsOneOf status (0 ∷ 1 ∷ 3 ∷ 4 ∷ 5 ∷ 6 ∷ 7 ∷ [])
  -- except for a failed call and a script that is too long, only running out of memory keeps it from its end
  pub whole : status ≢ 3 → status ≢ 4 → status ≢ 6 → status ≢ 7 → IsComplete status ⊎ (status ≡ 5)
  pub read_to_end : IsComplete status → IsAtEnd after.left
  pub taken : List ℕ
  pub consumed : Consumes before.left after.left taken
  pub most : length taken ≤ max_script + 1
  pub source_failed : after.reads ≡ (if status == 3 then raised before.reads else before.reads)
  pub sink_failed : after.writes ≡ (if status == 4 then raised before.writes else before.writes)
  -- running out of memory may count as a failed fetch
  pub shelf_failed : status ≢ 5 → after.fetches ≡ (if status == 6 then raised before.fetches else before.fetches)
  pub shelf_later : before.fetches ≤ after.fetches
  pub files_stay : after.files ≡ before.files
  pub painted : before.work.painted ≤ after.work.painted
  pub measured : min before.work.measured (2 ^ 64 - 1) ≤ after.work.measured
