-- What a line does to the shelf that its file comes from.
use Rattle.std.specs.Prelude.{◌≡◌, ◌≢◌, ◌≤◌, ◌⊎◌, ℕ, List, Option, Some, None, Result, Ok, Err}
use Rattle.tool_io.specs.Counts.{raised}
use Rattle.tool_io.specs.Fetched.{Files}
use Rattle.tool_io.specs.Fetches.{Fetch, Fetches, with_fetch}
use Rattle.view_model.specs.Numbers.{max_file}
use Rattle.world_parts.specs.declared.fault.StepFault.{StepFault}
use Rattle.world_parts.specs.declared.fault.StepFault.TheVariants as fault

-- these files are at hand: the shelf makes them visible, or none is asked for
abbrev pub AreAtHand : Files → Option Files → Option (List ℕ) → Type 0
AreAtHand files reported asked = (reported ≡ Some files) ⊎ (asked ≡ None)

-- what a shelf shows of its files stays
abbrev pub KeepsFiles : Option Files → Option Files → Type 0
KeepsFiles old new = new ≡ old

-- A shelf's count of failed calls after a command: a fetch that failed raised it by one. Running out of memory may
-- count as a failed call.
abbrev pub CountsShelf : {A : Type 0} → ℕ → ℕ → Result A StepFault → Type 0
CountsShelf before now (Ok _) = now ≡ before
CountsShelf before now (Err (fault.Refused refusal)) = now ≡ before
CountsShelf before now (Err fault.NoMemory) = before ≤ now
CountsShelf before now (Err fault.Sink) = now ≡ before
CountsShelf before now (Err fault.Shelf) = now ≡ raised before

-- a layout file is asked for with the limit of its bytes
abbrev pub layout_fetch : List ℕ → Fetch
layout_fetch name = record { name = name; limit = max_file }

-- what a shelf shows of the calls on it after a command: one more if a file is asked for, and otherwise the same
abbrev pub fetches_after : Option (List ℕ) → Fetches → Fetches
fetches_after None fetches = fetches
fetches_after (Some name) fetches = with_fetch fetches (layout_fetch name)

-- What a line does to a shelf, if it asks for this file or for none. The shelf is asked once for a file, by its name
-- and with the limit of a layout file, and otherwise it stays; its files stay, and a fetch that failed was one that was
-- asked for.
pub record AsksShelf {S A : Type 0} (files : S → Option Files) (fetches : S → Fetches) (faults : S → ℕ)
    (name : Option (List ℕ)) (result : Result A StepFault) (old new : S) : Type 0 where
  pub files_stay : files new ≡ files old
  pub unasked : name ≡ None → new ≡ old
  pub fetched : fetches new ≡ fetches_after name (fetches old)
  pub shelf_failed : CountsShelf (faults old) (faults new) result
  pub asked : result ≡ Err fault.Shelf → name ≢ None
