-- How a call of the tool ends: its status, and what it wrote.
use Rattle.std.specs.Prelude.{◌≡◌, ◌⊎◌, ℕ, true, ◌==◌, List, Option}
use Rattle.std.specs.List.{list_any}
use Rattle.std.specs.Io.KnownBytes.{Appends}
use Rattle.text_lines.specs.Prefix.{AppendsPrefix}

-- the status of a call that ended by itself: all was done, and nothing or something was refused
abbrev pub IsComplete : ℕ → Type 0
IsComplete status = (status ≡ 0) ⊎ (status ≡ 1)

-- the status is one of these
abbrev pub IsOneOf : ℕ → List ℕ → Type 0
IsOneOf status statuses = list_any (λ s. s == status) statuses ≡ true

-- what was written when a call ended with a status: the whole text if it ended by itself, and always a front part of it
pub record Writes (status : ℕ) (old new : Option (List ℕ)) (text : List ℕ) : Type 0 where
  pub whole : IsComplete status → Appends old new text
  pub part : AppendsPrefix old new text
