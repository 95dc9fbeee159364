-- The last children that have each id, by their numbers, which rise in list order.
use Rattle.std.specs.Prelude.{◌≡◌, ◌≢◌, ℕ, ◌<◌, ◌≤◌, ◌+◌, Bool, false, List, [], length, nat_eq, slice_index}
use Rattle.std.specs.Prelude.{slice_index_or, Option, Some, None}
use Rattle.std.specs.Map.{lookup}
use Rattle.view_model.specs.declared.relative.Link.{Link}
use Rattle.view_model.specs.SiblingRules.{no_link}

-- the numbers of children rise in list order
abbrev pub AreRising : List ℕ → Type 0
AreRising kids = (p q : ℕ) → p < q → q < length kids → slice_index kids p < slice_index kids q

-- there is a number, and this one is not above it
abbrev pub IsReached : ℕ → Option ℕ → Type 0
IsReached number None = ⊥
IsReached number (Some last) = number ≤ last

abbrev pub IsReachedIn : List (ℕ × ℕ) → ℕ → ℕ → Type 0
IsReachedIn latest id number = IsReached number (lookup (nat_eq id) latest)

-- the numbers of children with an id are not above the one that a table has for the id; 0 is no id
abbrev pub AreReached : List (ℕ × ℕ) → List Link → List ℕ → Type 0
AreReached latest links kids =
    (p : ℕ) → p < length links → (slice_index_or links p no_link).id ≢ 0
    → IsReachedIn latest (slice_index_or links p no_link).id (slice_index kids p)

-- the child of a number has an id, unless that is 0, and all that was reached still is; at most this id is new
pub record HasNoted (id number : ℕ) (old new : List (ℕ × ℕ)) : Type 0 where
  pub own : id ≢ 0 → IsReachedIn new id number
  pub others : (other reached : ℕ) → IsReachedIn old other reached → IsReachedIn new other reached
  pub few : length new ≤ length old + 1

-- a table that does not have all ids was given up, and has none
abbrev pub IsAllOrNone : Bool → List (ℕ × ℕ) → Type 0
IsAllOrNone complete latest = complete ≡ false → latest ≡ []

-- the numbers of children with this id are not above the given one, if there is one, and rise; without one, no child
-- has it
pub record IsLatest (id : ℕ) (links : List Link) (kids : List ℕ) (latest : Option ℕ) : Type 0 where
  pub rising : AreRising kids
  pub reached : id ≢ 0 → (p : ℕ) → p < length links → (slice_index_or links p no_link).id ≡ id
      → IsReached (slice_index kids p) latest
