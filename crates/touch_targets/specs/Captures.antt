-- The targets of a group, the newest first: children, each with the set of the pointers by which it was captured.
use Rattle.std.specs.Prelude.{ℕ, ◌==◌, Bool, false, ◌&&◌, ◌||◌, not, if◌then◌else◌, List, [], ◌∷◌, Option, Some, None}
use Rattle.std.specs.Prelude.{map, filter}
use Rattle.std.specs.List.{list_any, range_with_len}
use Rattle.touch_event.specs.Numbers.{max_pointers}

-- a child that gets what these pointers do
pub record Target : Type 0 where
  pub child : ℕ
  pub ids : ℕ → Bool

abbrev pub is_target : ℕ → List Target → Bool
is_target child targets = list_any (λ (t : Target). t.child == child) targets

-- the target of this child and the older ones
abbrev pub from_child : ℕ → List Target → List Target
from_child child [] = []
from_child child (t ∷ targets) = if t.child == child then t ∷ targets else from_child child targets

abbrev pub targets_from : Option ℕ → List Target → List Target
targets_from None targets = []
targets_from (Some child) targets = from_child child targets

abbrev pub first_child : List Target → Option ℕ
first_child [] = None
first_child (t ∷ targets) = Some t.child

abbrev pub older : List Target → List Target
older [] = []
older (t ∷ targets) = targets

abbrev pub first_ids : List Target → ℕ → Bool
first_ids [] id = false
first_ids (t ∷ targets) id = t.ids id

-- a target with more pointers
abbrev pub with_ids : (ℕ → Bool) → Target → Target
with_ids ids target = record target { ids = λ id. target.ids id || ids id }

-- a target without these pointers
abbrev pub without_ids : (ℕ → Bool) → Target → Target
without_ids ids target = record target { ids = λ id. target.ids id && not (ids id) }

-- a pointer is in the set
abbrev pub has_any : (ℕ → Bool) → Bool
has_any ids = list_any ids (range_with_len 0 max_pointers)

-- a child gets these pointers too; if it was no target, it is the newest now
abbrev pub put_target : ℕ → (ℕ → Bool) → List Target → List Target
put_target child ids targets =
    if is_target child targets
    then map (λ (t : Target). if t.child == child then with_ids ids t else t) targets
    else record { child = child; ids = ids } ∷ targets

-- pointers leave all targets, and a target without pointers is removed
abbrev pub drop_pointers : (ℕ → Bool) → List Target → List Target
drop_pointers ids targets = filter (λ (t : Target). has_any t.ids) (map (without_ids ids) targets)

-- the targets except this child
abbrev pub without_child : ℕ → List Target → List Target
without_child child targets = filter (λ (t : Target). not (t.child == child)) targets
