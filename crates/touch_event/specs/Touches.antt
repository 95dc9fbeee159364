-- Events of pointers that there can be.
use Rattle.std.specs.Prelude.{ℕ, ◌<◌, All}
use Rattle.std.specs.List.{AllPairs}
use Rattle.touch_event.specs.declared.event.Event.{Event}
use Rattle.touch_event.specs.declared.event.Point.{Point}
use Rattle.touch_event.specs.Numbers.{max_pointers}

-- the pointer that acts and those that are down have ids that a pointer may have, and the points are in the order of
-- their ids
pub record IsTouch (event : Event) : Type 0 where
  pub pointer : event.pointer < max_pointers
  pub ids : All (λ (p : Point). p.id < max_pointers) event.points.items
  pub rising : AllPairs (λ (p q : Point). p.id < q.id) event.points.items

-- the number of a pointer
abbrev pub IsPointer : ℕ → Type 0
IsPointer pointer = pointer < max_pointers
