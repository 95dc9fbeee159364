-- The part of an event that a set of pointers makes.
use Rattle.std.specs.Prelude.{ℕ, ◌==◌, Bool, if◌then◌else◌, List, [], ◌∷◌, Option, Some, None, filter, length}
use Rattle.std.specs.List.{list_any}
use Rattle.touch_event.specs.declared.event.Action.{Action}
use Rattle.touch_event.specs.declared.event.Action.TheVariants.{Down, Up, Move, Cancel, PointerDown, PointerUp}
use Rattle.touch_event.specs.declared.event.Event.{Event}
use Rattle.touch_event.specs.declared.event.Point.{Point}

-- the points whose ids are in the set; an id without a point is ignored
abbrev pub kept_points : (ℕ → Bool) → List Point → List Point
kept_points ids points = filter (λ (p : Point). ids p.id) points

abbrev pub has_point : ℕ → List Point → Bool
has_point id points = list_any (λ (p : Point). p.id == id) points

-- what an action is to a part of the pointers: is the acting one kept, and is one kept alone
abbrev pub split_action : Action → Bool → Bool → Action
split_action Down kept alone = Down
split_action Up kept alone = Up
split_action Move kept alone = Move
split_action Cancel kept alone = Cancel
split_action PointerDown kept alone = if kept then (if alone then Down else PointerDown) else Move
split_action PointerUp kept alone = if kept then (if alone then Up else PointerUp) else Move

-- the event for a view that sees only these points; none if there are none
abbrev pub with_points : Event → List Point → Option Event
with_points event [] = None
with_points event (p ∷ points) = Some (record {
  action = split_action event.action (has_point event.pointer (p ∷ points)) (length (p ∷ points) == 1);
  pointer = event.pointer;
  points = record { items = p ∷ points };
})

-- the part of an event that a set of pointers makes
abbrev pub split_event : (ℕ → Bool) → Event → Option Event
split_event ids event = with_points event (kept_points ids event.points.items)
