-- The part of an event, made in the coordinates of a child at once.
use Rattle.std.proofs.Common.{◌≡◌, ℕ, ℤ, List, Option, Some, None, [], ◌∷◌, false, refl, length, map, arith}
use Rattle.std.specs.Prelude.{◌==◌, not, if◌then◌else◌}
use Rattle.std.specs.Option.{option_map}
use Rattle.geom_core.specs.declared.geometry.Rect.{Rect}
use Rattle.touch_dispatch.specs.reaching.Points.{local_event, local_point}
use Rattle.touch_event.specs.Splitting.{has_point, split_action, with_points}
use Rattle.touch_event.specs.declared.event.Event.{Event}
use Rattle.touch_event.specs.declared.event.Point.{Point}
use Rattle.std.proofs.lemmas.List.{length-map}

local_id : (rect : Option Rect) (offset : ℤ) (p : Point) → (local_point rect offset p).id ≡ p.id
unfolding local_point
local_id rect offset p = refl

-- coordinates change no pointer
local_has : (rect : Option Rect) (offset : ℤ) (id : ℕ) (points : List Point) → has_point id (map (local_point rect offset) points) ≡ has_point id points
local_has rect offset id [] = refl
local_has rect offset id (p ∷ points) = rw (local_id rect offset p, local_has rect offset id points) refl

pub part_is : (rect : Option Rect) (offset : ℤ) (event : Event) (kept : List Point)
    → (if not (length (map (local_point rect offset) kept) == 0)
    then Some (let part : Event = record {
      action = split_action event.action (has_point event.pointer (map (local_point rect offset) kept)) (length (map (local_point rect offset) kept) == 1);
      pointer = event.pointer;
      points = record { items = map (local_point rect offset) kept };
    } in part)
    else None) ≡ option_map (local_event rect offset) (with_points event kept)
part_is rect offset event [] = refl
part_is rect offset event (p ∷ kept) =
    let some : (length (p ∷ kept) == 0) ≡ false = grind (arith) in
    rw (local_has rect offset event.pointer (p ∷ kept), length-map, some) refl

pub part_by : (rect : Option Rect) (offset : ℤ) (event : Event) (kept items : List Point) → items ≡ map (local_point rect offset) kept
    → (if not (length items == 0)
    then Some (let part : Event = record { action = split_action event.action (has_point event.pointer items) (length items == 1); pointer = event.pointer; points = record { items = items } } in part)
    else None) ≡ option_map (local_event rect offset) (with_points event kept)
part_by rect offset event kept items e = rw e (part_is rect offset event kept)
