use Rattle.std.proofs.Common.{◌≡◌, ℕ, take}
use Rattle.touch_event.specs.PointerSets.{has_id}
use Rattle.world_parts.specs.Pointers.{is_pressed}
use Rattle.world_parts.proofs.pointers.ids_of.Given as goal

abbrev pub invariant-loop-point : goal.invariant-loop-point
invariant-loop-point l = ((id : ℕ) → has_id l.ids id ≡ is_pressed id (take l.point-index l.points)) × (l.point-index ≡ 0 → l.ids ≡ 0)
