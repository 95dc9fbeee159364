use Rattle.std.proofs.Common.{◌≡◌, ◌≤◌}
use Rattle.touch_dispatch.specs.gesture.Kept.{Kept}
use Rattle.world_parts.specs.Places.{AreFree, AreUnknown, with_places}
use Rattle.world_parts.proofs.opening.close_all.Given as goal

abbrev pub invariant-loop-left : goal.invariant-loop-left
invariant-loop-left l = record {
  within : l.left ≤ l.count;
  places : (before : Kept) → l.fn.gesture ≡ with_places l.first l.count before → AreFree l.first before → AreUnknown l.first l.count before → l.gesture ≡ with_places l.first l.left before;
}

abbrev pub decreases-loop-left : goal.decreases-loop-left
decreases-loop-left l = l.left
