use Rattle.std.proofs.Common.{◌≡◌, ◌≤◌, ◌-◌}
use Rattle.touch_dispatch.specs.gesture.Kept.{gesture_of}
use Rattle.world_parts.specs.Places.{AreOpened, AreUnknown, with_places}
use Rattle.world_parts.proofs.opening.open_all.Given as goal

abbrev pub invariant-loop-opened : goal.invariant-loop-opened
invariant-loop-opened l = record {
  within : l.opened ≤ l.count;
  places : l.gesture ≡ with_places l.first l.opened l.fn.gesture;
  gesture : gesture_of l.gesture ≡ gesture_of l.fn.gesture;
  there : AreOpened l.first l.opened l.fn.gesture l.gesture;
  unknown : AreUnknown l.first l.opened l.fn.gesture;
}

abbrev pub decreases-loop-opened : goal.decreases-loop-opened
decreases-loop-opened l = l.count - l.opened
