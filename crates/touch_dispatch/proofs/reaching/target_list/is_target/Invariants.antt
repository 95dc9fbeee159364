use Rattle.std.proofs.Common.{◌≡◌, length}
use Rattle.touch_dispatch.specs.gesture.Kept.{gesture_of}
use Rattle.touch_targets.specs.Captures.{first_child, is_target, targets_from}
use Rattle.touch_dispatch.proofs.reaching.target_list.is_target.Given as goal

abbrev pub invariant-loop-next : goal.invariant-loop-next
invariant-loop-next l = let targets = (gesture_of l.gesture).targets l.group in record {
  next : l.next ≡ first_child (targets_from l.next targets);
  rest : is_target l.child (targets_from l.next targets) ≡ is_target l.child targets;
}

abbrev pub decreases-loop-next : goal.decreases-loop-next
decreases-loop-next l = length (targets_from l.next ((gesture_of l.gesture).targets l.group))
