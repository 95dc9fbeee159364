use Rattle.std.proofs.Common.{Some, ◌∙◌, ap}
use Rattle.touch_dispatch.proofs.steps.TargetLaws.{TargetStep, oldest_on, target_step}
use Rattle.touch_dispatch.specs.Dispatch.{oldest_or}
use Rattle.touch_dispatch.specs.gesture.Kept.{gesture_of}
use Rattle.touch_dispatch.proofs.reaching.target_list.oldest.Goals as goal
use Rattle.touch_dispatch.proofs.reaching.target_list.oldest.Goals.{After-next-next}

step : (c : After-next-next) → TargetStep c.in-Some.target c.loop-next.next c.next-next.result ((gesture_of c.args.gesture.now).targets c.args.group)
step c = target_step _ _ _ _ c.in-Some.is c.loop-next.invariant.next (c.next-next.ensures.part c.args.group) (c.next-next.ensures.child c.args.group)

pub loop-next-smaller : goal.loop-next-smaller
loop-next-smaller c = (step c).fewer

pub loop-next-preserved : goal.loop-next-preserved
loop-next-preserved c =
    let s = step c in
    record {
      next = s.first;
      rest = ap (oldest_or (Some c.in-Some.target)) s.part ∙ oldest_on c.in-Some.target c.loop-next.last _ s.there ∙ rw c.in-Some.is at c.loop-next.invariant.rest;
    }
