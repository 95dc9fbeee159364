use Rattle.std.proofs.Common.{sym, ◌∙◌}
use Rattle.touch_dispatch.proofs.steps.TargetLaws.{oldest_there}
use Rattle.touch_dispatch.specs.gesture.Kept.{gesture_of}
use Rattle.touch_dispatch.proofs.reaching.target_list.give_to_oldest.Goals as goal

pub put-requires-clause-may : goal.put-requires-clause-may
put-requires-clause-may c = c.requires.may c.in-Some.child (oldest_there c.in-Some.child ((gesture_of c.args.gesture.now).targets c.args.group) (sym c.oldest.ensures ∙ c.in-Some.is))
