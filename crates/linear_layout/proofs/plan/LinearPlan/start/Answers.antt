use Rattle.std.proofs.Common.{refl}
use Rattle.linear_layout.proofs.plan.LinearPlan.start.Goals as goal

pub returns : goal.returns
returns c = (record { own_facts = c.of.ensures.own; own_specs = c.of.ensures.specs }, refl, c.new.ensures _ _)
