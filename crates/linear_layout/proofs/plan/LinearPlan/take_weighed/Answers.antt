use Rattle.std.proofs.Common.{◌∷◌, [], ◌++◌, subst}
use Rattle.linear_layout.proofs.LinedLaws.{taken_as-lined}
use Rattle.linear_layout.proofs.PlanLaws.{of_group, plan_of, take-weight}
use Rattle.linear_layout.specs.Line.{lined, own_in, specs_in}
use Rattle.linear_layout.specs.LinearPlan.{RepresentsLine}
use Rattle.linear_layout.specs.declared.plan.Phase.TheVariants.{Weight}
use Rattle.view_model.specs.declared.facts.Facts.{Facts}
use Rattle.view_model.specs.Facts.{layout_facts}
use Rattle.view_model.specs.LinearLayout.{linear_rule}
use Rattle.view_model.specs.Measuring.{Measured, Specs, taken_as}
use Rattle.linear_layout.proofs.plan.LinearPlan.take_weighed.Goals as goal

pub returns-in-Weight : goal.returns-in-Weight
returns-in-Weight c = λ pass own specs past taken is s few.
    let plan = c.args.self.now in
    let facts = layout_facts c.args.kid.now in
    subst (λ (kid : Measured). RepresentsLine (record plan { phase = Weight c.with.result }) (lined own) specs past (taken ++ kid ∷ [])) (taken_as-lined own specs past taken facts c.args.size)
    (of_group (λ (own : Facts) (specs : Specs). RepresentsLine plan own specs past taken
    → RepresentsLine (record plan { phase = Weight c.with.result }) own specs past (taken ++ taken_as (linear_rule own specs) past taken facts c.args.size ∷ []))
    plan (lined own) specs (plan_of plan (lined own) specs past taken s)
    (take-weight plan (own_in plan.line) (specs_in plan.line) past taken facts c.args.size c.in-Weight.pass c.with.result c.in-Weight.is (λ first w. c.with.ensures first taken few w)) s)
