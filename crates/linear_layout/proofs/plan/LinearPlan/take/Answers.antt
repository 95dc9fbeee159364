use Rattle.std.proofs.Common.{◌∷◌, [], ◌++◌, subst, ap, ◌∙◌, pos}
use Rattle.std.specs.Prelude.{if◌then◌else◌}
use Rattle.linear_layout.proofs.LinedLaws.{taken_as-lined}
use Rattle.linear_layout.proofs.PlanLaws.{of_group, plan_of, take-first, take-uniform}
use Rattle.linear_layout.specs.Line.{lined, own_in, specs_in}
use Rattle.linear_layout.specs.LinearPlan.{RepresentsLine}
use Rattle.view_model.specs.declared.facts.Facts.{Facts}
use Rattle.view_model.specs.Facts.{layout_facts}
use Rattle.view_model.specs.LinearLayout.{linear_rule}
use Rattle.view_model.specs.Measuring.{Measured, Specs, taken_as}
use Rattle.linear_layout.proofs.plan.LinearPlan.take.Goals as goal

pub returns-in-Weight : goal.returns-in-Weight
returns-in-Weight c = λ own specs past taken s few. c.take_weighed.ensures _ own specs past taken c.in-Weight.is s few

pub returns-in-First : goal.returns-in-First
returns-in-First c = λ own specs past taken s few.
    let plan = c.args.self.now in
    let facts = layout_facts c.args.kid.now in
    subst (λ (kid : Measured). RepresentsLine (record plan { first = c.with-self.result }) (lined own) specs past (taken ++ kid ∷ [])) (taken_as-lined own specs past taken facts c.args.size)
    (of_group (λ (own : Facts) (specs : Specs). RepresentsLine plan own specs past taken
    → RepresentsLine (record plan { first = c.with-self.result }) own specs past (taken ++ taken_as (linear_rule own specs) past taken facts c.args.size ∷ []))
    plan (lined own) specs (plan_of plan (lined own) specs past taken s)
    (take-first plan (own_in plan.line) (specs_in plan.line) past taken facts c.args.size c.counted-counted.result c.with-self.result c.in-First.is
    (c.counted-counted.ensures ∙ ap (λ v. if v then (record { w = pos 0; h = pos 0 }) else c.args.size) c.skips.ensures) (λ f. c.with-self.ensures taken few f)) s)

pub returns-in-Uniform : goal.returns-in-Uniform
returns-in-Uniform c = λ own specs past taken s few. take-uniform c.args.self.now (lined own) specs past taken _ _ c.in-Uniform.is s
