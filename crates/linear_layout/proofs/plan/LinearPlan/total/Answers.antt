use Rattle.std.proofs.Common.{◌≡◌, ◌∙◌, sym, [], ◌∷◌, ◌++◌, Option, Some, None, FitsSigned, w64, rules, subst}
use Rattle.std.proofs.lemmas.Int.{to_z-of_z}
use Rattle.linear_layout.proofs.LinedLaws.{total-lined}
use Rattle.linear_layout.proofs.PlanLaws.{of_group, plan_of, total-is}
use Rattle.linear_layout.specs.Line.{lined, own_in, specs_in}
use Rattle.linear_layout.specs.LinearPlan.{RepresentsLine, weighed_by}
use Rattle.linear_layout.specs.Passes.{IsWeightPass}
use Rattle.view_model.specs.declared.facts.Facts.{Facts}
use Rattle.view_model.specs.LinearLayout.{linear_rule}
use Rattle.view_model.specs.Measuring.{Specs}
use Rattle.linear_layout.proofs.plan.LinearPlan.total.Goals as goal

none_some : {A : Type 0} {X : Type 0} {o : Option X} {x : X} → o ≡ None → o ≡ Some x → A
none_some a b = absurd (cc)

some_same : {X : Type 0} {o : Option X} {x y : X} → o ≡ Some x → o ≡ Some y → x ≡ y
some_same a b = cc

pub returns-in-Some : goal.returns-in-Some
returns-in-Some c = λ own specs past taken s.
    let plan = c.args.self.now in
    let total = c.full_length.result in
    let fits : FitsSigned w64 total = search rules in
    let ran : weighed_by plan.phase ≡ Some c.in-Some.pass = sym c.weighed.ensures ∙ c.in-Some.is in
    simp to_z-of_z
    (of_group (λ (own : Facts) (specs : Specs). RepresentsLine plan own specs past taken → total ≡ (linear_rule own specs).total (past ++ taken ∷ []))
    plan (lined own) specs (plan_of plan (lined own) specs past taken s)
    (total-is plan (own_in plan.line) (specs_in plan.line) past taken total
    (λ first none f. none_some none ran)
    (λ pass first second some w. c.full_length.ensures first second (subst (λ pass. IsWeightPass pass (own_in plan.line) (specs_in plan.line) first second) (some_same some ran) w))) s ∙ total-lined own specs (past ++ taken ∷ []))

pub returns-in-None : goal.returns-in-None
returns-in-None c = λ own specs past taken s.
    let plan = c.args.self.now in
    let total = c.full_length-in-None.result in
    let fits : FitsSigned w64 total = search rules in
    let not_ran : weighed_by plan.phase ≡ None = sym c.weighed.ensures ∙ c.in-None.is in
    simp to_z-of_z
    (of_group (λ (own : Facts) (specs : Specs). RepresentsLine plan own specs past taken → total ≡ (linear_rule own specs).total (past ++ taken ∷ []))
    plan (lined own) specs (plan_of plan (lined own) specs past taken s)
    (total-is plan (own_in plan.line) (specs_in plan.line) past taken total
    (λ first none f. c.full_length-in-None.ensures.value first f)
    (λ pass first second some w. none_some not_ran some)) s ∙ total-lined own specs (past ++ taken ∷ []))
