use Rattle.std.proofs.Common.{◌≡◌, ◌∙◌, ap, [], ◌∷◌, ◌++◌, FitsSigned, w32, rules}
use Rattle.std.proofs.lemmas.Int.{to_z-of_z}
use Rattle.linear_layout.proofs.LinedLaws.{size-lined}
use Rattle.linear_layout.proofs.PlanLaws.{finish-size, of_group, plan_of}
use Rattle.linear_layout.specs.Line.{lined, own_in, specs_in}
use Rattle.linear_layout.specs.LinearPlan.{RepresentsLine}
use Rattle.view_model.specs.declared.facts.Facts.{Facts}
use Rattle.view_model.specs.LinearLayout.{linear_rule, size_by}
use Rattle.view_model.specs.Measuring.{Specs}
use Rattle.linear_layout.proofs.plan.LinearPlan.finish.Goals as goal

pub returns-clause-value : goal.returns-clause-value
returns-clause-value c = λ own specs past taken s.
    let plan = c.args.self.now in
    let along = c.own_length.result in
    let beside = c.own_breadth.result in
    let long : FitsSigned w32 along = search rules in
    let broad : FitsSigned w32 beside = search rules in
    let is : c.size_by.result ≡ size_by c.vertical.result along beside = simp to_z-of_z at c.size_by.ensures in
    of_group (λ (own : Facts) (specs : Specs). RepresentsLine plan own specs past taken → c.size_by.result ≡ (linear_rule own specs).size (past ++ taken ∷ []))
    plan (lined own) specs (plan_of plan (lined own) specs past taken s)
    (λ t. is ∙ ap (λ vertical. size_by vertical along beside) c.vertical.ensures
    ∙ finish-size plan (own_in plan.line) (specs_in plan.line) past taken along beside c.own_length.ensures.value c.own_breadth.ensures.once c.own_breadth.ensures.twice t) s
    ∙ size-lined own specs (past ++ taken ∷ [])
