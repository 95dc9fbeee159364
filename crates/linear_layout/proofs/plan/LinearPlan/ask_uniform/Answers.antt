use Rattle.std.proofs.Common.{◌≡◌, ◌∙◌, ap, FitsSigned, w32, rules}
use Rattle.std.specs.Option.{option_map}
use Rattle.std.proofs.lemmas.Int.{to_z-of_z}
use Rattle.linear_layout.proofs.LinedLaws.{ask-lined}
use Rattle.linear_layout.proofs.PlanLaws.{ask-uniform, of_group, plan_of}
use Rattle.linear_layout.specs.Line.{kid_with, lined, own_in, specs_in}
use Rattle.linear_layout.specs.LinearPlan.{RepresentsLine}
use Rattle.view_model.specs.declared.facts.Facts.{Facts}
use Rattle.view_model.specs.LinearLayout.{linear_rule, uniform_pass}
use Rattle.view_model.specs.Measuring.{Specs, pair_of}
use Rattle.linear_layout.proofs.plan.LinearPlan.ask_uniform.Goals as goal

pub returns : goal.returns
returns c = λ weighed own specs past taken is s.
    let plan = c.args.self.now in
    let kid = kid_with c.args.kid.now c.args.size in
    let fits : FitsSigned w32 c.own_breadth.result = search rules in
    let pair : c.ask_uniform.result ≡ option_map pair_of (uniform_pass (own_in plan.line) c.own_breadth.result kid) = simp to_z-of_z at c.ask_uniform.ensures in
    of_group (λ (own : Facts) (specs : Specs). RepresentsLine plan own specs past taken → c.ask_uniform.result ≡ option_map pair_of ((linear_rule own specs).ask past taken kid))
    plan (lined own) specs (plan_of plan (lined own) specs past taken s)
    (λ t. pair ∙ ask-uniform plan (own_in plan.line) (specs_in plan.line) past taken kid _ c.own_breadth.result is c.own_breadth.ensures.once c.own_breadth.ensures.twice t) s
    ∙ ap (option_map pair_of) (ask-lined own specs past taken kid)
