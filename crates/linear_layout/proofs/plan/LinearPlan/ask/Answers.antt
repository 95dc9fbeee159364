use Rattle.std.proofs.Common.{◌≡◌, ◌∙◌, ap}
use Rattle.std.specs.Option.{option_map}
use Rattle.linear_layout.proofs.LinedLaws.{ask-lined}
use Rattle.linear_layout.proofs.PlanLaws.{ask-first, ask-weight, of_group, plan_of}
use Rattle.linear_layout.specs.Line.{kid_with, lined, own_in, specs_in}
use Rattle.linear_layout.specs.LinearPlan.{RepresentsLine}
use Rattle.view_model.specs.declared.facts.Facts.{Facts}
use Rattle.view_model.specs.LinearLayout.{linear_rule}
use Rattle.view_model.specs.Measuring.{Specs, pair_of}
use Rattle.linear_layout.proofs.plan.LinearPlan.ask.Goals as goal

pub returns-in-Weight : goal.returns-in-Weight
returns-in-Weight c = λ own specs past taken s.
    let plan = c.args.self.now in
    let kid = kid_with c.args.kid.now c.args.size in
    of_group (λ (own : Facts) (specs : Specs). RepresentsLine plan own specs past taken → c.ask-in-Weight.result ≡ option_map pair_of ((linear_rule own specs).ask past taken kid))
    plan (lined own) specs (plan_of plan (lined own) specs past taken s)
    (ask-weight plan (own_in plan.line) (specs_in plan.line) past taken kid c.in-Weight.pass c.ask-in-Weight.result c.in-Weight.is (λ first w. c.ask-in-Weight.ensures first taken w)) s
    ∙ ap (option_map pair_of) (ask-lined own specs past taken kid)

pub returns-in-Uniform : goal.returns-in-Uniform
returns-in-Uniform c = λ own specs past taken s. c.ask_uniform.ensures _ own specs past taken c.in-Uniform.is s

pub returns-in-First : goal.returns-in-First
returns-in-First c = λ own specs past taken s.
    let plan = c.args.self.now in
    let kid = kid_with c.args.kid.now c.args.size in
    of_group (λ (own : Facts) (specs : Specs). RepresentsLine plan own specs past taken → c.ask.result ≡ option_map pair_of ((linear_rule own specs).ask past taken kid))
    plan (lined own) specs (plan_of plan (lined own) specs past taken s)
    (ask-first plan (own_in plan.line) (specs_in plan.line) past taken kid c.ask.result c.in-First.is (λ kids f. c.ask.ensures kids f)) s
    ∙ ap (option_map pair_of) (ask-lined own specs past taken kid)
