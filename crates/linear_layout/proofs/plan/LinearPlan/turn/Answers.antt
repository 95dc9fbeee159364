use Rattle.std.proofs.Common.{◌∙◌, sym, true}
use Rattle.linear_layout.proofs.LinedLaws.{TurnsLine-lined}
use Rattle.linear_layout.proofs.PlanLaws.{TurnsLine, of_group, plan_of, turn-first, turn-over, turn-uniform, turn-weight}
use Rattle.linear_layout.specs.declared.plan.Phase.TheVariants.{Weight}
use Rattle.linear_layout.specs.Line.{lined, own_in, specs_in}
use Rattle.linear_layout.specs.LinearPlan.{RepresentsLine}
use Rattle.view_model.specs.declared.facts.Facts.{Facts}
use Rattle.view_model.specs.Measuring.{Specs}
use Rattle.linear_layout.proofs.plan.LinearPlan.turn.Goals as goal

pub returns-then-leads_to_weight_pass : goal.returns-then-leads_to_weight_pass
returns-then-leads_to_weight_pass c = λ own specs past taken s.
    let plan = c.args.self.now in
    TurnsLine-lined _ own specs past taken _ (of_group (λ (own : Facts) (specs : Specs). RepresentsLine plan own specs past taken → TurnsLine (record plan { phase = Weight c.start.result }) own specs past taken true)
    plan (lined own) specs (plan_of plan (lined own) specs past taken s)
    (turn-weight plan (own_in plan.line) (specs_in plan.line) past taken c.start.result c.in-First.is
    (λ first f. sym (c.leads_to_weight_pass.ensures first f) ∙ c.if-leads_to_weight_pass.true) (λ first f. c.start.ensures first f)) s)

pub returns-in-Weight : goal.returns-in-Weight
returns-in-Weight c = λ own specs past taken s.
    let plan = c.args.self.now in
    let turn = c.turn_uniform-in-Weight in
    TurnsLine-lined _ own specs past taken _ (of_group (λ (own : Facts) (specs : Specs). RepresentsLine plan own specs past taken → TurnsLine turn.new.self own specs past taken turn.result)
    plan (lined own) specs (plan_of plan (lined own) specs past taken s)
    (turn-uniform plan turn.new.self (own_in plan.line) (specs_in plan.line) past taken c.in-Weight.pass turn.result c.in-Weight.is turn.ensures.reported turn.ensures.unreported) s)

pub returns-else-leads_to_weight_pass : goal.returns-else-leads_to_weight_pass
returns-else-leads_to_weight_pass c = λ own specs past taken s.
    let plan = c.args.self.now in
    let turn = c.turn_uniform in
    TurnsLine-lined _ own specs past taken _ (of_group (λ (own : Facts) (specs : Specs). RepresentsLine plan own specs past taken → TurnsLine turn.new.self own specs past taken turn.result)
    plan (lined own) specs (plan_of plan (lined own) specs past taken s)
    (turn-first plan turn.new.self (own_in plan.line) (specs_in plan.line) past taken turn.result c.in-First.is
    (λ kids f. sym (c.leads_to_weight_pass.ensures kids f) ∙ c.if-leads_to_weight_pass.false) turn.ensures.reported turn.ensures.unreported) s)

pub returns-in-Uniform : goal.returns-in-Uniform
returns-in-Uniform c = λ own specs past taken s. TurnsLine-lined c.args.self.now own specs past taken _ (turn-over c.args.self.now (lined own) specs past taken _ c.in-Uniform.is s)
