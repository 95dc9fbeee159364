use Rattle.std.proofs.Common.{[]}
use Rattle.scroll_view.proofs.PlanLaws.{finish-size}
use Rattle.scroll_view.proofs.plan.ScrollPlan.finish.Goals as goal

pub returns-clause-value : goal.returns-clause-value
returns-clause-value c = λ own specs past taken.
    finish-size c.args.self.now own specs past taken c.finish.result (λ own specs first. c.finish.ensures.value own specs [] first)
