use Rattle.std.proofs.Common.{[]}
use Rattle.view_model.specs.Facts.{layout_facts}
use Rattle.scroll_view.proofs.PlanLaws.{take-first}
use Rattle.scroll_view.proofs.plan.ScrollPlan.take.Goals as goal

pub returns-then-not-self : goal.returns-then-not-self
returns-then-not-self c = λ own specs past taken.
    take-first c.args.self.now c.take.new.self own specs past taken (layout_facts c.args.kid.now) c.args.size (cc) (c.take.ensures own specs [] taken)
