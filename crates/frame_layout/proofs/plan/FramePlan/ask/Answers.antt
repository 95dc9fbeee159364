use Rattle.std.proofs.Common.{sym, ◌∙◌}
use Rattle.view_model.specs.Facts.{layout_facts}
use Rattle.frame_layout.proofs.PlanLaws.{ask-first, ask-second}
use Rattle.frame_layout.proofs.plan.FramePlan.ask.Goals as goal

pub returns-in-None : goal.returns-in-None
returns-in-None c = λ own specs past taken.
    ask-first c.args.self.now own specs past taken (record { facts = layout_facts c.args.kid.now; size = c.args.size }) c.first_specs.result c.in-None.is (c.first_specs.ensures own specs)

pub returns-then-matches_parent : goal.returns-then-matches_parent
returns-then-matches_parent c = λ own specs past taken.
    ask-second c.args.self.now own specs past taken (record { facts = layout_facts c.args.kid.now; size = c.args.size }) c.in-Some.room c.second_specs.result c.in-Some.is
    (sym c.matches_parent.ensures ∙ c.if-matches_parent.true) (c.second_specs.ensures own specs)
