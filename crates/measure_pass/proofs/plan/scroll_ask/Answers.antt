use Rattle.measure_pass.proofs.plan.scroll_ask.Goals as goal

pub returns : goal.returns
returns c = λ group past taken represents. rw represents.0 (c.ask.ensures group.own group.specs past taken represents.1)
