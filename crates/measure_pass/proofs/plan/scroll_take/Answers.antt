use Rattle.measure_pass.proofs.plan.scroll_take.Goals as goal

pub returns : goal.returns
returns c = λ group past taken represents few. (represents.0, rw represents.0 (c.take.ensures group.own group.specs past taken represents.1))
