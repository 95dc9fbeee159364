use Rattle.measure_pass.proofs.plan.frame_turn.Goals as goal

pub returns : goal.returns
returns c = λ group past taken represents.
    let t = c.turn.ensures group.own group.specs past taken represents.1 in
    record { answers = rw represents.0 t.answers; follows = λ yes. (represents.0, t.follows yes); ends = λ no. (represents.0, t.ends no) }
