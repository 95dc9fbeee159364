use Rattle.std.proofs.Common.{◌-◌, arith}
use Rattle.relative_layout.proofs.ordering.topological.all_places.Goals as goal

pub returns-clause-inside : goal.returns-clause-inside
returns-clause-inside c = λ p h. let at = c.loop-passed.invariant.each p (omega arith) in omega (arith, at)

pub returns-clause-each : goal.returns-clause-each
returns-clause-each c = λ place h.
    let at = c.loop-passed.invariant.each (c.args.count - 1 - place) (omega arith) in
    (c.args.count - 1 - place, omega arith, omega arith)
