use Rattle.relative_layout.proofs.orders.TakingLaws.{IsTaking-passed}
use Rattle.relative_layout.proofs.ordering.topological.Taking.look_at.Goals as goal

pub must_wait-requires-clause-naming : goal.must_wait-requires-clause-naming
must_wait-requires-clause-naming c = c.requires.naming

pub must_wait-requires-clause-size : goal.must_wait-requires-clause-size
must_wait-requires-clause-size c = c.requires.taking.size

pub must_wait-requires-clause-counts : goal.must_wait-requires-clause-counts
must_wait-requires-clause-counts c = c.requires.taking.counts

pub returns-then-must_wait-clause-taking : goal.returns-then-must_wait-clause-taking
returns-then-must_wait-clause-taking c =
    let old = c.args.self.now in
    IsTaking-passed c.args.naming.now.axis c.args.kids.now old.left.items old.taken.items old.todo.items old.order.items c.args.place (λ fresh. c.must_wait.ensures.yes c.if-must_wait.true) c.requires.taking

pub take-requires-clause-naming : goal.take-requires-clause-naming
take-requires-clause-naming c = c.requires.naming

pub take-requires-clause-ready : goal.take-requires-clause-ready
take-requires-clause-ready c = c.must_wait.ensures.no c.if-must_wait.false

pub take-requires-clause-taking : goal.take-requires-clause-taking
take-requires-clause-taking c = c.requires.taking

pub returns-clause-taking : goal.returns-clause-taking
returns-clause-taking c = c.in_ok-take.ensures.taking

pub returns-clause-effort : goal.returns-clause-effort
returns-clause-effort c = c.in_ok-take.ensures.effort
