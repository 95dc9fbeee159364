use Rattle.std.proofs.Common.{sym, arith}
use Rattle.sibling_orders.proofs.GroupLaws.{place_in-found, place_in-none}
use Rattle.sibling_orders.proofs.groups.place_of_kid.Goals as goal

pub returns-then-other-kid : goal.returns-then-other-kid
returns-then-other-kid c = sym (place_in-found c.args.kids.now c.args.kid c.loop-place.place c.loop-place-test.true c.if-other-kid.true c.loop-place.invariant)

pub returns : goal.returns
returns c = sym (place_in-none c.args.kids.now c.args.kid (λ k less. c.loop-place.invariant k (let end = c.loop-place-test.false in omega arith)))
