use Rattle.std.proofs.Common.{arith}
use Rattle.sibling_orders.proofs.indexes.is_straight.Goals as goal

pub returns : goal.returns
returns c = λ _ p small. c.loop-p.invariant p (let end = c.loop-p-test.false in omega arith)
