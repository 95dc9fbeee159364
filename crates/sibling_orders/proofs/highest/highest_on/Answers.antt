use Rattle.std.proofs.Common.{ℕ, List, ap, arith, below_more, get_or}
use Rattle.relative_layout.proofs.orders.NamingLaws.{names-some}
use Rattle.sibling_orders.proofs.highest.highest_on.Goals as goal

pub loop-id-preserved : goal.loop-id-preserved
loop-id-preserved c =
    let more = c.higher-highest.ensures.first in
    let own = c.higher-highest.ensures.second in
    let here = ap (λ (ids : List ℕ). get_or ids c.loop-id.id-index 0) c.named_ids.ensures in
    below_more _ _ (λ k small. let less = c.loop-id.invariant k small in omega arith) (omega arith)

pub returns : goal.returns
returns c = λ id named.
    let some = names-some c.args.axis c.args.rules.now id named in
    let less = c.loop-id.invariant some.0 (let small = some.1 in omega arith) in
    let same = some.2 in
    omega arith
