use Rattle.std.proofs.Common.{arith, below_more}
use Rattle.relative_layout.proofs.orders.NamingLaws.{leads_before}
use Rattle.relative_layout.proofs.ordering.listing.leads_back.Goals as goal

pub loop-place-preserved : goal.loop-place-preserved
loop-place-preserved c = below_more _ _ c.loop-place.invariant (c.names_back.ensures c.if-not-names_back.false)

pub returns : goal.returns
returns c = λ _. leads_before c.args.axis c.args.kids.now (λ place small. c.loop-place.invariant place (omega arith))
