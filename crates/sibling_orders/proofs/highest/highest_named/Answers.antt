use Rattle.std.proofs.Common.{arith, below_more}
use Rattle.sibling_orders.proofs.HighestLaws.{above_more}
use Rattle.sibling_orders.proofs.highest.highest_named.Goals as goal

pub loop-link-preserved : goal.loop-link-preserved
loop-link-preserved c =
    below_more _ _ (λ place small. above_more _ c.loop-link.highest c.higher-highest.result (c.loop-link.invariant place small) c.higher-highest.ensures.first)
    (above_more _ c.highest_in.result c.higher-highest.result c.highest_in.ensures c.higher-highest.ensures.second)

pub returns : goal.returns
returns c = λ place small. c.loop-link.invariant place (omega arith)
