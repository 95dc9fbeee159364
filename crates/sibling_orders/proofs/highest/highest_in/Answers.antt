use Rattle.sibling_orders.proofs.HighestLaws.{above_both}
use Rattle.sibling_orders.proofs.highest.highest_in.Goals as goal

pub returns : goal.returns
returns c = above_both c.highest_on.result c.highest_on-2.result c.higher.result c.args.rules.now c.highest_on.ensures c.highest_on-2.ensures c.higher.ensures.first c.higher.ensures.second
