use Rattle.view_tree.proofs.forest.Walks.{walk_falls}
use Rattle.measure_pass.proofs.measuring.alike.are_sized.Goals as goal

pub loop-next-smaller : goal.loop-next-smaller
loop-next-smaller c =
    walk_falls c.args.tree.now.tree _ c.loop-next.next c.next-next.result c.in-Some.kid c.in-Some.is c.loop-next.invariant.walk c.next-next.ensures.part
