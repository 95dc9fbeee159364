use Rattle.std.proofs.Common.{◌∙◌}
use Rattle.view_tree.specs.Rows.{children_of_first, part_from}
use Rattle.view_tree.proofs.forest.Walks.{walk_falls, walk_on}
use Rattle.view_tree.proofs.orders.CycleLaws.{linked_step}
use Rattle.view_tree.proofs.tree.ViewTree.links_with.Goals as goal

pub loop-next-smaller : goal.loop-next-smaller
loop-next-smaller c = walk_falls c.args.self.now.tree _ c.loop-next.next c.next-next.result c.in-Some.kid c.in-Some.is c.loop-next.invariant.walk c.next-next.ensures.part

pub loop-next-preserved : goal.loop-next-preserved
loop-next-preserved c =
    let i = rw c.in-Some.is at c.loop-next.invariant in
    let tree = c.args.self.now.tree in
    let part = c.next-next.ensures.part in
    record {
      walk = walk_on tree (children_of_first (part_from c.args.parent tree)) c.in-Some.kid c.next-next.result i.walk part c.next-next.ensures.live;
      gathered = rw (c.in_ok-push.ensures.items, part)
          (linked_step c.args.number c.args.link c.link_or.result tree c.in-Some.kid c.loop-next.links.items i.walk.live c.link_or.ensures ∙ i.gathered);
    }
