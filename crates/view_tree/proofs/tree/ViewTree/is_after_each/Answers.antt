use Rattle.std.proofs.Common.{subst}
use Rattle.view_tree.specs.Rows.{children_of_first, part_from}
use Rattle.view_tree.specs.tree.Staying.{AreBefore}
use Rattle.view_tree.proofs.forest.Walks.{walk_falls, walk_on, walk_start}
use Rattle.view_tree.proofs.orders.StayLaws.{before_more}
use Rattle.view_tree.proofs.tree.ViewTree.is_after_each.Goals as goal

pub loop-next-init : goal.loop-next-init
loop-next-init c =
    let tree = c.args.self.now.tree in
    record {
      walk = walk_start tree (children_of_first (part_from c.args.parent tree)) c.first-next.result c.first-next.ensures.part c.first-next.ensures.live;
      before = λ before. subst (AreBefore c.args.id c.args.kid.now.number c.args.kid.now.kids.now c.args.kid.now.order.now) c.first-next.ensures.part before;
    }

pub loop-next-smaller : goal.loop-next-smaller
loop-next-smaller c = walk_falls c.args.self.now.tree _ c.loop-next.next c.next-next.result c.in-Some.sibling c.in-Some.is c.loop-next.invariant.walk c.next-next.ensures.part

pub loop-next-preserved : goal.loop-next-preserved
loop-next-preserved c =
    let i = rw c.in-Some.is at c.loop-next.invariant in
    let tree = c.args.self.now.tree in
    let part = c.next-next.ensures.part in
    let kid = c.args.kid.now in
    record {
      walk = walk_on tree (children_of_first (part_from c.args.parent tree)) c.in-Some.sibling c.next-next.result i.walk part c.next-next.ensures.live;
      before = λ before. i.before (before_more c.args.id kid.number kid.kids.now kid.order.now tree c.in-Some.sibling i.walk.live
          (c.is_after_named.ensures c.if-not-is_after_named.false)
          (subst (AreBefore c.args.id kid.number kid.kids.now kid.order.now) part before));
    }

pub returns : goal.returns
returns c = λ _. (rw c.in_default.is at c.loop-next.invariant).before tt
