use Rattle.std.proofs.Common.{◌∙◌}
use Rattle.view_model.specs.Cycles.{link_of}
use Rattle.view_model.specs.PlainTree.{PlainView}
use Rattle.view_tree.specs.Rows.{children_of_first, part_from}
use Rattle.view_tree.proofs.forest.Walks.{walk_falls, walk_on}
use Rattle.view_tree.proofs.grafts.EntryLaws.{each_step}
use Rattle.view_tree.proofs.tree.ViewTree.kids_then.Goals as goal

pub loop-next-smaller : goal.loop-next-smaller
loop-next-smaller c = walk_falls c.args.self.now.tree _ c.loop-next.next c.next-next.result c.in-Some.kid c.in-Some.is c.loop-next.invariant.walk c.next-next.ensures.part

pub loop-next-preserved : goal.loop-next-preserved
loop-next-preserved c =
    let i = rw c.in-Some.is at c.loop-next.invariant in
    let tree = c.args.self.now.tree in
    let part = c.next-next.ensures.part in
    record {
      walk = walk_on tree (children_of_first (part_from c.args.parent tree)) c.in-Some.kid c.next-next.result i.walk part c.next-next.ensures.live;
      links = rw (c.in_ok-push.ensures.links, part) (each_step link_of c.link.result tree c.in-Some.kid c.loop-next.kids.links.items i.walk.live c.link.ensures ∙ i.links);
      numbers = rw (c.in_ok-push.ensures.numbers, part)
          (each_step (λ (view : PlainView). view.number) c.number.result tree c.in-Some.kid c.loop-next.kids.numbers.items i.walk.live c.number.ensures.value ∙ i.numbers);
    }
