use Rattle.std.proofs.Common.{subst}
use Rattle.view_model.specs.Cycles.{link_of, links_in, numbers_in}
use Rattle.sibling_orders.specs.Latest.{IsLatest}
use Rattle.view_tree.specs.Rows.{children_of_first, part_from, views_of}
use Rattle.view_tree.proofs.orders.NamedLaws.{before_none, before_past}
use Rattle.view_tree.proofs.orders.ListLaws.{length-each}
use Rattle.view_tree.proofs.tree.ViewTree.is_after_all.Goals as goal

pub returns-in-None : goal.returns-in-None
returns-in-None c = λ _.
    let kids = children_of_first (part_from c.args.parent c.args.self.now.tree) in
    let kid = c.args.kid.now in
    before_none c.args.id kid.number kid.kids.now kid.order.now kids c.requires.named
    (subst (IsLatest c.args.id (links_in (views_of kids)) (numbers_in (views_of kids))) c.in-None.is c.latest_number.ensures)

pub returns-then-is_past : goal.returns-then-is_past
returns-then-is_past c = λ _.
    let kids = children_of_first (part_from c.args.parent c.args.self.now.tree) in
    let kid = c.args.kid.now in
    before_past c.args.id kid.number c.in-Some.number kid.straight kid.kids.now kid.order.now kids (length-each link_of (views_of kids)) c.requires.named
    (subst (IsLatest c.args.id (links_in (views_of kids)) (numbers_in (views_of kids))) c.in-Some.is c.latest_number.ensures)
    c.requires.kid.own c.requires.kid.marked (c.is_past.ensures c.if-is_past.true)
