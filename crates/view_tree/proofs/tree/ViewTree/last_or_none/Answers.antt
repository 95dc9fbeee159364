use Rattle.std.proofs.Common.{subst, sym}
use Rattle.view_tree.proofs.orders.IdPlaces.{no_child}
use Rattle.view_tree.proofs.orders.LastLaws.{none_reached}
use Rattle.view_model.specs.Cycles.{links_in, numbers_in}
use Rattle.sibling_orders.specs.Latest.{IsLatest}
use Rattle.view_tree.specs.Rows.{children_of_first, part_from, views_of}
use Rattle.view_tree.proofs.tree.ViewTree.last_or_none.Goals as goal

pub returns-then-is_no_views-clause-value : goal.returns-then-is_no_views-clause-value
returns-then-is_no_views-clause-value c =
    sym (no_child c.args.self.now c.args.view c.args.id c.is_no_views.ensures.is_tree c.requires.live (c.is_no_views.ensures.value c.if-is_no_views.true))

pub returns-in-None-clause-value : goal.returns-in-None-clause-value
returns-in-None-clause-value c =
    let kids = children_of_first (part_from c.args.view c.args.self.now.tree) in
    none_reached c.args.id kids (c.is_no_views.ensures.named c.if-is_no_views.false)
    (subst (IsLatest c.args.id (links_in (views_of kids)) (numbers_in (views_of kids))) c.in-None.is c.latest_number.ensures)
