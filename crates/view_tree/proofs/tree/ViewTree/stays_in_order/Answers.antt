use Rattle.std.proofs.Common.{◌≡◌, ◌⊎◌, ◌∙◌, ap, arith, length, subst, sym}
use Rattle.std.specs.Option.{option_copied}
use Rattle.view_model.specs.Cycles.{link_of}
use Rattle.relative_layout.specs.ordering.Naming.{padded_ids}
use Rattle.view_model.specs.declared.relative.Axis.TheVariants.{Horizontal, Vertical}
use Rattle.view_model.specs.declared.relative.Link.{Link}
use Rattle.view_tree.specs.tree.Sorted.{links_below}
use Rattle.sibling_orders.specs.Ordering.{AreOrders, plain_orders}
use Rattle.view_tree.specs.Rows.{children_of_first, part_from, views_of}
use Rattle.sibling_orders.specs.Staying.{IsLastIn}
use Rattle.view_tree.specs.tree.Staying.{MayNameAll, NamesNone}
use Rattle.sibling_orders.specs.Indexes.{IsStraight}
use Rattle.view_tree.specs.Views.{number_of}
use Rattle.view_tree.proofs.nodes.NodeReads.{is_tree}
use Rattle.view_tree.proofs.orders.GroupReads.{highest_found, marked_found, numbers_found, orders_found, orders_value}
use Rattle.view_tree.proofs.orders.ListLaws.{length-each}
use Rattle.view_tree.proofs.orders.StayLaws.{all_stay}
use Rattle.view_tree.proofs.tree.ViewTree.stays_in_order.Goals as goal

pub is_unnamed-requires-clause-highest : goal.is_unnamed-requires-clause-highest
is_unnamed-requires-clause-highest c =
    let views = c.args.self.now in
    let found = sym c.get.ensures.value ∙ ap option_copied c.in-Some.is in
    highest_found c.self.inside views c.args.parent c.number.result c.self.invariant c.self.view_is c.requires.above c.requires.relative c.number.ensures.value c.in-Some.group.now found

pub follows-requires-clause-inside : goal.follows-requires-clause-inside
follows-requires-clause-inside c = λ p small.
    let views = c.args.self.now in
    let found = sym c.get.ensures.value ∙ ap option_copied c.in-Some.is in
    let sorted = orders_found c.self.inside views c.args.parent c.number.result c.self.invariant c.self.view_is c.requires.above c.requires.relative c.number.ensures.value c.in-Some.group.now found in
    let numbers = numbers_found c.self.inside views c.args.parent c.number.result c.self.invariant c.self.view_is c.requires.above c.requires.relative c.number.ensures.value c.in-Some.group.now found in
    let all = ap length numbers in
    let size = length-each link_of (views_of (children_of_first (part_from c.args.parent views.tree))) in
    let inside = sorted.across.inside p (rw c.ordered_across-across.ensures.order at small) in
    rw (c.ordered_across-across.ensures.order, c.ordered_across-across.ensures.kids) (omega arith)

pub follows-requires-2-clause-inside : goal.follows-requires-2-clause-inside
follows-requires-2-clause-inside c = λ p small.
    let views = c.args.self.now in
    let found = sym c.get.ensures.value ∙ ap option_copied c.in-Some.is in
    let sorted = orders_found c.self.inside views c.args.parent c.number.result c.self.invariant c.self.view_is c.requires.above c.requires.relative c.number.ensures.value c.in-Some.group.now found in
    let numbers = numbers_found c.self.inside views c.args.parent c.number.result c.self.invariant c.self.view_is c.requires.above c.requires.relative c.number.ensures.value c.in-Some.group.now found in
    let all = ap length numbers in
    let size = length-each link_of (views_of (children_of_first (part_from c.args.parent views.tree))) in
    let inside = sorted.down.inside p (rw c.ordered_down-down.ensures.order at small) in
    rw (c.ordered_down-down.ensures.order, c.ordered_down-down.ensures.kids) (omega arith)

pub follows-requires-clause-kid : goal.follows-requires-clause-kid
follows-requires-clause-kid c =
    let views = c.args.self.now in
    let found = sym c.get.ensures.value ∙ ap option_copied c.in-Some.is in
    let numbers = numbers_found c.self.inside views c.args.parent c.number.result c.self.invariant c.self.view_is c.requires.above c.requires.relative c.number.ensures.value c.in-Some.group.now found in
    let marked = marked_found c.self.inside views c.args.parent c.number.result c.self.invariant c.self.view_is c.requires.above c.requires.relative c.number.ensures.value c.in-Some.group.now found in
    let kid = c.ordered_across-across.ensures in
    record {
      own = kid.kids ∙ numbers;
      marked = λ e. subst IsStraight (sym kid.order) (marked.across (sym kid.straight ∙ e));
    }

pub follows-requires-2-clause-kid : goal.follows-requires-2-clause-kid
follows-requires-2-clause-kid c =
    let views = c.args.self.now in
    let found = sym c.get.ensures.value ∙ ap option_copied c.in-Some.is in
    let numbers = numbers_found c.self.inside views c.args.parent c.number.result c.self.invariant c.self.view_is c.requires.above c.requires.relative c.number.ensures.value c.in-Some.group.now found in
    let marked = marked_found c.self.inside views c.args.parent c.number.result c.self.invariant c.self.view_is c.requires.above c.requires.relative c.number.ensures.value c.in-Some.group.now found in
    let kid = c.ordered_down-down.ensures in
    record {
      own = kid.kids ∙ numbers;
      marked = λ e. subst IsStraight (sym kid.order) (marked.down (sym kid.straight ∙ e));
    }

pub returns : goal.returns
returns c = λ yes.
    let views = c.args.self.now in
    let found = sym c.get.ensures.value ∙ ap option_copied c.in-Some.is in
    let sorted = orders_found c.self.inside views c.args.parent c.number.result c.self.invariant c.self.view_is c.requires.above c.requires.relative c.number.ensures.value c.in-Some.group.now found in
    let numbers = numbers_found c.self.inside views c.args.parent c.number.result c.self.invariant c.self.view_is c.requires.above c.requires.relative c.number.ensures.value c.in-Some.group.now found in
    let value = orders_value c.self.inside views c.args.parent c.number.result c.self.invariant c.self.view_is c.requires.above c.requires.relative c.number.ensures.value c.in-Some.group.now found in
    subst (AreOrders (links_below views c.args.parent (number_of views c.args.view) c.args.link.now)) (sym value)
    (all_stay views c.args.parent c.args.view c.args.link.now (is_tree c.self.inside views c.self.invariant.planted c.self.view_is) c.requires.above c.requires.live
    (subst (λ (l : Link). (c.args.link.now.id ≡ l.id) ⊎ NamesNone c.args.link.now.id (children_of_first (part_from c.args.parent views.tree))) c.link-own.ensures (c.is_unnamed.ensures c.if-not-is_unnamed.false)) (plain_orders c.in-Some.group.now.orders) sorted
    (rw (c.number-2.ensures.value, numbers) at (subst (λ (l : Link). IsLastIn c.number-2.result c.in-Some.group.now.kids.items c.in-Some.group.now.orders.across.items
    ⊎ MayNameAll (padded_ids Horizontal l.rules) (padded_ids Horizontal c.args.link.now.rules) c.number-2.result c.in-Some.group.now.kids.items c.in-Some.group.now.orders.across.items
    (children_of_first (part_from c.args.parent views.tree))) c.link-own.ensures
    (rw (c.ordered_across-across.ensures.number, c.ordered_across-across.ensures.kids, c.ordered_across-across.ensures.order, c.named_ids.ensures, c.named_ids-2.ensures) at (c.follows.ensures c.if-not-follows.false))))
    (rw (c.number-3.ensures.value, numbers) at (subst (λ (l : Link). IsLastIn c.number-3.result c.in-Some.group.now.kids.items c.in-Some.group.now.orders.down.items
    ⊎ MayNameAll (padded_ids Vertical l.rules) (padded_ids Vertical c.args.link.now.rules) c.number-3.result c.in-Some.group.now.kids.items c.in-Some.group.now.orders.down.items
    (children_of_first (part_from c.args.parent views.tree))) c.link-own.ensures
    (rw (c.ordered_down-down.ensures.number, c.ordered_down-down.ensures.kids, c.ordered_down-down.ensures.order, c.named_ids-3.ensures, c.named_ids-4.ensures) at (c.follows-2.ensures yes)))))
