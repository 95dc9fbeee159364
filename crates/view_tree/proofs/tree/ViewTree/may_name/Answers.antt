use Rattle.std.proofs.Common.{inl, inr, subst}
use Rattle.view_tree.specs.Rows.{children_of_first, part_from}
use Rattle.sibling_orders.specs.Staying.{IsBefore}
use Rattle.view_tree.proofs.nodes.NodeReads.{is_tree}
use Rattle.view_tree.proofs.orders.RowLaws.{within_children}
use Rattle.view_tree.proofs.orders.StayLaws.{before_only}
use Rattle.view_tree.proofs.tree.ViewTree.may_name.Goals as goal

pub returns-then-id-eq0 : goal.returns-then-id-eq0
returns-then-id-eq0 c = λ _. inl c.if-id-eq0.true

pub returns-then-id-before : goal.returns-then-id-before
returns-then-id-before c = λ _. inr (inl c.if-id-before.true)

pub returns-in-Some : goal.returns-in-Some
returns-in-Some c = λ yes.
    let views = c.args.self.now in
    let kid = c.args.kid.now in
    inr (inr (before_only views c.in-Some.only c.args.id kid.number kid.kids.now kid.order.now (children_of_first (part_from c.args.parent views.tree))
    (is_tree c.self.inside views c.self.invariant.planted c.self.view_is) c.in-Some.ensures (within_children views c.args.parent c.requires.live)
    (subst (λ n. IsBefore n kid.number kid.kids.now kid.order.now) c.number.ensures.value (c.is_after.ensures yes))))
