use Rattle.std.proofs.Common.{◌≡◌, ◌∙◌, Some, None, ap, sym}
use Rattle.view_tree.proofs.forest.Forests.{some_is}
use Rattle.view_tree.proofs.orders.IdPlaces.{when_child, when_not}
use Rattle.view_tree.proofs.tree.ViewTree.child_or_none.Goals as goal

pub returns-in-None-clause-value : goal.returns-in-None-clause-value
returns-in-None-clause-value c = λ id holder.
    sym (when_not c.self.inside c.args.self.now c.args.view c.args.only id c.parent.result c.self.invariant.planted c.self.view_is c.requires.live holder c.parent.ensures.path
    (λ reported. let none : None ≡ Some c.args.view = sym c.in-None.is ∙ reported in cc))

pub returns-then-parent-view-clause-value : goal.returns-then-parent-view-clause-value
returns-then-parent-view-clause-value c = λ id holder.
    sym (when_child c.self.inside c.args.self.now c.args.view c.args.only id c.parent.result c.self.invariant.planted c.self.view_is c.requires.live holder c.parent.ensures.path
    (c.in-Some.is ∙ ap (λ k. Some k) c.if-parent-view.true))

pub returns-else-parent-view-clause-value : goal.returns-else-parent-view-clause-value
returns-else-parent-view-clause-value c = λ id holder.
    sym (when_not c.self.inside c.args.self.now c.args.view c.args.only id c.parent.result c.self.invariant.planted c.self.view_is c.requires.live holder c.parent.ensures.path
    (λ reported. c.if-parent-view.false (some_is (sym c.in-Some.is ∙ reported))))
