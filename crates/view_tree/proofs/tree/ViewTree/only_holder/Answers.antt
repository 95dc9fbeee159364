use Rattle.std.proofs.Common.{◌∙◌, ap, sym}
use Rattle.std.specs.Option.{option_copied}
use Rattle.view_tree.proofs.nodes.NodeReads.{is_tree, named_for, small_for}
use Rattle.view_tree.proofs.orders.IdPlaces.{only_holder}
use Rattle.view_tree.proofs.tree.ViewTree.only_holder.Goals as goal

pub returns-then-reported-eq1 : goal.returns-then-reported-eq1
returns-then-reported-eq1 c =
    only_holder c.args.self.now c.args.id c.in-Some.reported.now c.if-id-eq0.false
    (sym (named_for c.self.inside c.args.self.now c.self.invariant.planted c.self.view_is c.args.id) ∙ sym c.get.ensures.value ∙ ap option_copied c.in-Some.is)
    c.if-reported-eq1.true (small_for c.self.inside c.args.self.now c.self.invariant.planted c.self.view_is)
    (is_tree c.self.inside c.args.self.now c.self.invariant.planted c.self.view_is).keys
