use Rattle.std.proofs.Common.{◌∙◌, ap, sym}
use Rattle.std.specs.Option.{option_copied}
use Rattle.view_tree.proofs.nodes.NodeReads.{is_tree, named_for}
use Rattle.view_tree.proofs.orders.IdPlaces.{nobodys}
use Rattle.view_tree.proofs.tree.ViewTree.is_no_views.Goals as goal

pub returns-then-id-eq0 : goal.returns-then-id-eq0
returns-then-id-eq0 c = record {
  value = λ _ named. absurd (named c.if-id-eq0.true);
  named = λ no. absurd (cc);
  is_tree = is_tree c.self.inside c.args.self.now c.self.invariant.planted c.self.view_is;
}

pub returns-in-None : goal.returns-in-None
returns-in-None c = record {
  value = λ _. nobodys c.args.self.now c.args.id
      (sym (named_for c.self.inside c.args.self.now c.self.invariant.planted c.self.view_is c.args.id) ∙ sym c.get.ensures.value ∙ ap option_copied c.in-None.is);
  named = λ no. c.if-id-eq0.false;
  is_tree = is_tree c.self.inside c.args.self.now c.self.invariant.planted c.self.view_is;
}
