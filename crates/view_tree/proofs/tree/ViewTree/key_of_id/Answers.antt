use Rattle.std.proofs.Common.{◌∙◌, ap, sym}
use Rattle.std.specs.Option.{option_copied}
use Rattle.view_tree.proofs.forest.IdLaws.{search_none, search_one}
use Rattle.view_tree.proofs.nodes.NodeReads.{is_tree, named_for, small_for}
use Rattle.view_tree.proofs.tree.ViewTree.key_of_id.Goals as goal

pub returns-in-None : goal.returns-in-None
returns-in-None c = record {
  is_tree = is_tree c.self.inside c.args.self.now c.self.invariant.planted c.self.view_is;
  key = sym (search_none c.args.id c.args.self.now.tree c.if-id-eq0.false
      (sym (named_for c.self.inside c.args.self.now c.self.invariant.planted c.self.view_is c.args.id) ∙ sym c.get.ensures.value ∙ ap option_copied c.in-None.is));
}

pub returns-then-holders-eq1 : goal.returns-then-holders-eq1
returns-then-holders-eq1 c = record {
  is_tree = is_tree c.self.inside c.args.self.now c.self.invariant.planted c.self.view_is;
  key = sym (search_one c.args.id c.args.self.now.tree c.in-Some.holders.now c.if-id-eq0.false
      (sym (named_for c.self.inside c.args.self.now c.self.invariant.planted c.self.view_is c.args.id) ∙ sym c.get.ensures.value ∙ ap option_copied c.in-Some.is)
      c.if-holders-eq1.true (small_for c.self.inside c.args.self.now c.self.invariant.planted c.self.view_is));
}
