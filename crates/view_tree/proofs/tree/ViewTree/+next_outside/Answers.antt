use Rattle.std.proofs.Common.{Some, None, sym, ap, ◌∙◌}
use Rattle.view_tree.specs.tree.Preorder.{first_row_key}
use Rattle.view_tree.proofs.forest.PreorderLaws.{after_last, after_sibling}
use Rattle.view_tree.proofs.tree.ViewTree.+next_outside.Goals as goal

pub returns-in-Some-clause-key : goal.returns-in-Some-clause-key
returns-in-Some-clause-key t c =
    after_sibling c.args.view c.in-Some.sibling c.args.self.now.tree c.requires.is_tree.keys c.requires.live (sym c.in-Some.is ∙ c.next.ensures.key)

pub returns-in-Some-parent-clause-key : goal.returns-in-Some-parent-clause-key
returns-in-Some-parent-clause-key t c =
    c.next_outside.ensures.key
    ∙ ap first_row_key (sym (after_last c.args.view (Some c.in-Some-parent.parent) c.args.self.now.tree c.requires.is_tree.keys c.requires.live
    (sym c.in_default.is ∙ c.next.ensures.key) c.in-Some-parent.ensures.path))

pub returns-in-None-clause-key : goal.returns-in-None-clause-key
returns-in-None-clause-key t c =
    ap first_row_key (sym (after_last c.args.view None c.args.self.now.tree c.requires.is_tree.keys c.requires.live
    (sym c.in_default.is ∙ c.next.ensures.key) c.in-None.ensures.path))
