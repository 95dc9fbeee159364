use Rattle.std.proofs.Common.{Some, sym, ap, ◌∙◌}
use Rattle.view_tree.specs.tree.Preorder.{first_row_key}
use Rattle.view_tree.proofs.forest.PreorderLaws.{after_kid, after_leaf, rows_following_first, rows_fewer, views_on}
use Rattle.view_tree.proofs.tree.ViewTree.next_in_preorder.Goals as goal

pub returns-in-Some : goal.returns-in-Some
returns-in-Some c =
    let views = c.args.self.now in
    let kid = Some c.in-Some.kid in
    let rows = rows_following_first c.args.view kid views.tree c.first.ensures.is_tree.keys
    (after_kid c.args.view c.in-Some.kid views.tree c.requires (sym c.in-Some.is ∙ c.first.ensures.key)) in
    record { rows = rows; views = views_on views c.args.view kid c.requires rows; fewer = rows_fewer c.args.view kid views.tree c.requires rows; live = c.in-Some.ensures.live }

pub returns-in-None : goal.returns-in-None
returns-in-None c =
    let views = c.args.self.now in
    let next = c.next_outside.result in
    let rows = rows_following_first c.args.view next views.tree c.first.ensures.is_tree.keys
    (c.next_outside.ensures.key ∙ ap first_row_key (sym (after_leaf c.args.view views.tree c.requires (sym c.in-None.is ∙ c.first.ensures.key)))) in
    record { rows = rows; views = views_on views c.args.view next c.requires rows; fewer = rows_fewer c.args.view next views.tree c.requires rows; live = c.next_outside.ensures.live }
