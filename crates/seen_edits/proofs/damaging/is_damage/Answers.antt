use Rattle.seen_parts.proofs.SeenLaws.{seen_inside}
use Rattle.view_model.specs.Visible.{whole_window}
use Rattle.view_tree.specs.Views.{held_of}
use Rattle.seen_edits.proofs.damaging.is_damage.Goals as goal

pub returns-then-covers : goal.returns-then-covers
returns-then-covers c = λ _ x y h.
    c.covers.ensures c.if-covers.true x y (seen_inside (held_of c.args.tree.now) (whole_window c.args.window) c.args.view c.args.tree.now.tree x y h)

pub returns : goal.returns
returns c = λ yes. c.is_seen_within.ensures yes c.args.window
