use Rattle.std.proofs.Common.{sym, subst}
use Rattle.damage_rect.specs.Within.{LiesIn}
use Rattle.damage_rect.proofs.RectLaws.{hull_least, in_hull_first}
use Rattle.geom_core.specs.Rects.{hull_of}
use Rattle.geom_core.specs.declared.geometry.Rect.{Rect}
use Rattle.seen_edits.proofs.ShownLaws.{within_more, shown_taken}
use Rattle.seen_edits.specs.Shown.{seen_of}
use Rattle.seen_edits.proofs.damaging.take.Goals as goal

pub returns-in-Ok-clause-shown : goal.returns-in-Ok-clause-shown
returns-in-Ok-clause-shown c =
    let less = c.args.damage.now.rect in
    let part = c.part_left-part.result in
    let more = c.add.new.self.rect in
    let enough = subst (λ (rect : Rect). LiesIn (seen_of c.args.window c.args.tree.now c.args.view) (hull_of rect part)) c.rect.ensures c.part_left-part.ensures.enough in
    shown_taken c.args.window less more c.args.tree.now c.apply.new.tree c.args.view
    c.recall_tree.ensures c.recall_tree-in-Ok.ensures c.in-Ok.ensures.kept
    (within_more less part more less c.add.ensures (in_hull_first less part))
    (within_more less part more (seen_of c.args.window c.args.tree.now c.args.view) c.add.ensures enough)

pub returns-in-Ok-clause-within : goal.returns-in-Ok-clause-within
returns-in-Ok-clause-within c = λ box first seen.
    subst (λ (rect : Rect). LiesIn rect box) (sym c.add.ensures)
    (hull_least c.args.damage.now.rect c.part_left-part.result box first (λ x y h. seen x y (c.part_left-part.ensures.seen x y h)))
