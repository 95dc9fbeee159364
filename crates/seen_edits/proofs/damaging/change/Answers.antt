use Rattle.std.proofs.Common.{sym, ◌∙◌, subst, ℕ}
use Rattle.damage_rect.specs.Within.{LiesIn}
use Rattle.damage_rect.proofs.RectLaws.{in_hull_first}
use Rattle.geom_core.specs.Rects.{hull_of}
use Rattle.geom_core.specs.declared.geometry.Rect.{Rect}
use Rattle.seen_edits.proofs.ShownLaws.{within_more, live_edited, shown_changed, within_part}
use Rattle.seen_edits.proofs.UnseenLaws.{shown_quietly}
use Rattle.seen_edits.specs.Shown.{edited, seen_of}
use Rattle.seen_edits.proofs.damaging.change.Goals as goal

pub part_left-before-requires : goal.part_left-before-requires
part_left-before-requires c = rw c.edited-view.ensures (live_edited c.args.tree.now c.args.edit c.requires.leaves c.requires.edit)

pub returns-in-Ok-clause-shown : goal.returns-in-Ok-clause-shown
returns-in-Ok-clause-shown c =
    let less = c.args.damage.now.rect in
    let more = c.add.new.self.rect in
    let is = c.add.ensures in
    let enough = subst (λ (rect : Rect). LiesIn (seen_of c.args.window c.args.tree.now c.edited-view.result) (hull_of rect c.part_left-before.result)) c.rect.ensures c.part_left-before.ensures.enough in
    shown_changed c.args.window less more c.args.tree.now c.apply.new.tree c.args.edit c.requires.leaves
    c.recall_tree.ensures c.recall_tree-in-Ok.ensures (live_edited c.args.tree.now c.args.edit c.requires.leaves c.requires.edit) c.in-Ok.ensures.kept
    (within_more less c.part_left-before.result more less is (in_hull_first less c.part_left-before.result))
    (within_more less c.part_left-before.result more (seen_of c.args.window c.args.tree.now (edited c.args.edit)) is
    (subst (λ (k : ℕ). LiesIn (seen_of c.args.window c.args.tree.now k) (hull_of less c.part_left-before.result)) c.edited-view.ensures enough))

pub returns-in-Ok-clause-within : goal.returns-in-Ok-clause-within
returns-in-Ok-clause-within c =
    within_part c.args.window c.args.tree.now c.apply.new.tree (edited c.args.edit) c.args.damage.now.rect c.part_left-before.result c.add.new.self.rect c.add.ensures
    (subst (λ (k : ℕ). LiesIn c.part_left-before.result (seen_of c.args.window c.args.tree.now k)) c.edited-view.ensures c.part_left-before.ensures.seen)

pub returns-then-is_unseen-clause-shown : goal.returns-then-is_unseen-clause-shown
returns-then-is_unseen-clause-shown c =
    shown_quietly c.apply-made.result c.args.window c.args.damage.now.rect c.args.tree.now c.apply-made.new.tree c.args.edit (sym c.is_unseen.ensures ∙ c.if-is_unseen.true)
    c.recall_tree.ensures c.recall_tree-then-is_unseen.ensures c.apply-made.ensures.kept c.apply-made.ensures.unchanged
