use Rattle.std.proofs.Common.{sym, ap, ◌∙◌}
use Rattle.damage_rect.proofs.RectLaws.{in_hull_first, outside_second}
use Rattle.geom_core.specs.Rects.{holds}
use Rattle.geom_core.specs.declared.geometry.Rect.{Rect}
use Rattle.seen_edits.proofs.ShownLaws.{points, within_once}
use Rattle.seen_edits.specs.Shown.{seen_of}
use Rattle.seen_edits.proofs.restoring.note_view.Goals as goal

pub returns-then-is_given-clause-grew : goal.returns-then-is_given-clause-grew
returns-then-is_given-clause-grew c = λ x y h. ap (λ (rect : Rect). holds rect x y) c.add.ensures ∙ in_hull_first c.args.damage.now.rect c.seen.result x y h

pub returns-then-is_given-clause-noted : goal.returns-then-is_given-clause-noted
returns-then-is_given-clause-noted c = λ some x y out.
    sym (points c.seen.ensures.keyed x y) ∙ outside_second c.args.damage.now.rect c.seen.result x y (ap (λ (rect : Rect). holds rect x y) (sym c.add.ensures) ∙ out)

pub returns-then-is_given-clause-within : goal.returns-then-is_given-clause-within
returns-then-is_given-clause-within c = λ box first seen.
    within_once c.args.damage.now.rect c.seen.result c.add.new.self.rect (seen_of c.args.window c.args.tree.now c.args.view) box c.add.ensures (points c.seen.ensures.keyed) first
    (seen (sym c.is_given.ensures ∙ c.if-is_given.true))
