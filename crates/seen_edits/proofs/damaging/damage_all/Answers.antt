use Rattle.std.proofs.Common.{ap, sym, subst, ◌∙◌}
use Rattle.damage_rect.proofs.RectLaws.{hull_least, in_hull_first, in_hull_second}
use Rattle.damage_rect.specs.Within.{LiesIn}
use Rattle.geom_core.specs.Rects.{holds}
use Rattle.geom_core.specs.declared.geometry.Rect.{Rect}
use Rattle.seen_edits.proofs.damaging.damage_all.Goals as goal

pub returns-clause-grew : goal.returns-clause-grew
returns-clause-grew c = λ x y h.
    ap (λ (rect : Rect). holds rect x y) c.add.ensures ∙ in_hull_first c.args.damage.now.rect c.window_rect.result x y h

pub returns-clause-whole : goal.returns-clause-whole
returns-clause-whole c = λ x y h.
    ap (λ (rect : Rect). holds rect x y) c.add.ensures
    ∙ in_hull_second c.args.damage.now.rect c.window_rect.result x y (ap (λ (rect : Rect). holds rect x y) c.window_rect.ensures ∙ h)

pub returns-clause-within : goal.returns-clause-within
returns-clause-within c = λ box first all.
    subst (λ (rect : Rect). LiesIn rect box) (sym c.add.ensures)
    (hull_least c.args.damage.now.rect c.window_rect.result box first (subst (λ (rect : Rect). LiesIn rect box) (sym c.window_rect.ensures) all))
