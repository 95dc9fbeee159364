use Rattle.std.proofs.Common.{inr, sym, ap, ◌∙◌, subst}
use Rattle.damage_rect.proofs.RectLaws.{hull_least, in_hull_first, outside_second}
use Rattle.damage_rect.specs.Within.{LiesIn}
use Rattle.geom_core.specs.Rects.{holds}
use Rattle.geom_core.specs.declared.geometry.Rect.{Rect}
use Rattle.view_tree.specs.Views.{Views, offset_of}
use Rattle.traversal.proofs.sight.FollowedViews.{unscrolled_in}
use Rattle.traversal.proofs.laying.lay.bring_scrolled.Goals as goal

pub returns-then-not-bring_one-clause-seen : goal.returns-then-not-bring_one-clause-seen
returns-then-not-bring_one-clause-seen c =
    unscrolled_in c.args.canvas.now c.args.rect c.args.damage.now.rect (offset_of c.args.tree.now c.args.view) (offset_of c.bring_one.new.tree c.args.view)
    (ap (λ (views : Views). offset_of views c.args.view) (c.bring_one.ensures.still c.if-not-bring_one.true))

pub returns-clause-grew : goal.returns-clause-grew
returns-clause-grew c = λ x y h.
    ap (λ (rect : Rect). holds rect x y) c.add.ensures ∙ in_hull_first c.args.damage.now.rect c.part_seen.result x y h

pub returns-clause-seen : goal.returns-clause-seen
returns-clause-seen c =
    rw c.in-Some.is (inr (λ x y out. ap (λ (rect : Rect). holds rect x y) (sym c.part_seen.ensures)
    ∙ outside_second c.args.damage.now.rect c.part_seen.result x y (ap (λ (rect : Rect). holds rect x y) (sym c.add.ensures) ∙ out)))

pub returns-clause-within : goal.returns-clause-within
returns-clause-within c = λ box lies seen.
    subst (λ (r : Rect). LiesIn r box) (sym c.add.ensures) (hull_least c.args.damage.now.rect c.part_seen.result box lies
    (subst (λ (r : Rect). LiesIn r box) (sym c.part_seen.ensures) ((rw c.in-Some.is at seen) (c.bring_one.ensures.moved c.if-not-bring_one.false))))
