use Rattle.std.proofs.Common.{◌≡◌, Bool, true, false, refl, ap, sym, subst, ◌∙◌, FitsSigned, w32, rules, arith}
use Rattle.std.specs.Prelude.{◌&&◌, ◌||◌, not}
use Rattle.std.proofs.lemmas.Int.{ints, to_z-of_z}
use Rattle.damage_rect.specs.Within.{IsInside}
use Rattle.geom_core.specs.Rects.{holds}
use Rattle.geom_core.specs.declared.geometry.Rect.{Rect}
use Rattle.tree_painter.proofs.OwnLaws.{clipped_points}
use Rattle.tree_painter.proofs.own.children_canvas.Goals as goal

whole : (rect : Rect) → IsInside rect rect
whole rect = record { left = omega (arith, ints); top = omega (arith, ints); right = omega (arith, ints); bottom = omega (arith, ints) }

-- where padding cuts off no child
open_points : (cuts seen reach : Bool) → cuts ≡ false → seen ≡ (seen && (not cuts || reach))
open_points true seen reach opened = absurd (cc)
open_points false true reach opened = refl
open_points false false reach opened = refl

pub returns-in-Some-clause-points : goal.returns-in-Some-clause-points
returns-in-Some-clause-points c = λ x y.
    ap (λ (rect : Rect). holds rect x y) c.canvas_below-in-Some.ensures.clip ∙ c.in-Some.ensures.points x y
    ∙ clipped_points c.args.facts.now c.args.seen.frame c.inner_frame.result c.args.seen.part c.if-not-facts.false c.inner_frame.ensures x y

pub returns-in-None-clause-points : goal.returns-in-None-clause-points
returns-in-None-clause-points c = λ x y.
    c.in-None.ensures.points x y ∙ clipped_points c.args.facts.now c.args.seen.frame c.inner_frame.result c.args.seen.part c.if-not-facts.false c.inner_frame.ensures x y

pub returns-in-Some-clause-canvas : goal.returns-in-Some-clause-canvas
returns-in-Some-clause-canvas c = c.canvas_below-in-Some.ensures.canvas

pub returns-in-Some-clause-below : goal.returns-in-Some-clause-below
returns-in-Some-clause-below c =
    let fits : FitsSigned w32 c.args.facts.now.offset = search rules in
    simp (to_z-of_z, fits) at c.canvas_below-in-Some.ensures.below

pub returns-in-Some-clause-inside : goal.returns-in-Some-clause-inside
returns-in-Some-clause-inside c = subst (IsInside c.args.seen.part) (sym c.canvas_below-in-Some.ensures.clip) c.in-Some.ensures.inside

pub returns-then-not-facts-clause-canvas : goal.returns-then-not-facts-clause-canvas
returns-then-not-facts-clause-canvas c = c.canvas_below.ensures.canvas

pub returns-then-not-facts-clause-below : goal.returns-then-not-facts-clause-below
returns-then-not-facts-clause-below c =
    let fits : FitsSigned w32 c.args.facts.now.offset = search rules in
    simp (to_z-of_z, fits) at c.canvas_below.ensures.below

pub returns-then-not-facts-clause-inside : goal.returns-then-not-facts-clause-inside
returns-then-not-facts-clause-inside c = subst (IsInside c.args.seen.part) (sym c.canvas_below.ensures.clip) (whole c.args.seen.part)

pub returns-then-not-facts-clause-points : goal.returns-then-not-facts-clause-points
returns-then-not-facts-clause-points c = λ x y.
    ap (λ (rect : Rect). holds rect x y) c.canvas_below.ensures.clip ∙ open_points c.args.facts.now.clip (holds c.args.seen.part x y) _ c.if-not-facts.true
