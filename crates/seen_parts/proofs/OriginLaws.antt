-- Where the coordinates of a view begin in a window, and edges that are moved there.
use Rattle.std.proofs.Common.{◌≡◌, ℤ, Option, None, Some, true, refl, sym, ap, subst, ◌∙◌, arith, FitsSigned, w32, of_z, to_z}
use Rattle.std.proofs.lemmas.Bool.{and_parts}
use Rattle.std.proofs.lemmas.Int.{ints}
use Rattle.std.specs.Prelude.{◌+ℤ◌, ◌-ℤ◌, ◌≤ℤ◌, ◌<ℤ◌}
use Rattle.damage_rect.proofs.RectLaws.{empty_within, meet_holds}
use Rattle.damage_rect.specs.Within.{LiesIn}
use Rattle.geom_core.specs.Rects.{empty_rect, holds}
use Rattle.geom_core.specs.declared.geometry.Rect.{Rect}
use Rattle.view_model.specs.declared.facts.Facts.{Facts}
use Rattle.view_model.specs.Visible.{Canvas, canvas_below, moved_rect, seen_in}

-- the gap between two edges of 32 bits
pub gap_is : (to from gap : ℤ) → FitsSigned w32 to → FitsSigned w32 from → gap ≡ to_z w32 (of_z w32 to) -ℤ to_z w32 (of_z w32 from) → gap ≡ to -ℤ from
gap_is to from gap fits_to fits_from is = omega (arith, ints)

-- an edge is not before another, if the point where their coordinates begin is no nearer than the gap between them
pub low_edge : (to from start gap x : ℤ) → gap ≡ to -ℤ from → gap ≤ℤ start → (from +ℤ start) ≤ℤ x → to ≤ℤ x
low_edge to from start gap x is far there = omega (arith, ints)

-- nor after another, if it is no further
pub high_edge : (to from start gap x : ℤ) → gap ≡ to -ℤ from → start ≤ℤ gap → x <ℤ (from +ℤ start) → x <ℤ to
high_edge to from start gap x is near there = omega (arith, ints)

-- what is seen of a view lies in the rectangle of the view, moved to where its coordinates begin
pub seen_moved : (bounds : Option Rect) (rect : Rect) (canvas : Canvas) (left top x y : ℤ) → bounds ≡ Some rect → canvas.left ≡ left → canvas.top ≡ top
    → holds (seen_in bounds canvas) x y ≡ true → holds (moved_rect rect left top) x y ≡ true
seen_moved bounds rect canvas left top x y is across down h =
    let seen = subst (λ (bounds : Option Rect). holds (seen_in bounds canvas) x y ≡ true) is h in
    let own = (and_parts (holds (moved_rect rect canvas.left canvas.top) x y) (holds canvas.clip x y) (sym (meet_holds (moved_rect rect canvas.left canvas.top) canvas.clip x y) ∙ seen)).0 in
    subst (λ (left : ℤ). holds (moved_rect rect left top) x y ≡ true) across
    (subst (λ (top : ℤ). holds (moved_rect rect canvas.left top) x y ≡ true) down own)

-- the canvas of the children of a view begins at the corner of the view
pub left_below : (bounds : Option Rect) (facts : Facts) (inner outer : Canvas) (rect : Rect) → bounds ≡ Some rect → inner ≡ canvas_below bounds facts outer
    → inner.left ≡ rect.left +ℤ outer.left
left_below bounds facts inner outer rect lies is = ap (λ (canvas : Canvas). canvas.left) (is ∙ ap (λ (bounds : Option Rect). canvas_below bounds facts outer) lies)

pub top_below : (bounds : Option Rect) (facts : Facts) (inner outer : Canvas) (rect : Rect) → bounds ≡ Some rect → inner ≡ canvas_below bounds facts outer
    → inner.top ≡ (rect.top +ℤ outer.top) -ℤ facts.offset
top_below bounds facts inner outer rect lies is = ap (λ (canvas : Canvas). canvas.top) (is ∙ ap (λ (bounds : Option Rect). canvas_below bounds facts outer) lies)

-- nothing is seen of a view without bounds
pub seen_nowhere : (bounds : Option Rect) (rect : Rect) (canvas : Canvas) → bounds ≡ None → LiesIn (seen_in bounds canvas) rect
seen_nowhere bounds rect canvas none = λ x y h.
    empty_within empty_rect rect refl x y (subst (λ (bounds : Option Rect). holds (seen_in bounds canvas) x y ≡ true) none h)
