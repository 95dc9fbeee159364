-- What two rectangles have in common, and the smallest rectangle around both, by computation.
use Rattle.std.specs.Prelude.{◌≡◌, ℤ, pos, negsuc, refl}
use Rattle.geom_core.specs.declared.geometry.Rect.{Rect}
use Rattle.geom_core.specs.Rects.{empty_rect, hull_of, larger_of, meet_of, smaller_of}

abbrev pub rect : ℤ → ℤ → ℤ → ℤ → Rect
rect left top right bottom = record { left = left; top = top; right = right; bottom = bottom }

meet_at_a_corner : meet_of (rect (pos 0) (pos 0) (pos 4) (pos 3)) (rect (pos 2) (negsuc 0) (pos 9) (pos 2)) ≡ rect (pos 2) (pos 0) (pos 4) (pos 2)
unfolding larger_of smaller_of meet_of
meet_at_a_corner = refl

-- rectangles that touch have no point in common
meet_side_by_side : meet_of (rect (pos 0) (pos 0) (pos 4) (pos 3)) (rect (pos 4) (pos 0) (pos 8) (pos 3)) ≡ empty_rect
unfolding larger_of smaller_of meet_of
meet_side_by_side = refl

-- one whose edges are swapped has no point
meet_turned_round : meet_of (rect (pos 0) (pos 0) (pos 4) (pos 3)) (rect (pos 3) (pos 0) (pos 1) (pos 3)) ≡ empty_rect
unfolding larger_of smaller_of meet_of
meet_turned_round = refl

hull_of_two : hull_of (rect (pos 0) (pos 0) (pos 4) (pos 3)) (rect (pos 6) (negsuc 0) (pos 9) (pos 2)) ≡ rect (pos 0) (negsuc 0) (pos 9) (pos 3)
unfolding larger_of smaller_of hull_of
hull_of_two = refl

-- one without a point is ignored, wherever it lies
hull_with_none : hull_of (rect (pos 5) (pos 5) (pos 5) (pos 9)) (rect (pos 6) (negsuc 0) (pos 9) (pos 2)) ≡ rect (pos 6) (negsuc 0) (pos 9) (pos 2)
unfolding larger_of smaller_of hull_of
hull_with_none = refl

hull_of_none : hull_of (rect (pos 5) (pos 5) (pos 5) (pos 9)) (rect (pos 7) (pos 7) (pos 2) (pos 2)) ≡ empty_rect
unfolding larger_of smaller_of hull_of
hull_of_none = refl
