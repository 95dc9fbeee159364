-- Rectangles as sets of points. Right and bottom are exclusive.
use Rattle.std.specs.Prelude.{ℤ, pos, int_lt, Bool, ◌&&◌, ◌||◌, not, if◌then◌else◌}
use Rattle.std.specs.Int.{int_min, int_max}
use Rattle.geom_core.specs.declared.geometry.Rect.{Rect}

-- whether a point lies in a rectangle
abbrev pub holds : Rect → ℤ → ℤ → Bool
holds rect x y = (not (int_lt x rect.left) && int_lt x rect.right) && (not (int_lt y rect.top) && int_lt y rect.bottom)

-- whether no point lies in a rectangle
abbrev pub is_empty : Rect → Bool
is_empty rect = not (int_lt rect.left rect.right) || not (int_lt rect.top rect.bottom)

unfoldable pub larger_of : ℤ → ℤ → ℤ
larger_of a b = int_max a b

unfoldable pub smaller_of : ℤ → ℤ → ℤ
smaller_of a b = int_min a b

-- the edges of the intersection
abbrev pub overlap_of : Rect → Rect → Rect
overlap_of a b = record {
  left = larger_of a.left b.left;
  top = larger_of a.top b.top;
  right = smaller_of a.right b.right;
  bottom = smaller_of a.bottom b.bottom;
}

-- the edges around both
abbrev pub around_of : Rect → Rect → Rect
around_of a b = record {
  left = smaller_of a.left b.left;
  top = smaller_of a.top b.top;
  right = larger_of a.right b.right;
  bottom = larger_of a.bottom b.bottom;
}

-- the result where no point is in it
abbrev pub empty_rect : Rect
empty_rect = record { left = pos 0; top = pos 0; right = pos 0; bottom = pos 0 }

-- the rectangle of the common points, or the empty one if there are none
unfoldable pub meet_of : Rect → Rect → Rect
meet_of a b = if is_empty (overlap_of a b) then empty_rect else overlap_of a b

-- the smallest rectangle around both; one without a point is ignored
unfoldable pub hull_of : Rect → Rect → Rect
hull_of a b = if is_empty a then (if is_empty b then empty_rect else b) else (if is_empty b then a else around_of a b)
