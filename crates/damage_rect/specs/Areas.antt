-- How many points a rectangle has.
use Rattle.std.specs.Prelude.{ℕ, ◌*◌, ℤ, pos, ◌-ℤ◌, unsigned_abs}
use Rattle.std.specs.Int.{int_max}
use Rattle.geom_core.specs.declared.geometry.Rect.{Rect}

-- how far the second of two edges is past the first, and 0 where it is not
abbrev pub extent : ℤ → ℤ → ℕ
extent low high = unsigned_abs (int_max (pos 0) (high -ℤ low))

abbrev pub rect_area : Rect → ℕ
rect_area rect = extent rect.left rect.right * extent rect.top rect.bottom
