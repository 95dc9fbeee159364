-- The bounds of the numbers of a stack's lines.
use Rattle.std.specs.Prelude.{ℕ, ℤ, pos, negsuc}

-- the greatest name of a window; the first is 0
abbrev pub max_pane : ℕ
max_pane = 7

-- the least and the greatest coordinate of a window's corner, in pixels
abbrev pub min_corner : ℤ
min_corner = negsuc 4095

abbrev pub max_corner : ℤ
max_corner = pos 4096

-- the greatest side of a part of the picture, and the greatest coordinate of its corner, in pixels
abbrev pub max_window : ℤ
max_window = pos 4096

abbrev pub max_point : ℤ
max_point = pos 4095

-- the greatest id of a pointer
abbrev pub max_pointer : ℕ
max_pointer = 31
