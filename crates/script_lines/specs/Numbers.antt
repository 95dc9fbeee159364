-- The bounds of the numbers of lines, beside those that views have.
use Rattle.std.specs.Prelude.{ℕ, ℤ, pos, negsuc}

-- the greatest side of a window, in pixels
abbrev pub max_window : ℤ
max_window = pos 4096

-- the greatest coordinate of a pixel in a window
abbrev pub max_point : ℤ
max_point = pos 4095

-- the most pixels that a line prints
abbrev pub max_pixels : ℤ
max_pixels = pos 65536

-- the greatest id of a pointer; the first is 0
abbrev pub max_pointer : ℕ
max_pointer = 31

-- the least and the greatest coordinate of a touch, in pixels
abbrev pub min_touch : ℤ
min_touch = negsuc 1048575

abbrev pub max_touch : ℤ
max_touch = pos 1048576

-- the sums of the bits of actions are below this
abbrev pub actions_end : ℕ
actions_end = 64

-- the least and the greatest density of a screen, in dots an inch
abbrev pub min_dpi : ℕ
min_dpi = 40

abbrev pub max_dpi : ℕ
max_dpi = 1000

-- the least and the greatest number of a dimension, in its unit
abbrev pub min_mantissa : ℤ
min_mantissa = negsuc 8388606

abbrev pub max_mantissa : ℤ
max_mantissa = pos 8388607
