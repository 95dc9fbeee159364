-- The limits of a stack of windows, and the numbers of the refusals of its lines.
use Rattle.std.specs.Prelude.{ℕ, ◌^◌, ℤ, pos, negsuc}

-- the most windows that are open at a time
abbrev pub max_panes : ℕ
max_panes = 8

-- the most views of a tree
abbrev pub max_views : ℕ
max_views = 4096

-- the numbers of views are below this
abbrev pub numbers_end : ℕ
numbers_end = 2 ^ 62

-- the least and the greatest coordinate of a touch in a window, in pixels
abbrev pub min_touch : ℤ
min_touch = negsuc 1048575

abbrev pub max_touch : ℤ
max_touch = pos 1048576

-- the refusal of a touch that is too far from the corner of its window
abbrev pub out_of_range : ℕ
out_of_range = 30

-- the refusal of a pointer that is down in no window
abbrev pub wrong_pointer : ℕ
wrong_pointer = 38

-- the refusal of a line for a window that is not open
abbrev pub no_pane : ℕ
no_pane = 43
