-- Painters of ink.
use Rattle.std.specs.Prelude.{ℕ, ◌/◌, ◌%◌, ◌==◌, ℤ, pos, negsuc, Bool, false, ◌&&◌, not, nat_lt, if◌then◌else◌, List}
use Rattle.std.specs.Prelude.{slice_get}
use Rattle.geom_core.specs.Color.{blend_of}
use Rattle.geom_core.specs.declared.color.Argb.{Argb}
use Rattle.geom_core.specs.declared.geometry.Size.{Size}
use Rattle.view_model.specs.Glyphs.{has_bit}
use Rattle.view_model.specs.Numbers.{cell_height, cell_width}
use Rattle.view_model.specs.Painting.{Painter, cell_pixel, has_ink, text_pixel}
use Rattle.view_model.specs.PlainTree.{PlainView}

-- a colour over the points that pass a test
abbrev pub ink_where : (ℤ → ℤ → Bool) → Argb → Painter
ink_where passes ink x y under = if passes x y then blend_of ink under else under

-- whether a point is a set pixel of a column of a cell, in this row or below it
abbrev pub in_column : ℕ → ℕ → ℤ → ℤ → Bool
in_column bits row (pos x) (pos y) = (x == 0) && (not (nat_lt y row) && (nat_lt y cell_height && has_bit bits y))
in_column bits row (pos x) (negsuc y) = false
in_column bits row (negsuc x) y = false

abbrev pub column_ink : Argb → ℕ → ℕ → Painter
column_ink ink bits row = ink_where (in_column bits row) ink

-- whether a point is a set pixel of a line with these characters, in this column of pixels or right of it
abbrev pub in_line : List ℕ → ℕ → ℤ → ℤ → Bool
in_line line column (pos x) (pos y) =
    not (nat_lt x column) && (nat_lt y cell_height && cell_pixel (slice_get line (x / cell_width)) (x % cell_width) y)
in_line line column (pos x) (negsuc y) = false
in_line line column (negsuc x) y = false

abbrev pub line_ink : Argb → List ℕ → ℕ → Painter
line_ink ink line column = ink_where (in_line line column) ink

abbrev pub text_ink : Argb → ℕ → List ℕ → Painter
text_ink ink n text = ink_where (text_pixel n text) ink

-- the ink of a view of this size, in its own coordinates
abbrev pub own_ink : PlainView → Size → Painter
own_ink view size = ink_where (has_ink view size) view.facts.ink
