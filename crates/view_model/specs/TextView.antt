-- A view that shows a text in cells of 6 by 8 pixels.
use Rattle.std.specs.Prelude.{ℕ, ◌*◌, ◌/◌, max, ℤ, pos, negsuc, ◌+ℤ◌, ◌-ℤ◌, List}
use Rattle.std.specs.Int.{int_max}
use Rattle.geom_core.specs.Spec.{resolve_of}
use Rattle.geom_core.specs.declared.geometry.Size.{Size}
use Rattle.geom_core.specs.declared.measuring.Spec.{Spec}
use Rattle.view_model.specs.declared.facts.Facts.{Facts}
use Rattle.view_model.specs.CellText.{count_of_lines, widest_of}
use Rattle.view_model.specs.Facts.{padding_across, padding_down}
use Rattle.view_model.specs.Measuring.{Specs}
use Rattle.view_model.specs.Numbers.{cell_height, cell_width}

-- how many cells a line has in this many pixels: at least one, even if there is no room
unfoldable pub cells_in : ℤ → ℕ
cells_in (pos room) = max 1 (room / cell_width)
cells_in (negsuc less) = 1

-- how many cells a line has in a view of this width
abbrev pub cells_across : Facts → ℤ → ℕ
cells_across own width = cells_in (width -ℤ padding_across own)

-- the size of a view with this text: as broad as the longest segment and as high as the lines that it takes in that
-- width, with the padding, at least the minimum, resolved
unfoldable pub text_width : Facts → List ℕ → Spec → ℤ
text_width own text spec = resolve_of (int_max own.min.w (pos (cell_width * widest_of text) +ℤ padding_across own)) spec

unfoldable pub text_height : Facts → List ℕ → Spec → ℤ → ℤ
text_height own text spec width =
    resolve_of
    (int_max own.min.h (pos (cell_height * count_of_lines (cells_across own width) text) +ℤ padding_down own)) spec

abbrev pub text_size : Facts → List ℕ → Specs → Size
text_size own text specs =
    let width = text_width own text specs.across in
    record { w = width; h = text_height own text specs.down width }
