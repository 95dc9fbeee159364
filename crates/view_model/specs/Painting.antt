-- The colour of each point of a picture. Points are whole numbers, x growing to the right and y downwards.
use Rattle.std.specs.Prelude.{ℕ, ◌*◌, ◌/◌, ◌%◌, ℤ, pos, negsuc, ◌-ℤ◌, ◌+ℤ◌, Bool, true, false, ◌&&◌, ◌||◌, not}
use Rattle.std.specs.Prelude.{if◌then◌else◌, List, map, Option, Some, None}
use Rattle.std.specs.List.{range_with_len}
use Rattle.geom_core.specs.Color.{blend_of}
use Rattle.geom_core.specs.Numbers.{unpainted}
use Rattle.geom_core.specs.Rects.{holds}
use Rattle.geom_core.specs.declared.color.Argb.{Argb}
use Rattle.geom_core.specs.declared.geometry.Rect.{Rect}
use Rattle.geom_core.specs.declared.geometry.Size.{Size}
use Rattle.view_model.specs.declared.facts.Facts.{Facts}
use Rattle.view_model.specs.declared.visibility.Visibility.{Visibility}
use Rattle.view_model.specs.declared.visibility.Visibility.TheVariants.{Visible, Invisible, Gone}
use Rattle.view_model.specs.CellText.{cell_of}
use Rattle.view_model.specs.Classes.{has_text}
use Rattle.view_model.specs.Facts.{padding_left, padding_right}
use Rattle.view_model.specs.Forest.{Forest, Nothing, Branch, map_rows}
use Rattle.view_model.specs.Geometry.{Laid, rect_in, size_of_rect}
use Rattle.view_model.specs.Glyphs.{glyph_of, has_bit}
use Rattle.view_model.specs.Numbers.{cell_height, cell_width}
use Rattle.view_model.specs.PlainTree.{PlainView}
use Rattle.view_model.specs.TextView.{cells_across}

-- a view with its rectangle in its parent's coordinates, if it has one
pub record PlacedView : Type 0 where
  pub view : PlainView
  pub bounds : Option Rect

-- the views of a tree with the rectangles that a geometry gives them
abbrev pub placed_by : List Laid → Forest PlainView → Forest PlacedView
placed_by geometry tree =
    map_rows (λ (view : PlainView). record { view = view; bounds = rect_in geometry view.number }) tree

-- what becomes of the colour at a point
abbrev pub Painter : Type 0
Painter = ℤ → ℤ → Argb → Argb

-- whether a view of this visibility is drawn
abbrev pub is_drawn : Visibility → Bool
is_drawn Visible = true
is_drawn Invisible = false
is_drawn Gone = false

-- whether a pixel of a cell with this character is set, if there is one
abbrev pub cell_pixel : Option ℕ → ℕ → ℕ → Bool
cell_pixel None column row = false
cell_pixel (Some c) column row = has_bit (glyph_of c column) row

-- whether a point is a set pixel of a text in lines of n cells, whose corner is the origin
abbrev pub text_pixel : ℕ → List ℕ → ℤ → ℤ → Bool
text_pixel n text (pos x) (pos y) =
    cell_pixel (cell_of n text (y / cell_height) (x / cell_width)) (x % cell_width) (y % cell_height)
text_pixel n text (pos x) (negsuc y) = false
text_pixel n text (negsuc x) y = false

-- the bounds of a view of this size without its padding, in its own coordinates
abbrev pub inner_rect : Facts → Size → Rect
inner_rect facts size = record {
  left = padding_left facts;
  top = facts.padding.top;
  right = size.w -ℤ padding_right facts;
  bottom = size.h -ℤ facts.padding.bottom;
}

-- whether a view of this size has ink at a point of its own coordinates: its text begins where its padding ends, and is
-- cut off where it begins again
abbrev pub has_ink : PlainView → Size → ℤ → ℤ → Bool
has_ink view size x y =
    let facts = view.facts in
    (has_text view.class && holds (inner_rect facts size) x y)
    && text_pixel (cells_across facts size.w) view.text (x -ℤ padding_left facts) (y -ℤ facts.padding.top)

-- whether the children of a view of this size are seen at a point of its own coordinates
abbrev pub reaches_children : Facts → Size → ℤ → ℤ → Bool
reaches_children facts size x y = not facts.clip || holds (inner_rect facts size) x y

-- what a view of this size paints in its own coordinates: its background, its ink, and then its children, which are
-- moved up by its offset
abbrev pub content : PlainView → Size → Painter → Painter
content view size children x y under =
    let back = blend_of view.facts.background under in
    let own = if has_ink view size x y then blend_of view.facts.ink back else back in
    if reaches_children view.facts size x y then children x (y +ℤ view.facts.offset) own else own

-- what it paints in its parent's coordinates: nothing unless it is visible and has bounds
abbrev pub drawn_in : Option Rect → PlainView → Painter → Painter
drawn_in None view children x y under = under
drawn_in (Some rect) view children x y under =
    if is_drawn view.facts.visibility && holds rect x y
    then content view (size_of_rect rect) children (x -ℤ rect.left) (y -ℤ rect.top) under
    else under

-- what the views of a list paint in their parent's coordinates, one after another
abbrev pub painted : Forest PlacedView → Painter
painted Nothing x y under = under
painted (Branch it below after) x y under = painted after x y (drawn_in it.bounds it.view (painted below) x y under)

-- the colour of a point of a window in which the views of a tree have these bounds: what they paint over black
abbrev pub pixel_color : List Laid → Forest PlainView → ℤ → ℤ → Argb
pixel_color geometry tree x y = painted (placed_by geometry tree) x y unpainted

-- the colours of the points of a window, row by row from the top, each from left to right
abbrev pub picture_of : ℕ → ℕ → (ℤ → ℤ → Argb) → List Argb
picture_of width height color = map (λ k. color (pos (k % width)) (pos (k / width))) (range_with_len 0 (width * height))

-- the picture of a window of this width and height in which the views of a tree have these bounds
abbrev pub picture : ℕ → ℕ → List Laid → Forest PlainView → List Argb
picture width height geometry tree = picture_of width height (pixel_color geometry tree)
