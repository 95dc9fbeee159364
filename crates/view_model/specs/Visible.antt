-- What is seen of a view in a window.
use Rattle.std.specs.Prelude.{ℕ, ◌==◌, ℤ, pos, ◌+ℤ◌, ◌-ℤ◌, if◌then◌else◌, List, Option, Some, None, unwrap_or}
use Rattle.std.specs.Option.{option_or}
use Rattle.geom_core.specs.Rects.{empty_rect, meet_of}
use Rattle.geom_core.specs.declared.geometry.Rect.{Rect}
use Rattle.geom_core.specs.declared.geometry.Size.{Size}
use Rattle.view_model.specs.declared.facts.Facts.{Facts}
use Rattle.view_model.specs.Forest.{Forest, Nothing, Branch}
use Rattle.view_model.specs.Geometry.{Laid, size_of_rect}
use Rattle.view_model.specs.Painting.{PlacedView, inner_rect, placed_by}
use Rattle.view_model.specs.PlainTree.{PlainView}

-- a rectangle of coordinates whose origin is this point of the window
abbrev pub moved_rect : Rect → ℤ → ℤ → Rect
moved_rect rect left top =
    record { left = rect.left +ℤ left; top = rect.top +ℤ top; right = rect.right +ℤ left; bottom = rect.bottom +ℤ top }

-- the part of a window in which the views of a list are seen, and the origin of their coordinates
pub record Canvas : Type 0 where
  pub left : ℤ
  pub top : ℤ
  pub clip : Rect

-- what is seen of a view that is in this rectangle of a canvas, if it has bounds
abbrev pub seen_in : Option Rect → Canvas → Rect
seen_in None canvas = empty_rect
seen_in (Some rect) canvas = meet_of (moved_rect rect canvas.left canvas.top) canvas.clip

-- the canvas of its children
abbrev pub canvas_below : Option Rect → Facts → Canvas → Canvas
canvas_below None facts canvas = record canvas { clip = empty_rect }
canvas_below (Some rect) facts canvas =
    let left = rect.left +ℤ canvas.left in
    let top = rect.top +ℤ canvas.top in
    let own = meet_of (moved_rect rect canvas.left canvas.top) canvas.clip in
    record {
      left = left;
      top = top -ℤ facts.offset;
      clip = if facts.clip then meet_of (moved_rect (inner_rect facts (size_of_rect rect)) left top) own else own;
    }

-- what is seen in a canvas of the view of this number, if it is among the views of a list and all below them
abbrev pub visible_in : Forest PlacedView → Canvas → ℕ → Option Rect
visible_in Nothing canvas number = None
visible_in (Branch it below after) canvas number =
    if it.view.number == number
    then Some (seen_in it.bounds canvas)
    else option_or (visible_in below (canvas_below it.bounds it.view.facts canvas) number)
    (visible_in after canvas number)

abbrev pub whole_window : Size → Canvas
whole_window window =
    record
    { left = pos 0; top = pos 0; clip = record { left = pos 0; top = pos 0; right = window.w; bottom = window.h } }

-- the rectangle of a window in which a view is seen: its bounds, intersected with the window and with the parts that
-- its ancestors show of their children. It is empty if the view or an ancestor has no bounds. Views that are not drawn
-- count as seen
abbrev pub visible_rect : Forest PlainView → List Laid → Size → ℕ → Rect
visible_rect tree geometry window number =
    unwrap_or (visible_in (placed_by geometry tree) (whole_window window) number) empty_rect
