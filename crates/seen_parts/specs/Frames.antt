-- Rectangles in window coordinates whose edges may lie far outside.
use Rattle.std.specs.Prelude.{ℕ, ◌^◌, ℤ, pos, negsuc, ◌+ℤ◌, ◌-ℤ◌, ◌≤ℤ◌, ◌<ℤ◌, ◌≡◌, Bool, false, not, ◌&&◌, int_lt}
use Rattle.std.specs.Prelude.{Option, Some, None}
use Rattle.geom_core.specs.Rects.{holds, larger_of, smaller_of}
use Rattle.geom_core.specs.declared.geometry.Insets.{Insets}
use Rattle.geom_core.specs.declared.geometry.Rect.{Rect}
use Rattle.geom_core.specs.declared.geometry.Size.{Size}
use Rattle.view_model.specs.declared.facts.Facts.{Facts}
use Rattle.view_model.specs.Facts.{padding_left, padding_right}
use Rattle.seen_parts.specs.declared.frame.Canvas.{Canvas}
use Rattle.seen_parts.specs.declared.frame.Frame.{Frame}

-- whether a point lies in a frame
abbrev pub frame_holds : Frame → ℤ → ℤ → Bool
frame_holds frame x y =
    (not (int_lt x frame.left) && int_lt x frame.right) && (not (int_lt y frame.top) && int_lt y frame.bottom)

-- the width and the height of a frame
abbrev pub frame_size : Frame → Size
frame_size frame = record { w = frame.right -ℤ frame.left; h = frame.bottom -ℤ frame.top }

-- a number that is at most this far from 0
pub record IsWithin (reach : ℕ) (at : ℤ) : Type 0 where
  pub low : negsuc reach ≤ℤ at
  pub high : at ≤ℤ pos reach

-- a canvas whose origin is at most this far from that of the window
pub record IsCanvas (reach : ℕ) (canvas : Canvas) : Type 0 where
  pub across : IsWithin reach canvas.left
  pub down : IsWithin reach canvas.top

-- a canvas on which a view is painted
abbrev pub IsNearCanvas : Canvas → Type 0
IsNearCanvas canvas = IsCanvas (2 ^ 37) canvas

-- one that is near enough for those of the view's children
abbrev pub IsNearerCanvas : Canvas → Type 0
IsNearerCanvas canvas = IsCanvas (2 ^ 36) canvas

-- an edge of a frame: no sum of it and a number of 32 bits wraps
abbrev pub IsEdge : ℤ → Type 0
IsEdge at = IsWithin (2 ^ 38) at

-- a frame whose edges are near enough to compute with, and not too far apart
pub record IsInReach (frame : Frame) : Type 0 where
  pub left : IsEdge frame.left
  pub top : IsEdge frame.top
  pub right : IsEdge frame.right
  pub bottom : IsEdge frame.bottom
  pub across : frame.right ≤ℤ (frame.left +ℤ pos 4294967295)
  pub down : frame.bottom ≤ℤ (frame.top +ℤ pos 4294967295)

-- a rectangle of a canvas in window coordinates
pub record IsMoved (rect : Rect) (canvas : Canvas) (frame : Frame) : Type 0 where
  pub left : frame.left ≡ rect.left +ℤ canvas.left
  pub top : frame.top ≡ rect.top +ℤ canvas.top
  pub right : frame.right ≡ rect.right +ℤ canvas.left
  pub bottom : frame.bottom ≡ rect.bottom +ℤ canvas.top

abbrev pub part_holds : Option Rect → ℤ → ℤ → Bool
part_holds None x y = false
part_holds (Some rect) x y = holds rect x y

-- a rectangle that is what two have in common
pub record IsCommonPart (clip : Rect) (frame : Frame) (part : Rect) : Type 0 where
  pub left : part.left ≡ larger_of clip.left frame.left
  pub top : part.top ≡ larger_of clip.top frame.top
  pub right : part.right ≡ smaller_of clip.right frame.right
  pub bottom : part.bottom ≡ smaller_of clip.bottom frame.bottom
  pub across : part.left <ℤ part.right
  pub down : part.top <ℤ part.bottom

-- a frame of which something lies in a picture
pub record IsSeen (frame : Frame) : Type 0 where
  pub left : frame.left ≤ℤ pos 2147483647
  pub right : negsuc 2147483647 ≤ℤ frame.right
  pub top : frame.top ≤ℤ pos 2147483647
  pub bottom : negsuc 2147483647 ≤ℤ frame.bottom

-- the padding of a view
abbrev pub padding_of : Facts → Insets
padding_of facts =
    record
    { left = padding_left facts; top = facts.padding.top; right = padding_right facts; bottom = facts.padding.bottom }

-- a frame without this padding
pub record IsWithout (frame : Frame) (padding : Insets) (inner : Frame) : Type 0 where
  pub left : inner.left ≡ frame.left +ℤ padding.left
  pub top : inner.top ≡ frame.top +ℤ padding.top
  pub right : inner.right ≡ frame.right -ℤ padding.right
  pub bottom : inner.bottom ≡ frame.bottom -ℤ padding.bottom

-- a canvas whose origin is that of the children of a view in this frame, with this offset
pub record IsBelow (frame : Frame) (offset : ℤ) (canvas : Canvas) : Type 0 where
  pub left : canvas.left ≡ frame.left
  pub top : canvas.top ≡ frame.top -ℤ offset

abbrev pub canvas_holds : Option Canvas → ℤ → ℤ → Bool
canvas_holds None x y = false
canvas_holds (Some canvas) x y = holds canvas.clip x y
