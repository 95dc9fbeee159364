-- The views that are seen at a point of a window.
use Rattle.std.specs.Prelude.{◌≡◌, ◌⊎◌, ◌==◌, ℕ, ℤ, false, if◌then◌else◌, Option, Some, MatchOption}
use Rattle.geom_core.specs.Rects.{holds}
use Rattle.geom_core.specs.declared.geometry.Rect.{Rect}
use Rattle.view_model.specs.declared.facts.Facts.{Facts}
use Rattle.view_model.specs.Forest.{Forest, Nothing, Branch, map_rows}
use Rattle.view_model.specs.Painting.{PlacedView}
use Rattle.view_model.specs.Visible.{Canvas, canvas_below, seen_in}
use Rattle.seen_parts.specs.declared.frame.Canvas.{Canvas as FramedCanvas}
use Rattle.view_tree.specs.Rows.{Row, count_of_key}
use Rattle.view_tree.specs.Views.{Held, scrolled}

-- the views of a list of a canvas that are seen at a point of the window, and below each those that are
abbrev pub met_at : ℤ → ℤ → Canvas → Forest PlacedView → Forest PlacedView
met_at x y canvas Nothing = Nothing
met_at x y canvas (Branch it below after) =
    if holds (seen_in it.bounds canvas) x y
    then Branch it (met_at x y (canvas_below it.bounds it.view.facts canvas) below) (met_at x y canvas after)
    else met_at x y canvas after

-- the views of a list with the rectangles that are kept of them
abbrev pub placed_rows : (ℕ → Held) → Forest Row → Forest PlacedView
placed_rows held list =
    map_rows (λ (row : Row). record { view = scrolled held row; bounds = (held row.key).state.bounds }) list

-- at each point of the window outside of a rectangle, the views of a list of a canvas that are seen there are the same
abbrev pub KeepsSight : Canvas → Rect → (ℕ → Held) → (ℕ → Held) → Forest Row → Type 0
KeepsSight canvas damage old new list =
    (x y : ℤ) → holds damage x y ≡ false
    → met_at x y canvas (placed_rows new list) ≡ met_at x y canvas (placed_rows old list)

-- a canvas of the code
abbrev pub as_seen : FramedCanvas → Canvas
as_seen canvas = record { left = canvas.left; top = canvas.top; clip = canvas.clip }

-- a view was followed to its present bounds: if it had others it is seen in neither place outside of the damage; if
-- they are the same, its children are seen in this canvas, or not at all
abbrev pub Follows : Facts → Option Rect → Rect → Canvas → Rect → Option FramedCanvas → Type 0
Follows facts before rect canvas damage inner =
    (x y : ℤ) → holds damage x y ≡ false
    → ((holds (seen_in before canvas) x y ≡ false) × (holds (seen_in (Some rect) canvas) x y ≡ false))
    ⊎
    ((before ≡ Some rect) × MatchOption inner (holds (canvas_below (Some rect) facts canvas).clip x y ≡ false)
    (λ inner. as_seen inner ≡ canvas_below (Some rect) facts canvas))

-- the canvas in which the view of a key lies, if it is among the views of a list of a canvas and all below them
abbrev pub canvas_around : (ℕ → Held) → Canvas → ℕ → Forest Row → Canvas
canvas_around held canvas key Nothing = canvas
canvas_around held canvas key (Branch row kids siblings) =
    if row.key == key
    then canvas
    else (if count_of_key key kids == 0
    then canvas_around held canvas key siblings
    else canvas_around held (canvas_below (held row.key).state.bounds (scrolled held row).facts canvas) key kids)

-- what is seen of the view of a key
abbrev pub seen_at : (ℕ → Held) → Canvas → ℕ → Forest Row → Rect
seen_at held canvas key tree = seen_in (held key).state.bounds (canvas_around held canvas key tree)
