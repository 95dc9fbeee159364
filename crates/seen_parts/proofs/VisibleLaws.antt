-- What is seen of a view lies in its canvas, and the canvas of its children in what is seen of it.
use Rattle.std.proofs.Common.{◌+ℤ◌, Bool, true, false, Option, Some, None, refl}
use Rattle.std.specs.Prelude.{if◌then◌else◌}
use Rattle.geom_core.specs.declared.geometry.Rect.{Rect}
use Rattle.geom_core.specs.Rects.{empty_rect, meet_of}
use Rattle.damage_rect.specs.Within.{LiesIn}
use Rattle.damage_rect.proofs.RectLaws.{empty_within, meet_within_second}
use Rattle.view_model.specs.declared.facts.Facts.{Facts}
use Rattle.view_model.specs.Geometry.{size_of_rect}
use Rattle.view_model.specs.Painting.{inner_rect}
use Rattle.view_model.specs.Visible.{Canvas, canvas_below, moved_rect, seen_in}

pub seen_within : (bounds : Option Rect) (canvas : Canvas) → LiesIn (seen_in bounds canvas) canvas.clip
seen_within None canvas = empty_within empty_rect canvas.clip refl
seen_within (Some rect) canvas = meet_within_second (moved_rect rect canvas.left canvas.top) canvas.clip

-- the canvas of the children of a view
pub below_within : (bounds : Option Rect) (facts : Facts) (canvas : Canvas) → LiesIn (canvas_below bounds facts canvas).clip (seen_in bounds canvas)
below_within None facts canvas = λ x y h. h
below_within (Some rect) facts canvas = cut facts.clip (moved_rect (inner_rect facts (size_of_rect rect)) (rect.left +ℤ canvas.left) (rect.top +ℤ canvas.top)) (seen_in (Some rect) canvas)
  where
    cut : (clip : Bool) (inner own : Rect) → LiesIn (if clip then meet_of inner own else own) own
    cut true inner own = meet_within_second inner own
    cut false inner own = λ x y h. h
