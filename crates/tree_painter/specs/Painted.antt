-- What painting leaves of a picture, and of the counts.
use Rattle.std.specs.Prelude.{◌≡◌, Some, None, ℕ, ◌+◌, ◌-◌, ◌<◌, ◌≤◌, ◌^◌, ℤ, pos, ◌-ℤ◌, if◌then◌else◌, Option}
use Rattle.geom_core.specs.Rects.{holds}
use Rattle.geom_core.specs.declared.color.Argb.{Argb}
use Rattle.geom_core.specs.declared.geometry.Rect.{Rect}
use Rattle.pixel_raster.specs.Cuts.{area_within}
use Rattle.pixel_raster.specs.Raster.{Raster, color_at}
use Rattle.view_model.specs.declared.work.Work.{Work}
use Rattle.view_model.specs.Forest.{Forest, sum_of}
use Rattle.view_model.specs.Painting.{Painter}
use Rattle.view_tree.specs.Rows.{Row}
use Rattle.seen_parts.specs.declared.frame.Canvas.{Canvas}

-- each pixel in a rectangle is what a painter makes of the colour that was there, and the others are as they were
pub record IsPainted (paint : Painter) (clip : Rect) (old new : Raster) : Type 0 where
  pub width : new.width ≡ old.width
  pub height : new.height ≡ old.height
  pub colors : (x y : ℕ) → x < old.width → y < old.height
      → color_at new x y
      ≡ (if holds clip (pos x) (pos y) then paint (pos x) (pos y) (color_at old x y) else color_at old x y)

-- a painter whose coordinates have their origin at this point
abbrev pub from_origin : ℤ → ℤ → Painter → Painter
from_origin left top paint x y under = paint (x -ℤ left) (y -ℤ top) under

abbrev pub PaintedIn : Canvas → Painter → Raster → Raster → Type 0
PaintedIn canvas paint old new = IsPainted (from_origin canvas.left canvas.top paint) canvas.clip old new

-- a painter that leaves each colour as it is
abbrev pub PaintsNothing : Painter → Type 0
PaintsNothing paint = (x y : ℤ) (under : Argb) → paint x y under ≡ under

-- the area of a rectangle within a picture
abbrev pub area_in : Raster → Rect → ℕ
area_in picture rect = area_within picture.width picture.height rect

-- the count of painted pixels rose, by no more than this, and that of a picture's filled pixels by the same, unless one
-- of them is at the greatest number; nothing was measured
pub record IsCounted (most : ℕ) (old new : Raster) (before after : Work) : Type 0 where
  pub grew : before.painted ≤ after.painted
  pub filled_grew : old.filled ≤ new.filled
  pub bound : after.painted ≤ before.painted + most
  pub alike : after.painted < 2 ^ 64 - 1 → new.filled < 2 ^ 64 - 1
      → after.painted + old.filled ≡ before.painted + new.filled
  pub measured : after.measured ≡ before.measured

-- what is left to paint of a view was painted: its children, if they are seen anywhere
abbrev pub ChildrenPainted : Option Canvas → Painter → Raster → Raster → Type 0
ChildrenPainted None children mid end = end ≡ mid
ChildrenPainted (Some canvas) children mid end = PaintedIn canvas children mid end

-- twice this area for each view of a list
abbrev pub share_of : ℕ → Forest Row → ℕ
share_of area list = sum_of (λ (row : Row). area + area) list
