-- What contracts see of a picture in memory.
use Rattle.std.specs.Prelude.{ℕ, ℤ, pos, ◌≡◌, ◌≢◌, ◌⊎◌, ◌<◌, ◌≤◌, ◌<ℤ◌, ◌≤ℤ◌, ◌+◌, ◌-◌, ◌*◌, ◌^◌, min, List, []}
use Rattle.std.specs.Prelude.{length, replicate, slice_index_or, if◌then◌else◌}
use Rattle.geom_core.specs.Color.{alpha_of, blend_of}
use Rattle.geom_core.specs.Numbers.{unpainted}
use Rattle.geom_core.specs.Rects.{holds}
use Rattle.geom_core.specs.declared.color.Argb.{Argb}
use Rattle.geom_core.specs.declared.geometry.Rect.{Rect}
use Rattle.geom_core.specs.declared.geometry.Size.{Size}
use Rattle.view_model.specs.declared.work.Work.{Work}
use Rattle.pixel_raster.specs.Cuts.{area_within, from_zero}

pub record Raster : Type 0 where
  pub width : ℕ
  pub height : ℕ
  -- row by row, from the top
  pub pixels : List Argb
  -- how many pixels were filled since the picture was made; it stays at the greatest number
  pub filled : ℕ

-- the colour of a pixel in rows of this width
abbrev pub pixel_at : ℕ → List Argb → ℕ → ℕ → Argb
pixel_at width pixels x y = slice_index_or pixels (y * width + x) unpainted

abbrev pub color_at : Raster → ℕ → ℕ → Argb
color_at raster x y = pixel_at raster.width raster.pixels x y

-- a picture on which nothing was painted
abbrev pub black_raster : Size → Raster
black_raster size = record {
  width = from_zero size.w;
  height = from_zero size.h;
  pixels = replicate (from_zero size.w * from_zero size.h) unpainted;
  filled = 0;
}

-- a picture without a pixel
abbrev pub empty_raster : Raster
empty_raster = record { width = 0; height = 0; pixels = []; filled = 0 }

-- the size of the window whose picture it is
abbrev pub size_of : Raster → Size
size_of raster = record { w = pos raster.width; h = pos raster.height }

abbrev pub AllOpaque : List Argb → Type 0
AllOpaque pixels = (place : ℕ) → alpha_of (slice_index_or pixels place unpainted) ≡ 255

-- what every picture keeps
pub record IsRaster (raster : Raster) : Type 0 where
  pub size : length raster.pixels ≡ raster.width * raster.height
  pub width : raster.width < 2 ^ 31
  pub height : raster.height < 2 ^ 31
  pub opaque : AllOpaque raster.pixels

-- a point of a picture
pub record IsPointOf (raster : Raster) (x y : ℤ) : Type 0 where
  pub right_of : pos 0 ≤ℤ x
  pub left_of : x <ℤ pos raster.width
  pub below : pos 0 ≤ℤ y
  pub above : y <ℤ pos raster.height

-- a colour is blended over the pixels of a rectangle
pub record Blends (rect : Rect) (color : Argb) (old new : Raster) : Type 0 where
  pub width : new.width ≡ old.width
  pub height : new.height ≡ old.height
  pub colors : (x y : ℕ) → x < old.width → y < old.height
      → color_at new x y ≡ (if holds rect (pos x) (pos y) then blend_of color (color_at old x y) else color_at old x y)

-- the same, and the picture counts them
pub record Fills (rect : Rect) (color : Argb) (old new : Raster) : Type 0 where
  pub width : new.width ≡ old.width
  pub height : new.height ≡ old.height
  pub colors : (x y : ℕ) → x < old.width → y < old.height
      → color_at new x y ≡ (if holds rect (pos x) (pos y) then blend_of color (color_at old x y) else color_at old x y)
  pub filled : new.filled ≡ min (old.filled + area_within old.width old.height rect) (2 ^ 64 - 1)
  pub grew : old.filled ≤ new.filled

-- these pixels were counted as work
abbrev pub IsAreaCounted : Rect → Raster → Work → Work → Type 0
IsAreaCounted rect picture before after = after ≡ record before {
  painted = min (before.painted + area_within picture.width picture.height rect) (2 ^ 64 - 1);
}

-- a colour that covers nothing leaves all as it is, and the pixels under any other one are counted
abbrev pub FillsUnlessClear : Rect → Argb → Raster → Raster → Work → Work → Type 0
FillsUnlessClear rect color old new before after =
    ((alpha_of color ≡ 0) × (new ≡ old) × (after ≡ before))
    ⊎ ((alpha_of color ≢ 0) × Fills rect color old new × IsAreaCounted rect old before after)
