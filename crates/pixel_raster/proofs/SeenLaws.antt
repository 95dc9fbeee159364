-- What is seen of a picture in which some pixels were changed, and of one row of it.
use Rattle.std.proofs.Common.{◌≡◌, ℕ, suc, ◌+◌, ◌-◌, ◌*◌, ◌/◌, ◌%◌, ◌<◌, ◌≤◌, Bool, true, false, List, map, take, drop, length, get_or, slice_index_or, if◌then◌else◌, refl, sym, ap, ◌∙◌, arith, inl, inr, mul-le-mul_right}
use Rattle.std.proofs.lemmas.List.{get_or_default, get_or_past, get_or-drop, get_or-map, get_or-take, length-drop, length-map, length-take, same_lists}
use Rattle.std.proofs.lemmas.Bool.{cases_lt}
use Rattle.geom_core.specs.Color.{alpha_of, blend_of}
use Rattle.geom_core.specs.declared.color.Argb.{Argb}
use Rattle.geom_core.specs.Numbers.{unpainted}
use Rattle.pixel_raster.specs.Marks.{seen_at, seen_of, seen_pixels}
use Rattle.pixel_raster.specs.Raster.{AllOpaque, IsRaster, pixel_at}
use Rattle.pixel_raster.proofs.BlackLaws.{black-opaque}
use Rattle.pixel_raster.proofs.MarkLaws.{length-seen_pixels, pixel_at-seen}
use Rattle.pixel_raster.proofs.PictureLaws.{column_of, place_of, row_of}

-- a colour that leaves a pixel as it was
pub unblended : (test : Bool) (color was : Argb) → blend_of color was ≡ was → was ≡ (if test then blend_of color was else was)
unblended true color was is = sym is
unblended false color was is = refl

-- a picture is opaque if each of its points is
points-opaque : (width height : ℕ) (pixels : List Argb) → length pixels ≡ width * height
    → ((x y : ℕ) → x < width → y < height → alpha_of (pixel_at width pixels x y) ≡ 255) → AllOpaque pixels
points-opaque width height pixels size each place = elim (cases_lt place (width * height)) [
  | inl inside ↦ ap (λ (n : ℕ). alpha_of (get_or pixels n unpainted)) (sym (place_of width height place inside))
      ∙ each (place % width) (place / width) (column_of width height place inside) (row_of width height place inside)
  | inr outside ↦ ap (λ (color : Argb). alpha_of color) (get_or_past pixels place unpainted (omega arith)) ∙ black-opaque
]

module _ (f : Argb → Argb) (test : ℕ → ℕ → Bool) (width height : ℕ) (old new : List Argb) (size : length old ≡ width * height) (size_new : length new ≡ width * height)
    (colors : (x y : ℕ) → x < width → seen_at width new x y ≡ (if test x y then f (seen_at width old x y) else seen_at width old x y)) where
  -- what is changed at some points is seen to be
  pub pixel_at-changed : (x y : ℕ) → x < width → y < height
      → pixel_at width (seen_pixels width new) x y
      ≡ (if test x y then f (pixel_at width (seen_pixels width old) x y) else pixel_at width (seen_pixels width old) x y)
  pixel_at-changed x y column row =
      pixel_at-seen width height new x y size_new column row ∙ colors x y column
      ∙ ap (λ (was : Argb). if test x y then f was else was) (sym (pixel_at-seen width height old x y size column row))

  -- a picture stays opaque if what is changed becomes so
  opaque-changed : ((under : Argb) → alpha_of (f under) ≡ 255) → AllOpaque (seen_pixels width old) → AllOpaque (seen_pixels width new)
  opaque-changed opaque was =
      points-opaque width height (seen_pixels width new) (length-seen_pixels width new ∙ size_new) (λ x y column row.
      ap (λ (color : Argb). alpha_of color) (pixel_at-changed x y column row) ∙ either (test x y) _ (was (y * width + x)))
    where
      either : (t : Bool) (under : Argb) → alpha_of under ≡ 255 → alpha_of (if t then f under else under) ≡ 255
      either true under is = opaque under
      either false under is = is

  -- and stays a picture
  pub is_raster-changed : (filled filled_new : ℕ) → ((under : Argb) → alpha_of (f under) ≡ 255)
      → IsRaster (record { width = width; height = height; pixels = seen_pixels width old; filled = filled })
      → IsRaster (record { width = width; height = height; pixels = seen_pixels width new; filled = filled_new })
  is_raster-changed filled filled_new opaque was = record {
    size = length-seen_pixels width new ∙ size_new;
    width = was.width;
    height = was.height;
    opaque = opaque-changed opaque was.opaque;
  }

-- what is seen of one row
pub seen_pixels-row : (width height y : ℕ) (pixels : List Argb) → length pixels ≡ width * height → y < height
    → take ((y + 1) * width - y * width) (drop (y * width) (seen_pixels width pixels))
    ≡ map (seen_of (slice_index_or (take ((y + 1) * width - y * width) (drop (y * width) pixels)) 0 unpainted)) (take ((y + 1) * width - y * width) (drop (y * width) pixels))
seen_pixels-row width height y pixels size row =
    let rows : suc y * width ≤ height * width = mul-le-mul_right width row in
    let many : (y + 1) * width - y * width ≡ width = omega arith in
    let seen_long = length-seen_pixels width pixels in
    rw many (same_row (omega (arith, rows, seen_long)) (omega (arith, rows)))
  where
    same_row : y * width + width ≤ length (seen_pixels width pixels) → y * width + width ≤ length pixels
        → take width (drop (y * width) (seen_pixels width pixels)) ≡ map (seen_of (slice_index_or (take width (drop (y * width) pixels)) 0 unpainted)) (take width (drop (y * width) pixels))
    same_row fits fits_too =
        let left = long (seen_pixels width pixels) fits in
        let right = long pixels fits_too in
        same_lists _ _ (left ∙ sym right ∙ sym (length-map (take width (drop (y * width) pixels)) (seen_of (slice_index_or (take width (drop (y * width) pixels)) 0 unpainted))))
        (λ k d lt.
        let column : k < width = omega (arith, lt, left) in
        get_or_default _ k d unpainted lt
        ∙ read (seen_pixels width pixels) k column
        ∙ pixel_at-seen width height pixels k y size column row
        ∙ ap (λ (first : Argb). seen_of first (pixel_at width pixels k y)) (sym (read pixels 0 (omega arith)))
        ∙ ap (λ (pixel : Argb). seen_of (slice_index_or (take width (drop (y * width) pixels)) 0 unpainted) pixel) (sym (read pixels k column))
        ∙ sym (get_or-map _ (take width (drop (y * width) pixels)) k unpainted d (omega (arith, column, right))))
      where
        long : (items : List Argb) → y * width + width ≤ length items → length (take width (drop (y * width) items)) ≡ width
        long items fits =
            let dropped = length-drop (y * width) items in
            let taken = length-take width (drop (y * width) items) in
            omega arith

        read : (items : List Argb) (k : ℕ) → k < width → get_or (take width (drop (y * width) items)) k unpainted ≡ get_or items (y * width + k) unpainted
        read items k lt = get_or-take width (drop (y * width) items) k unpainted lt ∙ get_or-drop (y * width) items k unpainted
