-- A picture whose pixels are known point by point.
use Rattle.std.proofs.Common.{◌≡◌, ℕ, zero, suc, mul_comm, ◌+◌, ◌*◌, ◌/◌, ◌%◌, ◌<◌, ℤ, pos, get_or, sym, ap, ◌∙◌, arith}
use Rattle.std.proofs.lemmas.List.{get_or_default, same_lists}
use Rattle.std.proofs.lemmas.List.FromFn.{get_or-map-range_with_len, length-map-range_with_len}
use Rattle.std.proofs.Math.Nat.{div-add-mod, div-lt_iff_lt-mul}
use Rattle.geom_core.specs.declared.color.Argb.{Argb}
use Rattle.geom_core.specs.Numbers.{unpainted}
use Rattle.pixel_raster.specs.Raster.{IsRaster, Raster, color_at}
use Rattle.view_model.specs.Painting.{picture_of}

pub positive : (w h k : ℕ) → k < w * h → 0 < w
positive zero h k lt = absurd (let none : zero * h ≡ 0 = omega arith in omega arith)
positive (suc w) h k lt = omega arith

module _ (width height k : ℕ) (inside : k < width * height) where
  wide : 0 < width
  wide = positive width height k inside

  pub row_of : k / width < height
  row_of = (div-lt_iff_lt-mul wide).1 (let e = mul_comm width height in omega arith)

  pub place_of : k / width * width + k % width ≡ k
  place_of = let d = div-add-mod k width in let e = mul_comm width (k / width) in omega arith

  pub column_of : k % width < width
  column_of = let w = wide in omega arith

-- each pixel has the colour of its point: the pixels are the picture
pub pixels-picture : (raster : Raster) (color : ℤ → ℤ → Argb) → IsRaster raster
    → ((x y : ℕ) → x < raster.width → y < raster.height → color_at raster x y ≡ color (pos x) (pos y))
    → raster.pixels ≡ picture_of raster.width raster.height color
pixels-picture raster color is each =
    let point : ℕ → Argb = λ k. color (pos (k % raster.width)) (pos (k / raster.width)) in
    let size = is.size in
    same_lists raster.pixels (picture_of raster.width raster.height color)
    (size ∙ sym (length-map-range_with_len point 0 (raster.width * raster.height)))
    (λ k d lt.
    let inside : k < raster.width * raster.height = omega (arith, size, lt) in
    get_or_default raster.pixels k d unpainted lt
    ∙ ap (λ (n : ℕ). get_or raster.pixels n unpainted) (sym (place_of raster.width raster.height k inside))
    ∙ each (k % raster.width) (k / raster.width) (column_of raster.width raster.height k inside) (row_of raster.width raster.height k inside)
    ∙ sym (get_or-map-range_with_len point 0 (raster.width * raster.height) k k d inside (omega arith)))
