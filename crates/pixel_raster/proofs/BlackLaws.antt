-- A picture on which nothing was painted keeps what every picture keeps.
use Rattle.std.proofs.Common.{◌≡◌, ℕ, zero, suc, ◌*◌, ◌<◌, ◌^◌, List, replicate, slice_index_or, refl}
use Rattle.std.proofs.lemmas.List.{length-replicate}
use Rattle.geom_core.specs.Color.{alpha_of, blend_of, blue_of, green_of, mixed, opaque_of, red_of}
use Rattle.geom_core.specs.declared.color.Argb.{Argb}
use Rattle.geom_core.specs.Numbers.{unpainted}
use Rattle.pixel_raster.specs.Raster.{AllOpaque, IsRaster}

pub black-opaque : alpha_of unpainted ≡ 255
unfolding alpha_of
black-opaque = refl

all-opaque : (count : ℕ) → AllOpaque (replicate count unpainted)
all-opaque zero place = black-opaque
all-opaque (suc count) zero = black-opaque
all-opaque (suc count) (suc place) = all-opaque count place

-- a pixel of a black picture
pub black-pixel : (count place : ℕ) → slice_index_or (replicate count unpainted) place unpainted ≡ unpainted
black-pixel zero place = refl
black-pixel (suc count) zero = refl
black-pixel (suc count) (suc place) = black-pixel count place

-- black over black
pub blend_of-black : blend_of unpainted unpainted ≡ unpainted
unfolding blend_of opaque_of mixed alpha_of red_of green_of blue_of
blend_of-black = refl

pub black-is_raster : (width height : ℕ) (items : List Argb) → items ≡ replicate (width * height) unpainted → width < 2 ^ 31 → height < 2 ^ 31
    → IsRaster (record { width = width; height = height; pixels = items; filled = 0 })
black-is_raster width height items is wide high =
    rw is (record { size = length-replicate (width * height) unpainted; width = wide; height = high; opaque = all-opaque (width * height) })
