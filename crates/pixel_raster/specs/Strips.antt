-- The part of a column whose pixels are set as the bits of a number are.
use Rattle.std.specs.Prelude.{ℕ, zero, suc, ◌≡◌, ◌<◌, ◌≤◌, ◌+◌, ◌-◌, ◌^◌, min, Bool, ◌&&◌, ◌==◌, if◌then◌else◌}
use Rattle.geom_core.specs.Color.{blend_of}
use Rattle.geom_core.specs.declared.color.Argb.{Argb}
use Rattle.view_model.specs.Glyphs.{has_bit}
use Rattle.pixel_raster.specs.Cuts.{is_between}
use Rattle.pixel_raster.specs.Raster.{Raster, color_at}
use Rattle.pixel_raster.specs.declared.strip.Strip.{Strip}

-- whether a pixel is one of a strip that is set: the lowest bit is that of its top row
abbrev pub is_set : Strip → ℕ → ℕ → ℕ → Bool
is_set strip bits x y = (x == strip.column) && (is_between strip.top strip.bottom y && has_bit bits (y - strip.top))

-- how many of the lowest bits are set
abbrev pub set_bits : ℕ → ℕ → ℕ
set_bits bits zero = 0
set_bits bits (suc n) = set_bits bits n + (if has_bit bits n then 1 else 0)

-- a colour is blended over the set pixels of a strip
pub record InksStrip (strip : Strip) (bits : ℕ) (color : Argb) (old new : Raster) : Type 0 where
  pub width : new.width ≡ old.width
  pub height : new.height ≡ old.height
  pub colors : (x y : ℕ) → x < old.width → y < old.height
      → color_at new x y ≡ (if is_set strip bits x y then blend_of color (color_at old x y) else color_at old x y)
  pub filled : new.filled ≡ min (old.filled + set_bits bits (strip.bottom - strip.top)) (2 ^ 64 - 1)
  pub grew : old.filled ≤ new.filled
