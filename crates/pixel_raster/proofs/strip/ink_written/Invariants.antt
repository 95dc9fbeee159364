use Rattle.std.proofs.Common.{◌≡◌, ℕ, ◌-◌, ◌<◌, if◌then◌else◌}
use Rattle.std.specs.Prelude.{◌&&◌, ◌==◌}
use Rattle.geom_core.specs.Color.{blend_of}
use Rattle.view_model.specs.Glyphs.{has_bit}
use Rattle.pixel_raster.specs.Cuts.{is_between}
use Rattle.pixel_raster.specs.Raster.{pixel_at}
use Rattle.pixel_raster.specs.Strips.{set_bits}
use Rattle.pixel_raster.proofs.strip.ink_written.Given as goal

abbrev pub invariant-loop-y : goal.invariant-loop-y
invariant-loop-y l = record {
  count : l.count ≡ set_bits l.bits (l.y - l.strip.top);
  colors : (x y : ℕ) → x < l.width
      → pixel_at l.width l.pixels x y
      ≡ (if (x == l.strip.column) && (is_between l.strip.top l.y y && has_bit l.bits (y - l.strip.top))
      then blend_of l.color (pixel_at l.width l.initial.pixels x y)
      else pixel_at l.width l.initial.pixels x y);
}
