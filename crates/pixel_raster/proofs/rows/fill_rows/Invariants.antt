use Rattle.std.proofs.Common.{◌≡◌, ℕ, ◌<◌, if◌then◌else◌}
use Rattle.std.specs.Prelude.{◌&&◌}
use Rattle.geom_core.specs.Color.{blend_of}
use Rattle.pixel_raster.specs.Cuts.{is_between}
use Rattle.pixel_raster.specs.Raster.{pixel_at}
use Rattle.pixel_raster.proofs.rows.fill_rows.Given as goal

abbrev pub invariant-loop-y : goal.invariant-loop-y
invariant-loop-y l = (x y : ℕ) → x < l.width
    → pixel_at l.width l.pixels x y
    ≡ (if is_between l.cut.left l.cut.right x && is_between l.cut.top l.y y
    then blend_of l.color (pixel_at l.width l.initial.pixels x y)
    else pixel_at l.width l.initial.pixels x y)
