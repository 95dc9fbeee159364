use Rattle.std.proofs.Common.{◌≡◌, ℕ, ◌<◌, if◌then◌else◌}
use Rattle.std.specs.Prelude.{◌&&◌, ◌==◌}
use Rattle.pixel_raster.specs.Cuts.{is_between}
use Rattle.pixel_raster.specs.Marks.{mark_of}
use Rattle.pixel_raster.specs.Raster.{pixel_at}
use Rattle.pixel_raster.proofs.marks.mark_rows.Given as goal

abbrev pub invariant-loop-y : goal.invariant-loop-y
invariant-loop-y l = (x y : ℕ) → x < l.width
    → pixel_at l.width l.pixels x y ≡ (if (x == 0) && is_between l.top l.y y then mark_of l.color else pixel_at l.width l.initial.pixels x y)
