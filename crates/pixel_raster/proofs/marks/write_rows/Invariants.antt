use Rattle.std.proofs.Common.{◌≡◌, ℕ, ◌<◌, if◌then◌else◌}
use Rattle.pixel_raster.specs.Cuts.{is_between}
use Rattle.pixel_raster.specs.Marks.{seen_at}
use Rattle.pixel_raster.specs.Raster.{pixel_at}
use Rattle.pixel_raster.proofs.marks.write_rows.Given as goal

abbrev pub invariant-loop-y : goal.invariant-loop-y
invariant-loop-y l = (x y : ℕ) → x < l.width
    → pixel_at l.width l.pixels x y ≡ (if is_between l.top l.y y then seen_at l.width l.initial.pixels x y else pixel_at l.width l.initial.pixels x y)
