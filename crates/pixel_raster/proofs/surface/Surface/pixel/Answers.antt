use Rattle.std.proofs.Common.{◌≡◌}
use Rattle.std.proofs.lemmas.Int.{to_z-of_z}
use Rattle.pixel_raster.specs.Cuts.{from_zero}
use Rattle.pixel_raster.proofs.CutLaws.{from_zero-inside}
use Rattle.pixel_raster.proofs.surface.Surface.pixel.Goals as goal

pub color_at-requires-clause-column : goal.color_at-requires-clause-column
color_at-requires-clause-column c =
    let value : c.from_zero.result ≡ from_zero c.args.x = simp (to_z-of_z, c.ranges.x) at c.from_zero.ensures.value in
    rw value (from_zero-inside c.args.self.now.width c.args.x c.requires.right_of c.requires.left_of)

pub color_at-requires-clause-row : goal.color_at-requires-clause-row
color_at-requires-clause-row c =
    let value : c.from_zero-2.result ≡ from_zero c.args.y = simp (to_z-of_z, c.ranges.y) at c.from_zero-2.ensures.value in
    rw value (from_zero-inside c.args.self.now.height c.args.y c.requires.below c.requires.above)
