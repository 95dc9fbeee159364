use Rattle.std.proofs.Common.{◌<◌, length, arith, get_or}
use Rattle.std.proofs.lemmas.List.Edits.{map_over_more}
use Rattle.std.proofs.lemmas.List.{get_or_default}
use Rattle.geom_core.specs.declared.color.Argb.{Argb}
use Rattle.pixel_raster.proofs.runs.cover_run.Goals as goal

pub loop-pixel-preserved : goal.loop-pixel-preserved
loop-pixel-preserved c =
    let inside : c.loop-pixel.pixel-index < length c.loop-pixel.run = omega arith in
    let was : Argb = get_or c.loop-pixel.run c.loop-pixel.pixel-index c.args.color in
    map_over_more (λ (_ : Argb). c.args.color) c.args.run.now c.loop-pixel.run c.loop-pixel.pixel-index was c.loop-pixel-test.true c.loop-pixel.invariant
    (get_or_default c.loop-pixel.run c.loop-pixel.pixel-index c.args.color was inside)
