use Rattle.std.proofs.Common.{◌<◌, length, arith}
use Rattle.std.proofs.lemmas.List.Edits.{map_over_more}
use Rattle.std.proofs.lemmas.List.{get_or_default}
use Rattle.geom_core.specs.Color.{blend_of}
use Rattle.pixel_raster.proofs.runs.blend_run.Goals as goal

pub loop-pixel-preserved : goal.loop-pixel-preserved
loop-pixel-preserved c =
    let inside : c.loop-pixel.pixel-index < length c.loop-pixel.run = omega arith in
    rw c.blend.ensures
    (map_over_more (blend_of c.args.color) c.args.run.now c.loop-pixel.run c.loop-pixel.pixel-index _ c.loop-pixel-test.true c.loop-pixel.invariant
    (get_or_default _ _ _ _ inside))
