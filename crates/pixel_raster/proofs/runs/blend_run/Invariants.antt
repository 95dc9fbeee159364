use Rattle.std.proofs.Common.{◌≡◌, map, take, drop, ◌++◌}
use Rattle.geom_core.specs.Color.{blend_of}
use Rattle.pixel_raster.proofs.runs.blend_run.Given as goal

abbrev pub invariant-loop-pixel : goal.invariant-loop-pixel
invariant-loop-pixel l = l.run ≡ map (blend_of l.color) (take l.pixel-index l.initial.run) ++ drop l.pixel-index l.initial.run
