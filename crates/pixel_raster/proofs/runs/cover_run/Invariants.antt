use Rattle.std.proofs.Common.{◌≡◌, map, take, drop, ◌++◌}
use Rattle.geom_core.specs.declared.color.Argb.{Argb}
use Rattle.pixel_raster.proofs.runs.cover_run.Given as goal

abbrev pub invariant-loop-pixel : goal.invariant-loop-pixel
invariant-loop-pixel l = l.run ≡ map (λ (_ : Argb). l.color) (take l.pixel-index l.initial.run) ++ drop l.pixel-index l.initial.run
