use Rattle.std.proofs.Common.{◌+◌, ◌*◌, pos, true, refl, sym, ◌∙◌}
use Rattle.geom_core.specs.Rects.{holds}
use Rattle.geom_core.proofs.ColorLaws.{blend_of-clear}
use Rattle.pixel_raster.proofs.SeenLaws.{unblended}
use Rattle.pixel_raster.specs.Marks.{seen_pixels}
use Rattle.pixel_raster.specs.Raster.{pixel_at}
use Rattle.pixel_raster.proofs.surface.Surface.blend.Goals as goal

pub returns-then-alpha-eq0-clause-blends : goal.returns-then-alpha-eq0-clause-blends
returns-then-alpha-eq0-clause-blends c =
    let width = c.self.inside.width in
    let pixels = seen_pixels width c.self.inside.pixels.items in
    rw (← c.self.view_is) (record {
      width = refl;
      height = refl;
      colors = λ x y column row.
          unblended (holds c.args.rect (pos x) (pos y)) c.args.color (pixel_at width pixels x y)
          (blend_of-clear c.args.color (pixel_at width pixels x y) (sym c.alpha.ensures ∙ c.if-alpha-eq0.true) (c.self.invariant.raster.opaque (y * width + x)));
    })

pub returns-then-alpha-eq0-clause-raster : goal.returns-then-alpha-eq0-clause-raster
returns-then-alpha-eq0-clause-raster c = rw (← c.self.view_is) c.self.invariant.raster
