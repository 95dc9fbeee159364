use Rattle.std.proofs.Common.{◌≡◌, ℕ, ◌*◌, ap, arith}
use Rattle.std.proofs.lemmas.Bool.Decides.{nat_tests}
use Rattle.geom_core.specs.declared.color.Argb.{Argb}
use Rattle.pixel_raster.proofs.MarkLaws.{seen_pixels-black}
use Rattle.pixel_raster.proofs.surface.Surface.stays_black.Goals as goal

pub returns-then-self : goal.returns-then-self
returns-then-self c = λ is.
    let number : c.args.color.0 ≡ 0xff00_0000 = grind (arith, nat_tests, is) in
    let inside = c.self.inside in
    rw (← c.self.view_is) (
      ap (λ (n : ℕ). let color : Argb = record { 0 = n } in color) number,
      seen_pixels-black inside.width (inside.width * inside.height) inside.pixels.items (c.self.invariant.black c.if-self.true),
    )
