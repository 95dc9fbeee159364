use Rattle.std.proofs.Common.{rules, ◌≡◌, ◌*◌, List, length, refl, ap, ◌∙◌, arith, Fits, w32}
use Rattle.std.proofs.lemmas.List.{with_items_is}
use Rattle.geom_core.specs.Color.{blend_of}
use Rattle.geom_core.specs.declared.color.Argb.{Argb}
use Rattle.geom_core.proofs.ColorLaws.{alpha_of-blend_of}
use Rattle.pixel_raster.specs.Marks.{seen_pixels}
use Rattle.pixel_raster.specs.Raster.{pixel_at}
use Rattle.pixel_raster.specs.Strips.{is_set}
use Rattle.pixel_raster.proofs.SeenLaws.{is_raster-changed, pixel_at-changed}
use Rattle.pixel_raster.proofs.surface.Surface.ink.Goals as goal

pub invariant_of-self : goal.invariant_of-self
invariant_of-self c =
    let inside = c.self.inside in
    let items = with_items_is inside.pixels c.ink_strip-count.new.pixels (omega arith) in
    let fits : Fits w32 c.args.color.0 = search rules in
    let size : length c.ink_strip-count.new.pixels ≡ inside.width * inside.height = omega (arith, c.self.invariant.size, c.deref_mut.ensures.len) in
    record {
      size = rw items size;
      raster = rw items (is_raster-changed (blend_of c.args.color) (is_set c.args.strip c.args.bits) inside.width inside.height inside.pixels.items c.ink_strip-count.new.pixels
          c.self.invariant.size size (rw c.deref_mut.ensures.value at c.ink_strip-count.ensures.colors) inside.filled c.saturating_add-self-inside.result
          (λ under. alpha_of-blend_of c.args.color under fits.fits) c.self.invariant.raster);
      unmarked = rw items c.ink_strip-count.ensures.unmarked;
      digest = tt;
      black = λ is. absurd (cc);
    }

pub returns-clause-raster : goal.returns-clause-raster
returns-clause-raster c = (invariant_of-self c).raster

pub returns-clause-inks : goal.returns-clause-inks
returns-clause-inks c =
    let inside = c.self.inside in
    let items = with_items_is inside.pixels c.ink_strip-count.new.pixels (omega arith) in
    let size : length c.ink_strip-count.new.pixels ≡ inside.width * inside.height = omega (arith, c.self.invariant.size, c.deref_mut.ensures.len) in
    rw (← c.self.view_is) (record {
      width = refl;
      height = refl;
      colors = λ x y column row.
          ap (λ (pixels : List Argb). pixel_at inside.width (seen_pixels inside.width pixels) x y) items
          ∙ pixel_at-changed (blend_of c.args.color) (is_set c.args.strip c.args.bits) inside.width inside.height inside.pixels.items c.ink_strip-count.new.pixels
          c.self.invariant.size size (rw c.deref_mut.ensures.value at c.ink_strip-count.ensures.colors) x y column row;
      filled = rw (c.saturating_add-self-inside.ensures, c.ink_strip-count.ensures.count) refl;
      grew = omega arith;
    })
