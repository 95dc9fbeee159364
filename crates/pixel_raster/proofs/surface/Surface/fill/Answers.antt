use Rattle.std.proofs.Common.{rules, ◌≡◌, ◌+◌, ◌*◌, pos, Bool, true, false, List, refl, sym, ap, ◌∙◌, arith, length, Fits, w32, if◌then◌else◌}
use Rattle.std.proofs.lemmas.List.{with_items_is}
use Rattle.geom_core.specs.Color.{blend_of}
use Rattle.geom_core.specs.Rects.{holds}
use Rattle.geom_core.specs.declared.color.Argb.{Argb}
use Rattle.geom_core.proofs.ColorLaws.{alpha_of-blend_of, blend_of-clear}
use Rattle.pixel_raster.specs.Cuts.{has_pixel}
use Rattle.pixel_raster.specs.Marks.{seen_pixels}
use Rattle.pixel_raster.specs.Raster.{Raster, pixel_at}
use Rattle.geom_core.specs.Numbers.{unpainted}
use Rattle.pixel_raster.proofs.BlackLaws.{black-pixel, blend_of-black}
use Rattle.pixel_raster.proofs.CutLaws.{by_rect, by_rect-none}
use Rattle.pixel_raster.proofs.MarkLaws.{unmarked-none}
use Rattle.pixel_raster.proofs.SeenLaws.{is_raster-changed, pixel_at-changed, unblended}
use Rattle.pixel_raster.proofs.surface.Surface.fill.Goals as goal

pub returns-then-area-eq0-clause-fills : goal.returns-then-area-eq0-clause-fills
returns-then-area-eq0-clause-fills c = rw (← c.self.view_is) (record {
  width = refl;
  height = refl;
  colors = λ x y column row.
      by_rect-none c.self.inside.width c.self.inside.height x y c.args.rect c.of-cut.result _ _ column row c.of-cut.ensures.value
      (sym c.area-area.ensures ∙ c.if-area-eq0.true);
  filled = search rules;
  grew = omega arith;
})

pub returns-then-alpha-eq0-clause-fills : goal.returns-then-alpha-eq0-clause-fills
returns-then-alpha-eq0-clause-fills c = rw (← c.self.view_is) (record {
  width = refl;
  height = refl;
  colors = λ x y column row.
      unblended (holds c.args.rect (pos x) (pos y)) c.args.color (pixel_at c.self.inside.width (seen_pixels c.self.inside.width c.self.inside.pixels.items) x y)
      (blend_of-clear c.args.color (pixel_at c.self.inside.width (seen_pixels c.self.inside.width c.self.inside.pixels.items) x y) (sym c.alpha.ensures ∙ c.if-alpha-eq0.true)
      (c.self.invariant.raster.opaque (y * c.self.inside.width + x)));
  filled = search rules;
  grew = omega arith;
})

pub returns-then-stays-clause-fills : goal.returns-then-stays-clause-fills
returns-then-stays-clause-fills c =
    let same = c.stays_black-stays.ensures c.if-stays.true in
    rw (← c.self.view_is) (record {
      width = refl;
      height = refl;
      colors = λ x y column row.
          stays (holds c.args.rect (pos x) (pos y)) c.args.color (pixel_at c.self.inside.width (seen_pixels c.self.inside.width c.self.inside.pixels.items) x y) same.0
          (ap (λ (raster : Raster). pixel_at c.self.inside.width raster.pixels x y) c.self.view_is
          ∙ ap (λ (pixels : List Argb). pixel_at c.self.inside.width pixels x y) same.1 ∙ black-pixel _ (y * c.self.inside.width + x));
      filled = search rules;
      grew = omega arith;
    })
  where
    stays : (test : Bool) (color was : Argb) → color ≡ unpainted → was ≡ unpainted → was ≡ (if test then blend_of color was else was)
    stays true color was black is = rw (black, is) (sym blend_of-black)
    stays false color was black is = refl

pub returns-clause-fills : goal.returns-clause-fills
returns-clause-fills c =
    let inside = c.self.inside in
    let items = with_items_is inside.pixels c.fill_part.new.pixels (omega arith) in
    rw (← c.self.view_is) (record {
      width = refl;
      height = refl;
      colors = λ x y column row.
          by_rect inside.width inside.height x y c.args.rect c.of-cut.result _ _ _ column row c.of-cut.ensures.value
          (ap (λ (pixels : List Argb). pixel_at inside.width (seen_pixels inside.width pixels) x y) items
          ∙ pixel_at-changed (blend_of c.args.color) (has_pixel c.of-cut.result) inside.width inside.height inside.pixels.items c.fill_part.new.pixels
          c.self.invariant.size (omega (arith, c.self.invariant.size, c.deref_mut.ensures.len)) (rw c.deref_mut.ensures.value at c.fill_part.ensures.colors) x y column row);
      filled = search rules;
      grew = omega arith;
    })

pub invariant_of-self-2 : goal.invariant_of-self-2
invariant_of-self-2 c =
    let inside = c.self.inside in
    let items = with_items_is inside.pixels c.fill_part.new.pixels (omega arith) in
    let fits : Fits w32 c.args.color.0 = search rules in
    let size : length c.fill_part.new.pixels ≡ inside.width * inside.height = omega (arith, c.self.invariant.size, c.deref_mut.ensures.len) in
    record {
      size = rw items size;
      raster = rw items (is_raster-changed (blend_of c.args.color) (has_pixel c.of-cut.result) inside.width inside.height inside.pixels.items c.fill_part.new.pixels
          c.self.invariant.size size (rw c.deref_mut.ensures.value at c.fill_part.ensures.colors) inside.filled c.saturating_add-self-inside.result
          (λ under. alpha_of-blend_of c.args.color under fits.fits) c.self.invariant.raster);
      unmarked = unmarked-none _ _;
      digest = tt;
      black = λ is. absurd (cc);
    }

pub returns-clause-raster : goal.returns-clause-raster
returns-clause-raster c = (invariant_of-self-2 c).raster
