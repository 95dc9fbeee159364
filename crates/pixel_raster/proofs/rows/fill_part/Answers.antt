use Rattle.std.proofs.Common.{rules, ◌≡◌, ◌<◌, ◌∙◌, sym, ap, true, Bool, Fits, w32, if◌then◌else◌, arith}
use Rattle.std.proofs.lemmas.Bool.{and_parts}
use Rattle.std.specs.Prelude.{◌&&◌}
use Rattle.geom_core.specs.Color.{blend_of}
use Rattle.geom_core.specs.declared.color.Argb.{Argb}
use Rattle.geom_core.proofs.ColorLaws.{alpha_of-blend_of, blend_of-covering}
use Rattle.pixel_raster.specs.Cuts.{has_pixel, is_between}
use Rattle.pixel_raster.specs.Marks.{seen_at}
use Rattle.pixel_raster.proofs.MarkLaws.{seen_of-marked, seen_of-written_then}
use Rattle.pixel_raster.proofs.TestLaws.{between_to}
use Rattle.pixel_raster.proofs.rows.fill_part.Goals as goal

pub returns-then-cut-width : goal.returns-then-cut-width
returns-then-cut-width c =
    let cut = c.args.cut in
    let color = c.args.color in
    let fits : Fits w32 color.0 = search rules in
    let opaque = sym c.alpha.ensures ∙ c.if-alpha-eq255.true in
    record {
      colors = λ x y column.
          let within = is_between cut.top cut.bottom y in
          let was = seen_at c.args.width c.args.pixels.now x y in
          let across : is_between cut.left cut.right x ≡ true = between_to cut.left cut.right x (omega arith) (omega arith) in
          seen_of-marked color within _ _ _ _ _ opaque fits.fits (c.mark_rows.ensures.marks 0 y (omega arith)) (c.mark_rows.ensures.marks x y column)
          ∙ ap (λ (t : Bool). if t && within then color else was) (sym across)
          ∙ ap (λ (seen : Argb). if has_pixel cut x y then seen else was) (sym (blend_of-covering color was opaque));
    }

pub returns-else-alpha-eq255 : goal.returns-else-alpha-eq255
returns-else-alpha-eq255 c =
    let cut = c.args.cut in
    let fits : Fits w32 c.args.color.0 = search rules in
    record {
      colors = λ x y column.
          let some : 0 < c.args.width = omega arith in
          seen_of-written_then (blend_of c.args.color) (is_between cut.top cut.bottom y) (has_pixel cut x y) (has_pixel cut 0 y) _ _ _ _ _ _
          (λ under. alpha_of-blend_of c.args.color under fits.fits) (λ is. (and_parts _ _ is).1) (λ is. (and_parts _ _ is).1)
          (c.write_rows.ensures.seen 0 y some) (c.write_rows.ensures.seen x y column)
          (c.fill_rows.ensures.colors 0 y some) (c.fill_rows.ensures.colors x y column);
    }
