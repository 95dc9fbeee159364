use Rattle.std.proofs.Common.{◌≡◌, suc, ◌+◌, ◌-◌, ◌*◌, ◌≤◌, ◌<◌, Bool, length, get_or, refl, ap, ◌∙◌, arith, mul-le-mul_right, if◌then◌else◌}
use Rattle.std.proofs.lemmas.List.{get_or_default}
use Rattle.geom_core.specs.Color.{blend_of}
use Rattle.geom_core.specs.declared.color.Argb.{Argb}
use Rattle.geom_core.specs.Numbers.{unpainted}
use Rattle.view_model.specs.Glyphs.{has_bit}
use Rattle.pixel_raster.proofs.StripLaws.{pixel_at-next_place, set_bits-bound}
use Rattle.pixel_raster.proofs.strip.ink_written.Goals as goal

pub overflow_add-count : goal.overflow_add-count
overflow_add-count c =
    let bound = set_bits-bound c.args.bits (c.loop-y.y - c.args.strip.top) in
    record { fits = omega (arith, bound, c.loop-y.invariant.count, c.one_if-count.ensures.bound) }

pub loop-y-preserved : goal.loop-y-preserved
loop-y-preserved c =
    let z = c.loop-y.y in
    let top = c.args.strip.top in
    let at = z * c.args.width + c.args.strip.column in
    let rows : suc z * c.args.width ≤ c.args.strip.bottom * c.args.width = mul-le-mul_right c.args.width c.loop-y-test.true in
    let inside : at < length c.loop-y.pixels = omega arith in
    let written : c.inked.result ≡ (if has_bit c.args.bits (z - top) then blend_of c.args.color (get_or c.loop-y.pixels at unpainted) else get_or c.loop-y.pixels at unpainted) =
    c.inked.ensures
    ∙ ap (λ (t : Bool). let under : Argb = get_or c.loop-y.pixels at (record { 0 = 0 }) in if t then blend_of c.args.color under else under) c.has_bit-set.ensures
    ∙ ap (λ (under : Argb). if has_bit c.args.bits (z - top) then blend_of c.args.color under else under) (get_or_default c.loop-y.pixels at _ unpainted inside) in
    let next : z + 1 - top ≡ suc (z - top) = omega arith in
    record {
      count = rw (c.loop-y.invariant.count, c.one_if-count.ensures.value, c.has_bit-set.ensures, next) refl;
      colors = λ x y column.
          rw written (pixel_at-next_place (blend_of c.args.color) c.args.pixels.now c.loop-y.pixels c.args.width c.args.strip.column top z c.args.bits x y
          c.requires.column (omega arith) inside column (c.loop-y.invariant.colors x y column));
    }
