use Rattle.std.proofs.Common.{◌≡◌, ◌∙◌, sym, true, refl, ℤ, pos, ◌*ℤ◌, ◌≤ℤ◌, w32, w64, FitsSigned, ◌^◌, arith}
use Rattle.std.specs.Prelude.{int_le}
use Rattle.std.proofs.lemmas.Int.{ints, to_z-of_z, fits_signed_mul}
use Rattle.script_lines.specs.reading.Pixels.{is_small}
use Rattle.script_lines.proofs.reading.pixels.is_small.Goals as goal

pub returns-clause-value : goal.returns-clause-value
unfolding is_small
returns-clause-value c =
    let w : FitsSigned w32 c.args.w = c.ranges.w in
    let h : FitsSigned w32 c.args.h = c.ranges.h in
    let width : FitsSigned w64 c.args.w = omega (arith, ints) in
    let height : FitsSigned w64 c.args.h = omega (arith, ints) in
    let area : FitsSigned w64 (c.args.w *ℤ c.args.h) = fits_signed_mul w64 c.args.w c.args.h (2 ^ 31) (2 ^ 31) (omega (arith, ints)) (omega (arith, ints)) (omega arith) in
    rw (c.from.ensures, c.from-2.ensures) (simp to_z-of_z refl)

at_most : (area most : ℤ) → int_le area most ≡ true → area ≤ℤ most
at_most area most h = grind (arith, ints)

pub returns-clause-small : goal.returns-clause-small
unfolding is_small
returns-clause-small c h = at_most (c.args.w *ℤ c.args.h) (pos 65536) (sym (returns-clause-value c) ∙ h)
