use Rattle.std.proofs.Common.{◌≡◌, ◌∙◌, ap, arith, rules, w32, w64, FitsSigned, to_z, of_z, ◌+ℤ◌, ◌-ℤ◌}
use Rattle.std.proofs.lemmas.Int.{ints}
use Rattle.std.specs.Prelude.{unsigned_abs}
use Rattle.focus_finder.proofs.keys.minor.Goals as goal

pub returns-clause-value : goal.returns-clause-value
returns-clause-value c =
    let from_top : FitsSigned w32 c.args.from.top = search rules in
    let from_bottom : FitsSigned w32 c.args.from.bottom = search rules in
    let to_top : FitsSigned w32 c.args.to.top = search rules in
    let to_bottom : FitsSigned w32 c.args.to.bottom = search rules in
    let apart : to_z w64 (of_z w64 (to_z w64 (of_z w64 c.middle.result) -ℤ to_z w64 (of_z w64 c.middle-2.result)))
    ≡ (c.args.from.top +ℤ c.args.from.bottom) -ℤ (c.args.to.top +ℤ c.args.to.bottom) = omega (arith, ints, c.middle.ensures, c.middle-2.ensures) in
    c.unsigned_abs.ensures.value ∙ ap unsigned_abs apart

pub returns-clause-fits : goal.returns-clause-fits
returns-clause-fits c = omega (arith, ints, c.unsigned_abs.ensures.value, c.middle.ensures, c.middle-2.ensures)
