use Rattle.std.proofs.Common.{◌≡◌, rules, ◌∙◌, ap, arith}
use Rattle.std.proofs.lemmas.Int.{ints, clamps, to_z-of_z}
use Rattle.std.specs.Prelude.{ℤ, pos, ◌+ℤ◌}
use Rattle.std.specs.Int.{int_max}
use mir.Syntax.{w64}
use mir.Val.{SFits, of_z, to_z}
use Rattle.view_model.specs.LinearLayout.{extent}
use Rattle.linear_layout.proofs.line.extent.Goals as goal

pub returns-clause-value : goal.returns-clause-value
unfolding extent
returns-clause-value c =
    let fits : SFits w64 c.max.result = search rules in
    let sum : to_z w64 (of_z w64 (to_z w64 (of_z w64 c.from.result) +ℤ to_z w64 (of_z w64 c.args.margins))) ≡ c.args.size +ℤ c.args.margins = omega (arith, ints) in
    to_z-of_z w64 c.max.result fits ∙ c.max.ensures.value ∙ ap (λ (z : ℤ). int_max z (pos 0)) sum

pub returns-clause-low : goal.returns-clause-low
returns-clause-low c = omega (arith, ints, clamps)

pub returns-clause-high : goal.returns-clause-high
returns-clause-high c = omega (arith, ints, clamps)
