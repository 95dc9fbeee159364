use Rattle.std.proofs.Common.{◌≡◌, ◌-ℤ◌, ℤ, arith, ap, ◌∙◌, w64, of_z, to_z}
use Rattle.std.proofs.lemmas.Int.{ints}
use Rattle.linear_layout.specs.Line.{own_in, specs_in}
use Rattle.view_model.specs.LinearLayout.{own_length}
use Rattle.linear_layout.proofs.first_pass.FirstPass.spare.Goals as goal
use Rattle.linear_layout.proofs.first_pass.FirstPass.spare.Goals.{After-full_length}

difference : (c : After-full_length)
    → to_z w64 (of_z w64 (to_z w64 (of_z w64 c.from.result) -ℤ to_z w64 (of_z w64 c.full_length.result))) ≡ c.own_length.result -ℤ c.full_length.result
difference c = omega (arith, ints)

pub returns-clause-value : goal.returns-clause-value
returns-clause-value c = λ kids first.
    difference c
    ∙ ap (λ (own : ℤ). own -ℤ c.full_length.result) (c.own_length.ensures.value kids first)
    ∙ ap (λ (full : ℤ). own_length (own_in c.args.line.now) (specs_in c.args.line.now) kids -ℤ full) (c.full_length.ensures.value kids first)
