use Rattle.std.proofs.Common.{◌≡◌, ◌∙◌, ℤ, ap, FitsSigned, w32, w64, ◌-ℤ◌, rules}
use Rattle.std.proofs.lemmas.Int.{to_z-of_z}
use Rattle.geom_core.specs.Limits.{clamp_size}
use Rattle.scroll_view.proofs.placing.range_in.Goals as goal

pub returns-clause-value : goal.returns-clause-value
returns-clause-value c =
    let high : FitsSigned w64 c.height.result = search rules in
    let room : FitsSigned w64 c.height-2.result = search rules in
    let padding : FitsSigned w64 c.padding_down.result = search rules in
    let fits : FitsSigned w32 c.excess.result = search rules in
    let is : c.excess.result ≡ clamp_size (c.height.result -ℤ (c.height-2.result -ℤ c.padding_down.result)) = simp to_z-of_z at c.excess.ensures.value in
    let beyond : c.excess.result ≡ clamp_size (c.in-Some.child.bottom -ℤ c.in-Some.child.top -ℤ (c.args.bounds.bottom -ℤ c.args.bounds.top -ℤ c.padding_down.result)) =
    is
    ∙ ap (λ (high : ℤ). clamp_size (high -ℤ (c.height-2.result -ℤ c.padding_down.result))) c.height.ensures.value
    ∙ ap (λ (room : ℤ). clamp_size (c.in-Some.child.bottom -ℤ c.in-Some.child.top -ℤ (room -ℤ c.padding_down.result))) c.height-2.ensures.value in
    rw (c.in-Some.is, ← c.padding_down.ensures.value) (simp to_z-of_z beyond)
