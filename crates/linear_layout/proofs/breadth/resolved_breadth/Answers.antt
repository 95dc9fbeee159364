use Rattle.std.proofs.Common.{◌≡◌, ◌∙◌, ◌+ℤ◌, FitsSigned, w32, w64, rules, arith, ap}
use Rattle.std.specs.Int.{int_max}
use Rattle.std.proofs.lemmas.Int.{ints, to_z-of_z}
use Rattle.geom_core.specs.Spec.{resolve_of}
use Rattle.view_model.specs.LinearLayout.{resolved_breadth}
use Rattle.linear_layout.proofs.breadth.resolved_breadth.Goals as goal

pub returns-clause-value : goal.returns-clause-value
unfolding resolved_breadth
returns-clause-value c =
    let fits : FitsSigned w32 c.resolve.result = search rules in
    let least : FitsSigned w32 c.args.least = c.ranges.least in
    let padding : FitsSigned w64 c.args.padding = c.ranges.padding in
    let needed : FitsSigned w64 c.args.needed = c.ranges.needed in
    let wide : FitsSigned w64 (c.args.padding +ℤ c.args.needed) = grind (arith, ints) in
    let from : FitsSigned w64 c.from.result = search rules in
    let most : FitsSigned w64 c.max.result = search rules in
    let max : c.max.result ≡ int_max c.from.result (c.args.padding +ℤ c.args.needed) = simp to_z-of_z at c.max.ensures.value in
    let first : c.from.result ≡ c.args.least = simp to_z-of_z at c.from.ensures in
    let resolved : c.resolve.result ≡ resolve_of c.max.result c.args.spec = simp to_z-of_z at c.resolve.ensures.value in
    simp to_z-of_z (resolved ∙ ap (λ want. resolve_of want c.args.spec) (max ∙ ap (λ least. int_max least (c.args.padding +ℤ c.args.needed)) first))
