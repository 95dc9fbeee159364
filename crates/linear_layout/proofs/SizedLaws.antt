-- A child with a number of pixels on both axes and no weight is asked for these.
use Rattle.std.proofs.Common.{arith, ◌≡◌, ℕ, ℤ, pos, Bool, true, false, Some, None, List, refl, ap, ◌∙◌}
use Rattle.std.proofs.Math.Bool.{and-false}
use Rattle.std.proofs.lemmas.Bool.{not-true}
use Rattle.std.specs.Prelude.{◌&&◌, ◌==◌, if◌then◌else◌, int_lt, not}
use Rattle.std.proofs.lemmas.Bool.Decides.{nat_tests}
use Rattle.std.specs.Ordering.{int_eq}
use Rattle.view_model.specs.FrameLayout.{is_exactly}
use Rattle.geom_core.specs.Numbers.{wrap_content}
use Rattle.geom_core.specs.Spec.{child_spec_of}
use Rattle.geom_core.specs.declared.measuring.Spec.{Spec}
use Rattle.linear_layout.specs.Line.{exact_specs, is_sized}
use Rattle.view_model.specs.declared.facts.Facts.{Facts}
use Rattle.view_model.specs.LinearLayout.{dim_on, exactly, first_along, first_dim, first_pass, is_skipped, spec_beside, spec_on, specs_by}
use Rattle.view_model.specs.Measuring.{Measured, Specs}

pub both_first : (a b : Bool) → (a && b) ≡ true → a ≡ true
both_first true b e = refl
both_first false b e = absurd (let e : false ≡ true = e in cc)

pub both_second : (a b : Bool) → (a && b) ≡ true → b ≡ true
both_second true b e = e
both_second false b e = absurd (let e : false ≡ true = e in cc)

light_dim : (dim : ℤ) (weight : ℕ) → weight ≡ 0 → first_dim dim weight ≡ dim
unfolding first_dim
light_dim dim weight light = rw light (ap (λ (b : Bool). if b then wrap_content else dim) (and-false _))

pub light_skipped : (along : Spec) (dim : ℤ) (weight : ℕ) → weight ≡ 0 → is_skipped along dim weight ≡ false
unfolding is_skipped
light_skipped along dim weight light = rw light (by_both (is_exactly along.mode) (int_eq dim (pos 0)))
  where
    by_both : (a b : Bool) → (a && (b && false)) ≡ false
    by_both true b = and-false b
    by_both false b = refl

exact_dim : (spec : Spec) (used dim : ℤ) → int_lt dim (pos 0) ≡ false → child_spec_of spec used dim ≡ exactly dim
unfolding child_spec_of
exact_dim spec used dim long = rw long refl

light_exact : (spec : Spec) (used dim : ℤ) (weight : ℕ) → weight ≡ 0 → int_lt dim (pos 0) ≡ false → child_spec_of spec used (first_dim dim weight) ≡ exactly dim
light_exact spec used dim weight light long = ap (λ dim. child_spec_of spec used dim) (light_dim dim weight light) ∙ exact_dim spec used dim long

long_on : (v : Bool) (kid : Facts) → int_lt kid.width (pos 0) ≡ false → int_lt kid.height (pos 0) ≡ false → int_lt (dim_on v kid) (pos 0) ≡ false
unfolding dim_on
long_on true kid wide high = high
long_on false kid wide high = wide

by_axis : (v : Bool) (kid : Facts) (a b : Spec) → a ≡ exactly (dim_on v kid) → b ≡ exactly (dim_on (not v) kid) → specs_by v a b ≡ exact_specs kid
unfolding dim_on
by_axis true kid a b along beside = ap (λ (b : Spec). record { across = b; down = a }) beside ∙ ap (λ (a : Spec). record { across = exactly kid.width; down = a }) along
by_axis false kid a b along beside = ap (λ (b : Spec). record { across = a; down = b }) beside ∙ ap (λ (a : Spec). record { across = a; down = exactly kid.height }) along

pub sized_first : (own : Facts) (specs : Specs) (kids : List Measured) (kid : Measured) → is_sized kid.facts ≡ true → first_pass own specs kids kid ≡ Some (exact_specs kid.facts)
sized_first own specs kids kid sized =
    let facts = kid.facts in
    let v = own.vertical in
    let wide : int_lt facts.width (pos 0) ≡ false = not-true _ (both_first _ _ sized) in
    let high : int_lt facts.height (pos 0) ≡ false = not-true _ (both_first _ _ (both_second _ _ sized)) in
    let none : (facts.weight == 0) ≡ true = both_second _ _ (both_second _ _ sized) in
    let light : facts.weight ≡ 0 = grind (arith, nat_tests) in
    let along : first_along own specs kids facts ≡ exactly (dim_on v facts) = light_exact _ _ _ _ light (long_on v facts wide high) in
    let beside : spec_beside own specs facts ≡ exactly (dim_on (not v) facts) = exact_dim _ _ _ (long_on (not v) facts wide high) in
    ap (λ (skipped : Bool). if skipped then None else Some (specs_by v (first_along own specs kids facts) (spec_beside own specs facts))) (light_skipped (spec_on v specs) (dim_on v facts) facts.weight light)
    ∙ ap Some (by_axis v facts _ _ along beside)
