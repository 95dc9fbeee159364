use Rattle.std.proofs.Common.{◌≡◌, ◌≤◌, ◌^◌, ◌-ℤ◌, refl, arith, rules, FitsSigned, w64, unsigned_abs}
use Rattle.std.specs.Int.{w128}
use Rattle.std.proofs.lemmas.Int.{to_z-of_z, fits_signed_from_abs}
use Rattle.linear_layout.proofs.ShareLaws.{rest_near, rest_far}
use Rattle.view_model.specs.LinearLayout.{share}
use Rattle.linear_layout.proofs.sharing.spare_after.Goals as goal

is_share : (c : goal.After-share) → c.share.result ≡ share c.args.whole c.args.spare c.args.weight
is_share c =
    let given : FitsSigned w64 c.args.whole = c.ranges.whole in
    let spare : FitsSigned w128 c.args.spare = c.ranges.spare in
    simp to_z-of_z at c.share.ensures.value

far : (c : goal.After-share) → unsigned_abs (c.args.spare -ℤ c.share.result) ≤ 2 ^ 79
far c = rw (is_share c) (rest_far c.args.whole c.args.spare c.args.weight (2 ^ 46) (2 ^ 79) c.requires.near c.requires.far (omega arith))

pub overflow_sub-result : goal.overflow_sub-result
overflow_sub-result c =
    let spare : FitsSigned w128 c.args.spare = c.ranges.spare in
    let part : FitsSigned w128 c.share.result = search rules in
    simp to_z-of_z (fits_signed_from_abs w128 _ (omega (arith, far c)))

pub returns-clause-value : goal.returns-clause-value
returns-clause-value c =
    let spare : FitsSigned w128 c.args.spare = c.ranges.spare in
    let part : FitsSigned w128 c.share.result = search rules in
    let rest : FitsSigned w128 (c.args.spare -ℤ c.share.result) = fits_signed_from_abs w128 _ (omega (arith, far c)) in
    simp to_z-of_z (rw (is_share c) refl)

pub returns-clause-near : goal.returns-clause-near
returns-clause-near c = λ h.
    let spare : FitsSigned w128 c.args.spare = c.ranges.spare in
    let part : FitsSigned w128 c.share.result = search rules in
    let rest : FitsSigned w128 (c.args.spare -ℤ c.share.result) = fits_signed_from_abs w128 _ (omega (arith, far c)) in
    simp to_z-of_z (rw (is_share c) (rest_near c.args.whole c.args.spare c.args.weight (2 ^ 46) c.requires.near h))

pub returns-clause-far : goal.returns-clause-far
returns-clause-far c =
    let spare : FitsSigned w128 c.args.spare = c.ranges.spare in
    let part : FitsSigned w128 c.share.result = search rules in
    let rest : FitsSigned w128 (c.args.spare -ℤ c.share.result) = fits_signed_from_abs w128 _ (omega (arith, far c)) in
    simp to_z-of_z (far c)
