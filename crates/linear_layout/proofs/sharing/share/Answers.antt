use Rattle.std.proofs.Common.{◌≡◌, ◌∙◌, ◌≤◌, ◌^◌, ◌*◌, pos, ◌*ℤ◌, ◌<ℤ◌, sym, unsigned_abs, FitsSigned, w64, arith, int_div, rules}
use Rattle.std.specs.Int.{w128}
use Rattle.std.proofs.lemmas.Int.{ints, to_z-of_z, fits_signed_mul}
use Rattle.linear_layout.proofs.ShareLaws.{share-above, share-at_most, share_fits}
use Rattle.view_model.specs.LinearLayout.{share}
use Rattle.linear_layout.proofs.sharing.share.Goals as goal

pub overflow_mul-from : goal.overflow_mul-from
overflow_mul-from c =
    let given : FitsSigned w64 c.args.whole = c.ranges.whole in
    let spare : FitsSigned w128 c.args.spare = c.ranges.spare in
    let above : pos 0 <ℤ c.args.whole = grind (arith, ints) in
    let weight : FitsSigned w128 c.from.result = search rules in
    let small : unsigned_abs c.from.result ≤ 2 ^ 32 = rw c.from.ensures (omega arith) in
    simp to_z-of_z (fits_signed_mul w128 c.from.result c.args.spare (2 ^ 32) (2 ^ 46) small (c.requires.near above) (omega arith))

pub returns-then-whole-gt0-clause-value : goal.returns-then-whole-gt0-clause-value
returns-then-whole-gt0-clause-value c =
    let given : FitsSigned w64 c.args.whole = c.ranges.whole in
    let spare : FitsSigned w128 c.args.spare = c.ranges.spare in
    let above : pos 0 <ℤ c.args.whole = grind (arith, ints) in
    let weight : FitsSigned w128 c.from.result = search rules in
    let small : unsigned_abs c.from.result ≤ 2 ^ 32 = rw c.from.ensures (omega arith) in
    let product : FitsSigned w128 (c.from.result *ℤ c.args.spare) = fits_signed_mul w128 c.from.result c.args.spare (2 ^ 32) (2 ^ 46) small (c.requires.near above) (omega arith) in
    let fits : FitsSigned w128 c.quotient.result = search rules in
    let is : c.quotient.result ≡ int_div (c.from.result *ℤ c.args.spare) c.args.whole = simp to_z-of_z at c.quotient.ensures in
    simp to_z-of_z ((rw c.from.ensures at is) ∙ sym (share-above c.args.whole c.args.spare c.args.weight above))

pub returns-else-whole-gt0-clause-value : goal.returns-else-whole-gt0-clause-value
returns-else-whole-gt0-clause-value c =
    let given : FitsSigned w64 c.args.whole = c.ranges.whole in
    sym (share-at_most c.args.whole c.args.spare c.args.weight (grind (arith, ints)))

pub returns-then-whole-gt0-clause-near : goal.returns-then-whole-gt0-clause-near
returns-then-whole-gt0-clause-near c =
    let above : pos 0 <ℤ c.args.whole = grind (arith, ints) in
    let same = returns-then-whole-gt0-clause-value c in
    let bound : unsigned_abs (share c.args.whole c.args.spare c.args.weight) ≤ c.args.weight * 2 ^ 46 = share_fits c.args.whole c.args.spare c.args.weight (2 ^ 46) c.requires.near in
    rw same (omega arith)
