use Rattle.std.proofs.Common.{ℤ, ◌+ℤ◌, ◌≤ℤ◌, ◌^◌, FitsSigned, w32, w64, arith}
use Rattle.std.specs.Prelude.{pos, negsuc}
use Rattle.std.proofs.lemmas.Int.{ints, to_z-of_z}
use Rattle.linear_layout.proofs.first_pass.spec_after.Goals as goal

module _ (a b : ℤ) (a_low : negsuc 4294967295 ≤ℤ a) (a_high : a ≤ℤ pos 4294967294) (b_low : negsuc 4294967295 ≤ℤ b) (b_high : b ≤ℤ pos 4294967294) where
  two_fit : FitsSigned w64 (a +ℤ b)
  two_fit = grind (arith, ints)

  three_fit : (d : ℤ) → pos 0 ≤ℤ d → d ≤ℤ pos (2 ^ 45) → FitsSigned w64 (a +ℤ b +ℤ d)
  three_fit d low high = grind (arith, ints)

pub returns : goal.returns
returns c =
    let r = c.requires in
    let dim : FitsSigned w32 c.args.dim = c.ranges.dim in
    let padding : FitsSigned w64 c.args.padding = c.ranges.padding in
    let margins : FitsSigned w64 c.args.margins = c.ranges.margins in
    let used : FitsSigned w64 c.args.used = c.ranges.used in
    let two : FitsSigned w64 (c.args.padding +ℤ c.args.margins) = two_fit _ _ r.padding_low r.padding_high r.margins_low r.margins_high in
    let three : FitsSigned w64 (c.args.padding +ℤ c.args.margins +ℤ c.args.used) =
    three_fit _ _ r.padding_low r.padding_high r.margins_low r.margins_high _ r.used_low r.used_high in
    simp to_z-of_z at c.child_spec.ensures.value
