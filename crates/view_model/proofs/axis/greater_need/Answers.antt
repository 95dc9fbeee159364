use Rattle.std.proofs.Common.{◌≡◌, ◌+ℤ◌, w32, w64, FitsSigned, arith, rules}
use Rattle.std.specs.Int.{int_max}
use Rattle.std.proofs.lemmas.Int.{ints, to_z-of_z}
use Rattle.view_model.proofs.axis.greater_need.Goals as goal

pub returns : goal.returns
returns c =
    let most : FitsSigned w64 c.args.most = c.ranges.most in
    let margins : FitsSigned w64 c.args.margins = c.ranges.margins in
    let size : FitsSigned w32 c.args.size = c.ranges.size in
    let size64 : FitsSigned w64 c.args.size = omega (arith, ints) in
    let sum : FitsSigned w64 (c.args.size +ℤ c.args.margins) = omega (arith, ints) in
    let greater : FitsSigned w64 c.max.result = search rules in
    let is : c.max.result ≡ int_max c.args.most (c.args.size +ℤ c.args.margins) = simp to_z-of_z at (rw c.from.ensures at c.max.ensures.value) in
    simp to_z-of_z is
