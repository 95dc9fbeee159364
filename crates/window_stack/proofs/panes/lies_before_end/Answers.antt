use Rattle.std.proofs.Common.{refl, ◌+ℤ◌, w32, w64, FitsSigned, arith}
use Rattle.std.proofs.lemmas.Int.{ints, to_z-of_z}
use Rattle.window_stack.proofs.panes.lies_before_end.Goals as goal

pub returns : goal.returns
returns c =
    let low : FitsSigned w32 c.args.low = c.ranges.low in
    let length : FitsSigned w32 c.args.length = c.ranges.length in
    let at : FitsSigned w32 c.args.at = c.ranges.at in
    let wide : FitsSigned w64 c.args.low = omega (arith, ints) in
    let long : FitsSigned w64 c.args.length = omega (arith, ints) in
    let there : FitsSigned w64 c.args.at = omega (arith, ints) in
    let sum : FitsSigned w64 (c.args.low +ℤ c.args.length) = omega (arith, ints) in
    rw (c.from.ensures, c.from-2.ensures, c.from-3.ensures) (simp to_z-of_z refl)
