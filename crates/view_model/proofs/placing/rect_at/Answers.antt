use Rattle.std.proofs.Common.{◌+ℤ◌, arith, rules, w32, FitsSigned}
use Rattle.std.proofs.lemmas.Int.{ints, to_z-of_z}
use Rattle.view_model.proofs.placing.rect_at.Goals as goal

pub returns : goal.returns
returns c =
    let w : FitsSigned w32 c.args.size.w = search rules in
    let h : FitsSigned w32 c.args.size.h = search rules in
    let right : FitsSigned w32 (c.args.left +ℤ c.args.size.w) = omega (arith, ints) in
    let bottom : FitsSigned w32 (c.args.top +ℤ c.args.size.h) = omega (arith, ints) in
    simp (to_z-of_z, c.ranges.left, c.ranges.top, w, h, right, bottom)
