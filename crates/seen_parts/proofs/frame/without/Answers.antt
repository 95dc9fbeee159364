use Rattle.std.proofs.Common.{rules, arith, FitsSigned, w32}
use Rattle.std.proofs.lemmas.Int.{ints}
use Rattle.seen_parts.proofs.frame.without.Goals as goal

pub returns : goal.returns
returns c =
    let l : FitsSigned w32 c.args.padding.left = search rules in
    let t : FitsSigned w32 c.args.padding.top = search rules in
    let r : FitsSigned w32 c.args.padding.right = search rules in
    let b : FitsSigned w32 c.args.padding.bottom = search rules in
    record { left = omega (arith, ints); top = omega (arith, ints); right = omega (arith, ints); bottom = omega (arith, ints) }
