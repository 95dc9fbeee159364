use Rattle.std.proofs.Common.{pos, ◌-ℤ◌, w32, w64, FitsSigned, refl, arith}
use Rattle.std.proofs.lemmas.Int.{ints, quot_fits, to_z-of_z}
use Rattle.relative_layout.proofs.plan.spans.centered_in.Goals as goal

pub returns : goal.returns
returns c =
    let room : FitsSigned w32 c.args.room = c.ranges.room in
    let length : FitsSigned w32 c.args.length = c.ranges.length in
    let wide_room : FitsSigned w64 c.args.room = omega (arith, ints) in
    let wide_length : FitsSigned w64 c.args.length = omega (arith, ints) in
    let rest : FitsSigned w64 (c.args.room -ℤ c.args.length) = omega (arith, ints) in
    let half = quot_fits w64 (c.args.room -ℤ c.args.length) (pos 2) rest (omega (arith, ints)) in
    rw (c.from.ensures, c.from-2.ensures) (simp to_z-of_z refl)
