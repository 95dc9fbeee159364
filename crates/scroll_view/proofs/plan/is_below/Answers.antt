use Rattle.std.proofs.Common.{FitsSigned, w32, w64, ◌-ℤ◌, ◌+ℤ◌, arith}
use Rattle.std.proofs.lemmas.Int.{ints, to_z-of_z}
use Rattle.scroll_view.proofs.plan.is_below.Goals as goal

pub returns : goal.returns
returns c =
    let length : FitsSigned w32 c.args.length = c.ranges.length in
    let room : FitsSigned w32 c.args.room = c.ranges.room in
    let length64 : FitsSigned w64 c.args.length = omega (arith, ints) in
    let room64 : FitsSigned w64 c.args.room = omega (arith, ints) in
    let padding64 : FitsSigned w64 c.args.padding = c.ranges.padding in
    let margins64 : FitsSigned w64 c.args.margins = c.ranges.margins in
    let padding_low = c.requires.padding_low in
    let padding_high = c.requires.padding_high in
    let margins_low = c.requires.margins_low in
    let margins_high = c.requires.margins_high in
    let used : FitsSigned w64 (c.args.padding +ℤ c.args.margins) = omega (arith, ints) in
    let rest : FitsSigned w64 (c.args.room -ℤ (c.args.padding +ℤ c.args.margins)) = omega (arith, ints) in
    rw (c.from.ensures, c.from-2.ensures) (simp to_z-of_z)
