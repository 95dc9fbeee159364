use Rattle.std.proofs.Common.{◌≡◌, FitsSigned, w32, w64, ◌-ℤ◌, arith, rules}
use Rattle.std.proofs.lemmas.Int.{ints, to_z-of_z}
use Rattle.geom_core.specs.Limits.{clamp_size}
use Rattle.scroll_view.proofs.placing.excess.Goals as goal

pub returns-clause-value : goal.returns-clause-value
returns-clause-value c =
    let height : FitsSigned w64 c.args.height = c.ranges.height in
    let room : FitsSigned w64 c.args.room = c.ranges.room in
    let padding : FitsSigned w64 c.args.padding = c.ranges.padding in
    let rest : FitsSigned w64 (c.args.room -ℤ c.args.padding) = omega (arith, ints, c.requires.room_low, c.requires.room_high, c.requires.padding_low, c.requires.padding_high) in
    let all : FitsSigned w64 (c.args.height -ℤ (c.args.room -ℤ c.args.padding)) =
    omega (arith, ints, c.requires.height_low, c.requires.height_high, c.requires.room_low, c.requires.room_high, c.requires.padding_low, c.requires.padding_high) in
    let fits : FitsSigned w32 c.to_size.result = search rules in
    let is : c.to_size.result ≡ clamp_size (c.args.height -ℤ (c.args.room -ℤ c.args.padding)) = simp to_z-of_z at c.to_size.ensures.value in
    simp to_z-of_z is
