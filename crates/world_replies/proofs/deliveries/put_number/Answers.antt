use Rattle.std.proofs.Common.{ap, arith, FitsSigned, w64}
use Rattle.std.proofs.lemmas.Int.{ints, to_z-of_z}
use Rattle.std.specs.Fmt.{signed_decimal}
use Rattle.text_lines.proofs.Sending.{sends_as}
use Rattle.world_replies.proofs.deliveries.put_number.Goals as goal

pub returns : goal.returns
returns g c =
    let e = simp (to_z-of_z, c.ranges.number) at c.from.ensures in
    let fits : FitsSigned w64 c.from.result = omega (arith, ints) in
    sends_as (ap signed_decimal e) (simp (to_z-of_z, fits) at c.number.ensures)
