use Rattle.std.proofs.Common.{ap, arith, FitsSigned, w64}
use Rattle.std.proofs.lemmas.Int.{ints, to_z-of_z}
use Rattle.world_replies.specs.Replies.{side_text}
use Rattle.text_lines.proofs.Sending.{sends_as, ◌⨾◌}
use Rattle.world_replies.proofs.replies.put_side.Goals as goal

pub returns : goal.returns
returns g c =
    let e = simp (to_z-of_z, c.ranges.side) at c.from.ensures in
    let fits : FitsSigned w64 c.from.result = omega (arith, ints) in
    sends_as (ap side_text e) (simp (to_z-of_z, fits) at (c.put.ensures ⨾ c.number.ensures))
