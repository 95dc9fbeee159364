use Rattle.std.proofs.Common.{Some, ap, arith, FitsSigned, w64}
use Rattle.std.proofs.lemmas.Int.{ints, to_z-of_z}
use Rattle.std.specs.Prelude.{ℤ}
use Rattle.world_replies.specs.Replies.{scroll_text}
use Rattle.text_lines.proofs.Sending.{sends_as, ◌⨾◌}
use Rattle.world_replies.proofs.replies.put_offset.Goals as goal

pub returns : goal.returns
returns g c =
    let e = simp (to_z-of_z, c.ranges.offset) at c.from.ensures in
    let fits : FitsSigned w64 c.from.result = omega (arith, ints) in
    sends_as (ap (λ (offset : ℤ). scroll_text (Some offset)) e) (simp (to_z-of_z, fits) at (c.put.ensures ⨾ c.number.ensures))
