use Rattle.std.proofs.Common.{rules, FitsSigned, w32}
use Rattle.std.proofs.lemmas.Int.{to_z-of_z}
use Rattle.text_lines.proofs.Sending.{◌⨾◌}
use Rattle.world_replies.proofs.replies.put_sides.Goals as goal

pub returns : goal.returns
returns g c =
    let left : FitsSigned w32 c.args.rect.left = search rules in
    let top : FitsSigned w32 c.args.rect.top = search rules in
    let right : FitsSigned w32 c.args.rect.right = search rules in
    let bottom : FitsSigned w32 c.args.rect.bottom = search rules in
    simp (to_z-of_z, left, top, right, bottom) at (c.put_side.ensures ⨾ c.put_side-2.ensures ⨾ c.put_side-3.ensures ⨾ c.put_side-4.ensures)
