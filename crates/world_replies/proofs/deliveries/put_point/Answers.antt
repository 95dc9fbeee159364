use Rattle.std.proofs.Common.{rules, FitsSigned, w32}
use Rattle.std.proofs.lemmas.Int.{to_z-of_z}
use Rattle.text_lines.proofs.Sending.{◌⨾◌}
use Rattle.world_replies.proofs.deliveries.put_point.Goals as goal

pub returns : goal.returns
returns g c =
    let x : FitsSigned w32 c.args.point.x = search rules in
    let y : FitsSigned w32 c.args.point.y = search rules in
    simp (to_z-of_z, x, y) at (c.put.ensures ⨾ c.put_id.ensures ⨾ c.put-2.ensures ⨾ c.put_place.ensures)
