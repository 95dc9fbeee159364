use Rattle.std.proofs.lemmas.Int.{to_z-of_z}
use Rattle.text_lines.proofs.Sending.{◌⨾◌}
use Rattle.world_replies.proofs.deliveries.put_place.Goals as goal

pub returns : goal.returns
returns g c = simp (to_z-of_z, c.ranges.x, c.ranges.y) at (c.put_number.ensures ⨾ c.put.ensures ⨾ c.put_number-2.ensures)
