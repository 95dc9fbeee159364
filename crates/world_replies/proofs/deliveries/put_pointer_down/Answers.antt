use Rattle.text_lines.proofs.Sending.{◌⨾◌}
use Rattle.world_replies.proofs.deliveries.put_pointer_down.Goals as goal

pub returns : goal.returns
returns g c = c.put.ensures ⨾ c.put_pointer.ensures
