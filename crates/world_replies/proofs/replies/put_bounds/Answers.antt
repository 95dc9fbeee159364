use Rattle.text_lines.proofs.Sending.{◌⨾◌}
use Rattle.world_replies.proofs.replies.put_bounds.Goals as goal

pub returns : goal.returns
returns g c = c.put_name.ensures ⨾ c.put_place.ensures ⨾ c.put.ensures
