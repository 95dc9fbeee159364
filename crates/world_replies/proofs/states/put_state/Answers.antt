use Rattle.text_lines.proofs.Sending.{◌⨾◌}
use Rattle.world_replies.proofs.states.put_state.Goals as goal

pub returns : goal.returns
returns g c = c.put.ensures ⨾ c.put_bytes.ensures ⨾ c.put-2.ensures
