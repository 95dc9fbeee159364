use Rattle.text_lines.proofs.Sending.{◌⨾◌}
use Rattle.tool_replies.proofs.refusals.put_counted.Goals as goal

pub returns : goal.returns
returns g c = c.put.ensures ⨾ c.natural.ensures
