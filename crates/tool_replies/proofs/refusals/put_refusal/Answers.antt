use Rattle.text_lines.proofs.Sending.{◌⨾◌}
use Rattle.tool_replies.specs.Refusals.{refused_line}
use Rattle.tool_replies.proofs.refusals.put_refusal.Goals as goal

pub returns : goal.returns
unfolding refused_line
returns g c = c.put.ensures ⨾ c.natural.ensures ⨾ c.put-2.ensures ⨾ c.put_refused.ensures ⨾ c.put_detail.ensures ⨾ c.put-3.ensures
