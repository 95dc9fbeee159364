use Rattle.text_lines.proofs.Sending.{delivered}
use Rattle.tool_replies.proofs.refusals.write_refusal.Goals as goal

pub returns : goal.returns
returns g c =
    delivered c.finish.result c.restart.ensures c.put_refusal.ensures c.finish.ensures.sends c.finish.ensures.empty c.finish.ensures.whole c.finish.ensures.failed
