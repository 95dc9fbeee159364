use Rattle.text_lines.proofs.Sending.{delivered}
use Rattle.whole_tool.proofs.focusing.write_answer.Goals as goal

pub returns : goal.returns
returns g c =
    delivered c.finish.result c.new-reply.ensures c.put_answer.ensures c.finish.ensures.sends c.finish.ensures.empty c.finish.ensures.whole c.finish.ensures.failed
