use Rattle.text_lines.proofs.Sending.{delivered}
use Rattle.tool_replies.proofs.file_replies.write_refused_file.Goals as goal

pub returns : goal.returns
returns g c =
    delivered c.finish.result c.new-reply.ensures c.put_file.ensures c.finish.ensures.sends c.finish.ensures.empty c.finish.ensures.whole c.finish.ensures.failed
