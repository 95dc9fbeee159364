use Rattle.text_lines.proofs.Sending.{◌⨾◌}
use Rattle.tool_replies.specs.Dump.{refused_file_text}
use Rattle.tool_replies.proofs.file_replies.put_file.Goals as goal

pub returns : goal.returns
unfolding refused_file_text
returns g c = c.put.ensures ⨾ c.put_refused.ensures ⨾ c.put-2.ensures
