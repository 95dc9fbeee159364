use Rattle.text_lines.proofs.Sending.{◌⨾◌}
use Rattle.arsc_reader.proofs.lines.put_quoted.Goals as goal

pub returns : goal.returns
returns g c = c.put.ensures ⨾ c.put_string.ensures ⨾ c.put-2.ensures
