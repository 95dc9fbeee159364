use Rattle.text_lines.proofs.Sending.{◌⨾◌}
use Rattle.axml_reader.proofs.dump.put_string_line.Goals as goal

pub returns : goal.returns
returns g c = c.put_string_mark.ensures ⨾ c.put.ensures ⨾ c.put_string.ensures ⨾ c.put-2.ensures
