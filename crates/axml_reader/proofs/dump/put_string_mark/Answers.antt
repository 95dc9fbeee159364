use Rattle.text_lines.proofs.Sending.{◌⨾◌}
use Rattle.axml_reader.proofs.dump.put_string_mark.Goals as goal

pub returns : goal.returns
returns g c = c.put.ensures ⨾ c.put_number.ensures
