use Rattle.text_lines.proofs.Sending.{◌⨾◌}
use Rattle.axml_reader.proofs.dump.put_name_field.Goals as goal

pub returns : goal.returns
returns g c = c.put.ensures ⨾ c.put_string_name.ensures
