use Rattle.text_lines.proofs.Sending.{◌⨾◌}
use Rattle.axml_reader.proofs.dump.put_value_fields.Goals as goal

pub returns : goal.returns
returns g c = c.put_hex_field.ensures ⨾ c.put_hex_field-2.ensures ⨾ c.put.ensures
