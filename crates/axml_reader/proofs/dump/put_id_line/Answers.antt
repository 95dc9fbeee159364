use Rattle.text_lines.proofs.Sending.{◌⨾◌}
use Rattle.axml_reader.proofs.dump.put_id_line.Goals as goal

pub returns : goal.returns
returns g c = c.put.ensures ⨾ c.put_hex_field.ensures ⨾ c.put-2.ensures
