use Rattle.text_lines.proofs.Sending.{◌⨾◌}
use Rattle.arsc_reader.proofs.table.Table.put_text.Goals as goal

pub returns : goal.returns
returns g c = c.put.ensures ⨾ c.put_string_at.ensures
