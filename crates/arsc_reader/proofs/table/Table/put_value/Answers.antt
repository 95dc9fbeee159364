use Rattle.text_lines.proofs.Sending.{◌⨾◌}
use Rattle.arsc_reader.specs.Lines.{value_line}
use Rattle.arsc_reader.proofs.table.Table.put_value.Goals as goal

pub returns : goal.returns
unfolding value_line
returns g c = c.hex.ensures ⨾ c.put.ensures ⨾ c.put_held_by.ensures ⨾ c.put-2.ensures
