use Rattle.text_lines.proofs.Sending.{◌⨾◌}
use Rattle.arsc_reader.proofs.lines.put_word.Goals as goal

pub returns : goal.returns
returns g c = c.put.ensures ⨾ c.hex.ensures
