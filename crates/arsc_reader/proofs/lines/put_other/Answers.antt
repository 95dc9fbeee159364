use Rattle.text_lines.proofs.Sending.{◌⨾◌}
use Rattle.arsc_reader.proofs.lines.put_other.Goals as goal

pub returns : goal.returns
returns g c = c.put.ensures ⨾ rw c.from.ensures at c.hex.ensures ⨾ c.put-2.ensures ⨾ c.hex-2.ensures
