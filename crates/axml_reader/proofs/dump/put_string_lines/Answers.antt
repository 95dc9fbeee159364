use Rattle.std.proofs.Common.{sym}
use Rattle.text_lines.proofs.Sending.{◌⨾◌}
use Rattle.axml_reader.proofs.dump.put_string_lines.Goals as goal

pub returns : goal.returns
returns g c = rw (sym c.utf8-2.ensures, sym c.len.ensures.value) (c.put_pool_line.ensures ⨾ c.put_each_string.ensures)
