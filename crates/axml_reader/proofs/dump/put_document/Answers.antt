use Rattle.text_lines.proofs.Sending.{◌⨾◌}
use Rattle.axml_reader.proofs.dump.put_document.Goals as goal

pub returns : goal.returns
returns g c = rw (← c.deref.ensures.value, ← c.deref-2.ensures.value, ← c.deref-3.ensures.value) (c.put_string_lines.ensures ⨾ c.put_id_lines.ensures ⨾ c.put_each_node.ensures)
