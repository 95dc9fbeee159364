use Rattle.text_lines.proofs.Sending.{◌⨾◌}
use Rattle.axml_reader.proofs.dump.put_node_lines.Goals as goal

pub returns-in-NsStart : goal.returns-in-NsStart
returns-in-NsStart g c = rw c.in-NsStart.is c.put_namespace_line.ensures

pub returns-in-NsEnd : goal.returns-in-NsEnd
returns-in-NsEnd g c = rw c.in-NsEnd.is c.put_namespace_line-in-NsEnd.ensures

pub returns-in-Start : goal.returns-in-Start
returns-in-Start g c = rw c.in-Start.is (c.put_start_line.ensures ⨾ c.put_attr_lines.ensures)

pub returns-in-End : goal.returns-in-End
returns-in-End g c = rw c.in-End.is c.put_end_line.ensures

pub returns-in-Chars : goal.returns-in-Chars
returns-in-Chars g c = rw c.in-Chars.is c.put_chars_line.ensures
