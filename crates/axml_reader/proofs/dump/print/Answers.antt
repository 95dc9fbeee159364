use Rattle.text_lines.proofs.Sending.{delivered}
use Rattle.axml_reader.proofs.dump.print.Goals as goal

pub returns : goal.returns
returns g c = delivered c.finish.result c.new-text.ensures c.put_document.ensures c.finish.ensures.sends c.finish.ensures.empty c.finish.ensures.whole c.finish.ensures.failed
