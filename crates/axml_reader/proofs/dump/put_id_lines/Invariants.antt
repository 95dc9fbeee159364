use Rattle.std.proofs.Common.{take}
use Rattle.text_lines.specs.BufferedText.{Sends}
use Rattle.text_lines.specs.Joined.{texts_of}
use Rattle.axml_reader.specs.Dump.{id_line}
use Rattle.axml_reader.proofs.dump.put_id_lines.Given as goal

abbrev pub invariant-loop-id : goal.invariant-loop-id
invariant-loop-id g l =
    Sends (g.K.Sink.state l.fn.sink) (g.K.Sink.state l.sink) l.fn.text l.text (texts_of id_line (take l.id-index l.ids))
