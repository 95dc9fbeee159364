use Rattle.std.proofs.Common.{take}
use Rattle.text_lines.specs.BufferedText.{Sends}
use Rattle.text_lines.specs.Joined.{texts_of}
use Rattle.axml_reader.specs.Dump.{escaped}
use Rattle.axml_reader.proofs.dump.put_escaped_bytes.Given as goal

abbrev pub invariant-loop-byte : goal.invariant-loop-byte
invariant-loop-byte g l =
    Sends (g.K.Sink.state l.fn.sink) (g.K.Sink.state l.sink) l.fn.text l.text (texts_of escaped (take l.byte-index l.string))
