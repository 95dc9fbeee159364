use Rattle.std.proofs.Common.{take}
use Rattle.text_lines.specs.BufferedText.{Sends}
use Rattle.text_lines.specs.Joined.{texts_of}
use Rattle.std.specs.List.{enumerate_from}
use Rattle.axml_reader.specs.Dump.{string_line}
use Rattle.axml_reader.proofs.dump.put_each_string.Given as goal

abbrev pub invariant-loop-k : goal.invariant-loop-k
invariant-loop-k g l =
    Sends (g.K.Sink.state l.fn.sink) (g.K.Sink.state l.sink) l.fn.text l.text (texts_of string_line (take l.k (enumerate_from 0 l.pool.texts)))
