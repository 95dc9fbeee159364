use Rattle.std.proofs.Common.{take}
use Rattle.text_lines.specs.BufferedText.{Sends}
use Rattle.text_lines.specs.Joined.{texts_of}
use Rattle.world_replies.proofs.HexLaws.{byte_text}
use Rattle.world_replies.proofs.states.put_bytes.Given as goal

abbrev pub invariant-loop-byte : goal.invariant-loop-byte
invariant-loop-byte g l =
    Sends (g.K.Sink.state l.fn.sink) (g.K.Sink.state l.sink) l.fn.text l.text (texts_of byte_text (take l.byte-index l.bytes))
