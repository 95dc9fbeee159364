use Rattle.std.proofs.Common.{take}
use Rattle.text_lines.specs.BufferedText.{Sends}
use Rattle.text_lines.specs.Joined.{texts_of}
use Rattle.tool_replies.specs.Lookup.{word_line}
use Rattle.tool_replies.proofs.lookup.put_values.Given as goal

abbrev pub invariant-loop-word : goal.invariant-loop-word
invariant-loop-word g l =
    Sends (g.K.Sink.state l.fn.sink) (g.K.Sink.state l.sink) l.fn.reply l.reply (texts_of (word_line l.table) (take l.word-index l.ids))
