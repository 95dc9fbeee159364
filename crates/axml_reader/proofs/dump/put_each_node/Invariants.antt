use Rattle.std.proofs.Common.{take}
use Rattle.text_lines.specs.BufferedText.{Sends}
use Rattle.text_lines.specs.Joined.{texts_of}
use Rattle.axml_reader.specs.Dump.{node_lines}
use Rattle.axml_reader.proofs.dump.put_each_node.Given as goal

abbrev pub invariant-loop-node : goal.invariant-loop-node
invariant-loop-node g l =
    Sends (g.K.Sink.state l.fn.sink) (g.K.Sink.state l.sink) l.fn.text l.text (texts_of (node_lines l.attrs) (take l.node-index l.nodes))
