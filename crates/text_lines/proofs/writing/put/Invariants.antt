use Rattle.std.proofs.Common.{◌≡◌, ◌-◌, ◌≤◌, length, take}
use Rattle.std.specs.Io.KnownBytes.{Appends}
use Rattle.text_lines.proofs.writing.put.Given as goal

abbrev pub invariant-loop-done : goal.invariant-loop-done
invariant-loop-done g l = record {
  gone : Appends (g.K.Sink.state l.fn.sink).gone (g.K.Sink.state l.sink).gone (take l.done l.piece);
  within : l.done ≤ length l.piece;
  count : (g.K.Sink.state l.sink).faults ≡ (g.K.Sink.state l.fn.sink).faults;
}

abbrev pub decreases-loop-done : goal.decreases-loop-done
decreases-loop-done g l = length l.piece - l.done
