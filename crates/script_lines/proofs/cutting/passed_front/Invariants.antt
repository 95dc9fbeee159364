use Rattle.std.proofs.Common.{◌≤◌, ◌-◌, length, take}
use Rattle.script_lines.specs.cutting.Lines.{ArePassedOver}
use Rattle.script_lines.proofs.cutting.passed_front.Given as goal

abbrev pub invariant-loop-bytes : goal.invariant-loop-bytes
invariant-loop-bytes l = record {
  within : l.bytes ≤ length l.piece;
  few : l.lines ≤ l.bytes;
  passed : ArePassedOver (take l.bytes l.piece) l.lines;
}

abbrev pub decreases-loop-bytes : goal.decreases-loop-bytes
decreases-loop-bytes l = length l.piece - l.bytes
