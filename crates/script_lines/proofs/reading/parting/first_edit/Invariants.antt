use Rattle.std.proofs.Common.{◌≤◌, ◌-◌, length}
use Rattle.script_lines.proofs.readings.PartLaws.{IsOneEdit}
use Rattle.script_lines.proofs.reading.parting.first_edit.Given as goal

abbrev pub invariant-loop-word : goal.invariant-loop-word
invariant-loop-word l = record {
  within : l.at ≤ length l.bytes;
  edit : IsOneEdit l.bytes l.at;
}

abbrev pub decreases-loop-word : goal.decreases-loop-word
decreases-loop-word l = length l.bytes - l.at
