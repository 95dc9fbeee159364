use Rattle.std.proofs.Common.{◌≡◌, ◌≤◌, ◌<◌, ◌-◌, length, drop}
use Rattle.script_lines.specs.reading.Actions.{with_actions}
use Rattle.line_words.specs.words.Words.{words}
use Rattle.script_lines.proofs.reading.actions.named_actions.Given as goal

abbrev pub invariant-loop-at : goal.invariant-loop-at
invariant-loop-at l = record {
  within : l.at ≤ length l.bytes;
  below : l.actions < 64;
  left : with_actions l.actions (words (drop l.at l.bytes)) ≡ with_actions 0 (words l.bytes);
}

abbrev pub decreases-loop-at : goal.decreases-loop-at
decreases-loop-at l = length l.bytes - l.at
