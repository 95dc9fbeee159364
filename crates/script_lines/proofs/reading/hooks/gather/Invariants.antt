use Rattle.std.proofs.Common.{◌≡◌, ◌≤◌, ◌+◌, ◌-◌, length, drop}
use Rattle.std.specs.List.{All, slice_split}
use Rattle.script_lines.specs.reading.Changes.{IsChangeInBounds}
use Rattle.script_lines.specs.reading.Gathered.{edits_after}
use Rattle.script_lines.specs.reading.Hooks.{edits_of, parts_edits}
use Rattle.line_words.specs.words.Words.{words}
use Rattle.view_model.specs.Numbers.{max_edits}
use Rattle.script_lines.specs.declared.commands.Asked.{Asked}
use Rattle.script_lines.proofs.reading.hooks.gather.Given as goal

abbrev pub invariant-loop-end : goal.invariant-loop-end
invariant-loop-end l = record {
  within : l.at ≤ length l.bytes;
  room : length l.gathered.edits.items + l.gathered.left ≤ max_edits;
  bounds : All (λ (asked : Asked). IsChangeInBounds asked.change) l.gathered.edits.items;
  left : edits_after l.gathered (slice_split parts_edits (words (drop l.at l.bytes))) ≡ edits_of (words l.bytes);
}

abbrev pub decreases-loop-end : goal.decreases-loop-end
decreases-loop-end l = length l.bytes - l.at
