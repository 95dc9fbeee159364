use Rattle.std.proofs.Common.{◌≡◌, ◌≤◌, max, drop}
use Rattle.std.specs.Prelude.{fold}
use Rattle.view_model.specs.CellText.{widest_of}
use Rattle.cell_text.proofs.SegmentLaws.{lengths_after}
use Rattle.cell_text.proofs.lines.widest.Given as goal

abbrev pub invariant-loop-c : goal.invariant-loop-c
invariant-loop-c l = record {
  value : fold max l.widest (lengths_after l.length (drop l.c-index l.text)) ≡ widest_of l.text;
  short : l.length ≤ l.c-index;
}
