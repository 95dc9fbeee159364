use Rattle.std.proofs.Common.{◌≡◌, ◌≤◌, ◌-◌, drop, take}
use Rattle.view_model.specs.CellText.{cell_below, cell_of}
use Rattle.cell_text.proofs.SegmentLaws.{segments_after}
use Rattle.cell_text.proofs.cells.cell.Given as goal

abbrev pub invariant-loop-end : goal.invariant-loop-end
invariant-loop-end l = record {
  value : cell_below l.n (segments_after (take (l.end - l.begin) (drop l.begin l.text)) (drop l.end l.text)) l.line l.place ≡ cell_of l.n l.text l.initial.line l.place;
  following : l.begin ≤ l.end;
}
