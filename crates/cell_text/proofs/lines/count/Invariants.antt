use Rattle.std.proofs.Common.{◌≡◌, ◌≤◌, ◌+◌, ℕ, drop}
use Rattle.std.specs.Prelude.{fold}
use Rattle.view_model.specs.CellText.{count_of_lines, lines_for}
use Rattle.cell_text.proofs.SegmentLaws.{lengths_after}
use Rattle.cell_text.proofs.lines.count.Given as goal

abbrev pub invariant-loop-c : goal.invariant-loop-c
invariant-loop-c l = record {
  value : fold (λ (lines k : ℕ). lines + lines_for l.n k) l.lines (lengths_after l.cells (drop l.c-index l.text)) ≡ count_of_lines l.n l.text;
  short : l.lines + l.cells ≤ l.c-index;
}
