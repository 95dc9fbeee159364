use Rattle.std.proofs.Common.{◌≢◌, ℕ, ◌-◌, ◌<◌, ◌≤◌, get_or, length}
use Rattle.view_model.specs.CellText.{newline}
use Rattle.cell_text.proofs.breaking.line_end.Given as goal

abbrev pub invariant-loop-end : goal.invariant-loop-end
invariant-loop-end l = record {
  short : l.end ≤ l.n;
  within : l.end ≤ length l.text;
  plain : (k : ℕ) → k < l.end → get_or l.text k newline ≢ newline;
}

abbrev pub decreases-loop-end : goal.decreases-loop-end
decreases-loop-end l = l.n - l.end
