use Rattle.std.proofs.Common.{ℕ, ◌+◌, ap, arith}
use Rattle.std.specs.Prelude.{fold}
use Rattle.view_model.specs.CellText.{lines_for}
use Rattle.cell_text.proofs.SegmentLaws.{lengths_from_start}
use Rattle.cell_text.proofs.lines.count.Goals as goal

pub loop-c-init : goal.loop-c-init
loop-c-init c = record { value = ap (fold (λ (lines k : ℕ). lines + lines_for c.args.n k) 0) (lengths_from_start c.args.text.now); short = omega arith }
