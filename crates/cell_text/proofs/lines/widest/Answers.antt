use Rattle.std.proofs.Common.{max, ap, arith}
use Rattle.std.specs.Prelude.{fold}
use Rattle.cell_text.proofs.SegmentLaws.{lengths_from_start}
use Rattle.cell_text.proofs.lines.widest.Goals as goal

pub loop-c-init : goal.loop-c-init
loop-c-init c = record { value = ap (fold max 0) (lengths_from_start c.args.text.now); short = omega arith }
