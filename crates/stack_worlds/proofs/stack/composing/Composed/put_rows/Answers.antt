use Rattle.std.proofs.Common.{arith}
use Rattle.stack_worlds.specs.Composed.{composed_in}
use Rattle.world_replies.proofs.PixelLaws.{sends_next}
use Rattle.world_replies.specs.Replies.{row_text}
use Rattle.stack_worlds.proofs.stack.composing.Composed.put_rows.Goals as goal

pub loop-row-preserved : goal.loop-row-preserved
loop-row-preserved g c = (
  omega (arith, c.loop-row-test.true),
  sends_next (λ row. row_text (λ column. composed_in c.args.self.now column row) c.args.self.now.part.width) c.loop-row.row c.loop-row.invariant.1 c.put_row.ensures,
)
