use Rattle.std.proofs.Common.{arith}
use Rattle.text_lines.specs.Joined.{◌⧺◌}
use Rattle.stack_worlds.specs.Composed.{composed_in}
use Rattle.world_replies.proofs.PixelLaws.{sends_next}
use Rattle.world_replies.specs.Replies.{pixel_text, separator}
use Rattle.stack_worlds.proofs.stack.composing.Composed.put_row.Goals as goal

pub loop-column-preserved : goal.loop-column-preserved
loop-column-preserved g c = (
  omega (arith, c.loop-column-test.true),
  sends_next (λ column. separator column ⧺ pixel_text (composed_in c.args.self.now column c.args.row)) c.loop-column.column c.loop-column.invariant.1 c.put_color.ensures,
)
