use Rattle.std.proofs.Common.{arith}
use Rattle.world_replies.specs.Replies.{row_text}
use Rattle.world_replies.specs.Responses.{color_of}
use Rattle.world_replies.proofs.PixelLaws.{sends_next}
use Rattle.world_replies.proofs.pixels.put_pixels.Goals as goal

pub loop-row-preserved : goal.loop-row-preserved
loop-row-preserved g c = (
  omega (arith, c.loop-row-test.true),
  sends_next (λ row. row_text (λ column. color_of c.args.surface.now c.args.part column row) c.args.part.width) c.loop-row.row c.loop-row.invariant.1 c.put_row.ensures,
)
