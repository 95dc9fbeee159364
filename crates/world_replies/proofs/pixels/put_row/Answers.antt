use Rattle.std.proofs.Common.{arith}
use Rattle.text_lines.specs.Joined.{◌⧺◌}
use Rattle.world_replies.specs.Replies.{pixel_text, separator}
use Rattle.world_replies.specs.Responses.{color_of}
use Rattle.world_replies.proofs.PixelLaws.{sends_next}
use Rattle.world_replies.proofs.pixels.put_row.Goals as goal

pub loop-column-preserved : goal.loop-column-preserved
loop-column-preserved g c = (
  omega (arith, c.loop-column-test.true),
  sends_next (λ column. separator column ⧺ pixel_text (color_of c.args.surface.now c.args.part column c.args.row)) c.loop-column.column c.loop-column.invariant.1 (rw c.color_of.ensures at c.put_word.ensures),
)
