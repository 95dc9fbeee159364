use Rattle.std.proofs.Common.{◌-◌, ◌≤◌}
use Rattle.text_lines.specs.BufferedText.{Sends}
use Rattle.world_replies.specs.Replies.{row_text, texts_below}
use Rattle.world_replies.specs.Responses.{color_of}
use Rattle.world_replies.proofs.pixels.put_pixels.Given as goal

abbrev pub invariant-loop-row : goal.invariant-loop-row
invariant-loop-row g l =
    (l.row ≤ l.part.height)
    × Sends (g.K.Sink.state l.fn.sink) (g.K.Sink.state l.sink) l.fn.text l.text (texts_below (λ row. row_text (λ column. color_of l.surface l.part column row) l.part.width) l.row)

abbrev pub decreases-loop-row : goal.decreases-loop-row
decreases-loop-row g l = l.part.height - l.row
