use Rattle.std.proofs.Common.{◌-◌, ◌≤◌}
use Rattle.text_lines.specs.BufferedText.{Sends}
use Rattle.text_lines.specs.Joined.{◌⧺◌}
use Rattle.world_replies.specs.Replies.{pixel_text, separator, texts_below}
use Rattle.world_replies.specs.Responses.{color_of}
use Rattle.world_replies.proofs.pixels.put_row.Given as goal

abbrev pub invariant-loop-column : goal.invariant-loop-column
invariant-loop-column g l =
    (l.column ≤ l.part.width)
    × Sends (g.K.Sink.state l.fn.sink) (g.K.Sink.state l.sink) l.fn.text l.text (texts_below (λ column. separator column ⧺ pixel_text (color_of l.surface l.part column l.row)) l.column)

abbrev pub decreases-loop-column : goal.decreases-loop-column
decreases-loop-column g l = l.part.width - l.column
