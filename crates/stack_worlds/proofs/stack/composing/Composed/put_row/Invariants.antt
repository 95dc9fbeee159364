use Rattle.std.proofs.Common.{◌-◌, ◌≤◌}
use Rattle.text_lines.specs.BufferedText.{Sends}
use Rattle.text_lines.specs.Joined.{◌⧺◌}
use Rattle.stack_worlds.specs.Composed.{composed_in}
use Rattle.world_replies.specs.Replies.{pixel_text, separator, texts_below}
use Rattle.stack_worlds.proofs.stack.composing.Composed.put_row.Given as goal

abbrev pub invariant-loop-column : goal.invariant-loop-column
invariant-loop-column g l =
    (l.column ≤ l.self.part.width)
    × Sends (g.K.Sink.state l.fn.sink) (g.K.Sink.state l.sink) l.fn.text l.text (texts_below (λ column. separator column ⧺ pixel_text (composed_in l.self column l.row)) l.column)

abbrev pub decreases-loop-column : goal.decreases-loop-column
decreases-loop-column g l = l.self.part.width - l.column
