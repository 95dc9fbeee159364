use Rattle.std.proofs.Common.{◌-◌, ◌≤◌}
use Rattle.text_lines.specs.BufferedText.{Sends}
use Rattle.stack_worlds.specs.Composed.{composed_in}
use Rattle.world_replies.specs.Replies.{row_text, texts_below}
use Rattle.stack_worlds.proofs.stack.composing.Composed.put_rows.Given as goal

abbrev pub invariant-loop-row : goal.invariant-loop-row
invariant-loop-row g l =
    (l.row ≤ l.self.part.height)
    × Sends (g.K.Sink.state l.fn.sink) (g.K.Sink.state l.sink) l.fn.text l.text (texts_below (λ row. row_text (λ column. composed_in l.self column row) l.self.part.width) l.row)

abbrev pub decreases-loop-row : goal.decreases-loop-row
decreases-loop-row g l = l.self.part.height - l.row
