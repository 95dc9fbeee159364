-- Texts one after another, by number.
use Rattle.std.proofs.Common.{◌≡◌, ℕ, suc, ◌+◌, List, ap, arith}
use Rattle.text_lines.specs.BufferedText.{BufferedText, Sends}
use Rattle.text_lines.proofs.Sending.{sends_as, sends_both}
use Rattle.tool_io.specs.SinkState.{SinkState}
use Rattle.world_replies.specs.Replies.{texts_below}

-- one more
pub sends_next : {old mid new : SinkState} {before held after : BufferedText} (text : ℕ → List ℕ) (n : ℕ)
    → Sends old mid before held (texts_below text n) → Sends mid new held after (text n) → Sends old new before after (texts_below text (n + 1))
sends_next text n first next = let e : suc n ≡ n + 1 = omega arith in sends_as (ap (texts_below text) e) (sends_both first next)
