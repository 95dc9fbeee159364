use Rattle.std.proofs.Common.{ap}
use Rattle.std.specs.Fmt.{decimal}
use Rattle.text_lines.proofs.Sending.{◌⨾◌, sends_as}
use Rattle.world_replies.specs.Replies.{inflated_text}
use Rattle.world_replies.proofs.replies.put_inflated.Goals as goal

pub returns : goal.returns
unfolding inflated_text
returns g c =
    c.put.ensures ⨾ c.put_name.ensures ⨾ c.put-2.ensures ⨾ c.put_name-2.ensures ⨾ c.put-3.ensures ⨾
    sends_as (ap decimal c.from.ensures) c.natural.ensures ⨾ c.put-4.ensures
