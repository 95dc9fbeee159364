use Rattle.std.proofs.Common.{ap}
use Rattle.std.specs.Prelude.{List, ℕ, codes, decimal}
use Rattle.text_lines.specs.Joined.{◌⧺◌}
use Rattle.text_lines.proofs.Sending.{◌⨾◌, sends_as}
use Rattle.tool_replies.specs.Refusals.{refused_text}
use Rattle.tool_replies.proofs.refusals.put_refused.Goals as goal

pub returns : goal.returns
unfolding refused_text
returns g c =
    sends_as (ap (λ (name : List ℕ). codes "refused " ⧺ decimal c.args.number ⧺ codes " " ⧺ name) c.name_of.ensures.name)
    (c.put.ensures ⨾ c.natural.ensures ⨾ c.put-2.ensures ⨾ c.put-3.ensures)
