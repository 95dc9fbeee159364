use Rattle.std.proofs.Common.{ℕ, ap}
use Rattle.std.specs.Prelude.{codes, decimal}
use Rattle.text_lines.specs.Joined.{◌⧺◌}
use Rattle.text_lines.proofs.Sending.{◌⨾◌, sends_as}
use Rattle.tool_replies.specs.Dump.{fault_text}
use Rattle.tool_replies.specs.Refusals.{refused_text}
use Rattle.tool_replies.proofs.file_replies.put_fault.Goals as goal

pub returns : goal.returns
unfolding fault_text
returns g c =
    sends_as (ap (λ (number : ℕ). codes "file: " ⧺ refused_text number ⧺ (codes " at " ⧺ decimal c.args.fault.at) ⧺ codes "\n") c.number.ensures.value)
    (c.put.ensures ⨾ c.put_refused.ensures ⨾ c.put_counted.ensures ⨾ c.put-2.ensures)
