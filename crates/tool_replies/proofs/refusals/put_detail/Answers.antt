use Rattle.std.proofs.Common.{ap, sym, ◌∙◌}
use Rattle.std.specs.Prelude.{List, ℕ}
use Rattle.text_lines.specs.Joined.{◌⧺◌, texts_of}
use Rattle.text_lines.proofs.Sending.{◌⨾◌, sends_as}
use Rattle.view_model.specs.declared.refusal.Detail.{Detail}
use Rattle.view_model.specs.declared.refusal.Member.{Member}
use Rattle.view_model.specs.Refusals.{reason_of}
use Rattle.tool_replies.specs.Refusals.{axis_text, member_text, reason_text}
use Rattle.tool_replies.proofs.refusals.put_detail.Goals as goal

pub returns-in-Cycle : goal.returns-in-Cycle
returns-in-Cycle g c =
    sends_as (
    ap (λ (text : List ℕ). text ⧺ texts_of member_text c.as_slice.result.now) c.axis.ensures
    ∙ ap (λ (members : List Member). axis_text c.in-Cycle.down ⧺ texts_of member_text members) c.as_slice.ensures.value
    ∙ sym (ap (λ (detail : Detail). reason_text (reason_of detail)) c.in-Cycle.is)
    )
    (c.put.ensures ⨾ c.put_members.ensures)
