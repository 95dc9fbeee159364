use Rattle.std.proofs.Common.{◌∙◌, ap, subst, sym}
use Rattle.vindaesk_c.specs.Sessions.{IsAt}
use Rattle.whole_tool.specs.Session.{answer_to, with_line}
use Rattle.vindaesk_c.proofs.SessionLaws.{put_small, put_status, put_whole, taken_out}
use Rattle.vindaesk_c.proofs.sessions.vindaesk_line.Goals as goal

pub returns-in-Ok-clause-next : goal.returns-in-Ok-clause-next
returns-in-Ok-clause-next c held script before at ended =
    subst (IsAt held (with_line script c.args.line.now) (answer_to held script c.args.line.now)) (sym c.put-in-Ok.ensures)
    (c.in-Ok.ensures.run held script before (taken_out held script before _ _ _ c.in-Some.ensures.taken c.deref_mut.ensures.value at))

pub returns-in-Ok-clause-grows : goal.returns-in-Ok-clause-grows
returns-in-Ok-clause-grows c held script before at ended =
    (c.in-Ok.ensures.answered held script before (taken_out held script before _ _ _ c.in-Some.ensures.taken c.deref_mut.ensures.value at)).whole

pub returns-in-Ok-clause-complete : goal.returns-in-Ok-clause-complete
returns-in-Ok-clause-complete c held script before at complete =
    let run = c.in-Ok.ensures.run held script before (taken_out held script before _ _ _ c.in-Some.ensures.taken c.deref_mut.ensures.value at) in
    put_whole _ _ _ _ _ _ _ (c.answer.ensures ∙ ap (λ s. s.answer.gone) c.deref-in-Ok.ensures ∙ run.answer) c.put_text-status.ensures complete

pub returns-in-Ok-clause-refused : goal.returns-in-Ok-clause-refused
returns-in-Ok-clause-refused c held script before at complete =
    let answered = c.in-Ok.ensures.answered held script before (taken_out held script before _ _ _ c.in-Some.ensures.taken c.deref_mut.ensures.value at) in
    put_status _ _ _ _ _ _ _ _ c.put_text-status.ensures complete answered.refused

pub returns-in-Ok-clause-small : goal.returns-in-Ok-clause-small
returns-in-Ok-clause-small c held script before at eight =
    let run = c.in-Ok.ensures.run held script before (taken_out held script before _ _ _ c.in-Some.ensures.taken c.deref_mut.ensures.value at) in
    put_small _ _ _ _ _ _ _ (c.answer.ensures ∙ ap (λ s. s.answer.gone) c.deref-in-Ok.ensures ∙ run.answer) c.put_text-status.ensures eight
