use Rattle.std.proofs.Common.{◌∙◌, ap, sym}
use Rattle.vindaesk_c.proofs.QuestionLaws.{asks}
use Rattle.whole_tool.specs.Usage.{usage}
use Rattle.vindaesk_c.proofs.page.question_page.Goals as goal

pub page_for-requires-clause-known : goal.page_for-requires-clause-known
page_for-requires-clause-known c = λ e.
    asks c.args.side.now c.args.view.now c.requires.can
    (sym c.in_ok-words.ensures ∙ ap usage (sym c.as_slice.ensures.value) ∙ e)
