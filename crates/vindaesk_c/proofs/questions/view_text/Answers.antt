use Rattle.vindaesk_c.proofs.QuestionLaws.{view_text}
use Rattle.vindaesk_c.proofs.questions.view_text.Goals as goal

-- the name of a view is ASCII
pub unreachable-requires : goal.unreachable-requires
unreachable-requires c = c.in-Err.ensures.cases.0 (view_text c.args.side.now c.args.view.now c.requires)
