use Rattle.vindaesk_c.proofs.QuestionLaws.{can_side}
use Rattle.vindaesk_c.proofs.questions.question_words.Goals as goal

pub side_text-requires : goal.side_text-requires
side_text-requires c = can_side c.args.side.now c.args.view.now c.requires
