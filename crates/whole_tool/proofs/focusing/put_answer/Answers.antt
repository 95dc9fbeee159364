use Rattle.whole_tool.proofs.focusing.put_answer.Goals as goal

pub put_refused_question-requires : goal.put_refused_question-requires
put_refused_question-requires g c = rw c.in-Err.is at c.requires
