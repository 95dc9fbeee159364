use Rattle.whole_tool.proofs.run.is_passed.Goals as goal

pub returns-in-Some : goal.returns-in-Some
returns-in-Some c = rw c.in-Some.is c.passes_over.ensures
