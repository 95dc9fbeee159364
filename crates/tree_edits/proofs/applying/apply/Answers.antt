use Rattle.tree_edits.proofs.applying.apply.Goals as goal

pub returns-in-Act-clause-applied : goal.returns-in-Act-clause-applied
returns-in-Act-clause-applied c = rw c.in-Act.is c.act_on.ensures.applied

pub returns-in-Act-clause-asked : goal.returns-in-Act-clause-asked
returns-in-Act-clause-asked c = rw c.in-Act.is c.act_on.ensures.asked
