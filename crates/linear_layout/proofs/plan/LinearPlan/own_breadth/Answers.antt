use Rattle.std.proofs.Common.{◌∙◌, FitsSigned, w32, rules}
use Rattle.std.proofs.lemmas.Int.{to_z-of_z}
use Rattle.linear_layout.proofs.plan.LinearPlan.own_breadth.Goals as goal

pub returns-clause-twice : goal.returns-clause-twice
returns-clause-twice c = λ pass kids second some f w.
    let fits : FitsSigned w32 c.own_breadth.result = search rules in
    simp to_z-of_z (c.own_breadth.ensures.twice pass kids second (c.weighed.ensures ∙ some) f w)
