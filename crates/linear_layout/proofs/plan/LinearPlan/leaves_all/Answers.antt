use Rattle.std.proofs.Common.{◌∙◌, ap}
use Rattle.linear_layout.proofs.LeavingLaws.{leaves_all-LeavesAll}
use Rattle.linear_layout.specs.LinearPlan.{leaves_by}
use Rattle.linear_layout.specs.declared.plan.Phase.TheVariants.{Uniform}
use Rattle.linear_layout.proofs.plan.LinearPlan.leaves_all.Goals as goal

pub returns-in-None-clause-leaves : goal.returns-in-None-clause-leaves
returns-in-None-clause-leaves c = λ leaves own specs.
    leaves_all-LeavesAll c.args.self.now own specs (ap (leaves_by c.args.self.now) (c.in-Uniform.is ∙ ap Uniform c.in-None.is) ∙ leaves)

pub returns-in-Some-clause-leaves : goal.returns-in-Some-clause-leaves
returns-in-Some-clause-leaves c = λ leaves own specs.
    leaves_all-LeavesAll c.args.self.now own specs (ap (leaves_by c.args.self.now) (c.in-Uniform.is ∙ ap Uniform c.in-Some.is) ∙ leaves)
