use Rattle.std.proofs.Common.{◌∙◌}
use Rattle.std.specs.Prelude.{◌==◌}
use Rattle.touch_targets.specs.Seats.{targets_of}
use Rattle.touch_targets.proofs.pools.CaughtLaws.{cleared}
use Rattle.touch_targets.proofs.targets.Targets.clear.Goals as goal

pub returns-clause-targets : goal.returns-clause-targets
returns-clause-targets c = λ other. c.drop_ids.ensures.targets other ∙ cleared (other == c.args.group) (targets_of c.args.self.now other)
