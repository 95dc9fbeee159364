use Rattle.std.proofs.Common.{◌∙◌, sym}
use Rattle.touch_targets.proofs.pools.Removing.{caught_free}
use Rattle.touch_targets.proofs.links.remove.Goals as goal

pub returns-in-None-clause-caught : goal.returns-in-None-clause-caught
returns-in-None-clause-caught c = caught_free c.args.nodes.now c.args.child c.index.result.now c.requires.linked c.index.ensures (sym c.key.ensures ∙ c.in-None.is)
