use Rattle.std.proofs.Common.{length}
use Rattle.touch_targets.specs.Nodes.{slots_from}
use Rattle.touch_targets.proofs.chains.Dropping.{Drops}
use Rattle.touch_targets.proofs.links.drop_ids.Given as goal

abbrev pub invariant-loop-at : goal.invariant-loop-at
invariant-loop-at l = Drops l.initial.nodes l.nodes l.group l.ids l.previous l.at

abbrev pub decreases-loop-at : goal.decreases-loop-at
decreases-loop-at l = length (slots_from l.nodes l.at)
