use Rattle.std.proofs.Common.{◌≡◌, true, length}
use Rattle.touch_targets.specs.Nodes.{has_slot, slots_from}
use Rattle.touch_targets.proofs.chains.Walks.{LinkWalk}
use Rattle.touch_targets.proofs.links.before.Given as goal

abbrev pub invariant-loop-at : goal.invariant-loop-at
invariant-loop-at l = record {
  walk : LinkWalk l.nodes l.group l.previous l.at;
  there : has_slot l.slot (slots_from l.nodes l.at) ≡ true;
}

abbrev pub decreases-loop-at : goal.decreases-loop-at
decreases-loop-at l = length (slots_from l.nodes l.at)
