use Rattle.std.proofs.Common.{◌≡◌, None, rules}
use Rattle.touch_targets.specs.Pool.{slot_in}
use Rattle.touch_targets.specs.Seats.{targets_of}
use Rattle.touch_targets.proofs.pools.Membership.{left_nowhere, left_targets, unheld_targets}
use Rattle.touch_targets.proofs.pools.SeatLaws.{closed_no_target, closed_nowhere, no_group, no_node}
use Rattle.touch_targets.proofs.targets.Targets.release.Goals as goal
use Rattle.touch_targets.proofs.targets.Targets.release.Goals.{Then-is_empty}

-- as long as no view has a node, neither has this one
none : (c : Then-is_empty) → slot_in c.self.inside.slots c.args.view ≡ None
none c = no_node c.self.inside c.self.invariant (search rules) c.args.view

pub returns-then-is_empty-clause-targets : goal.returns-then-is_empty-clause-targets
returns-then-is_empty-clause-targets c = λ group.
    let at = (goal.at.returns-then-is_empty-clause-targets c).Then-is_empty in
    unheld_targets c.args.view (targets_of c.args.self.now) (no_group c.self.inside c.args.self.now c.self.view_is c.args.view (none at))
    (closed_nowhere c.self.inside c.args.self.now c.self.invariant c.self.view_is c.args.view (none at)) group

pub returns-then-is_empty-clause-free : goal.returns-then-is_empty-clause-free
returns-then-is_empty-clause-free c = λ group.
    let at = (goal.at.returns-then-is_empty-clause-free c).Then-is_empty in
    closed_no_target c.self.inside c.args.self.now c.self.invariant c.self.view_is c.args.view (none at) group

pub returns-clause-targets : goal.returns-clause-targets
returns-clause-targets c = left_targets c.args.view (targets_of c.args.self.now) (targets_of c.clear.new.self) (targets_of c.remove.new.self) c.clear.ensures.targets c.remove.ensures.targets

pub returns-clause-free : goal.returns-clause-free
returns-clause-free c = left_nowhere c.args.view (targets_of c.clear.new.self) (targets_of c.remove.new.self) c.remove.ensures.targets
