use Rattle.std.proofs.Common.{◌≡◌, ◌∙◌, Some, refl, sym}
use Rattle.touch_targets.specs.Pool.{slot_in}
use Rattle.touch_targets.specs.declared.targets.Targets.TheInside.{Inside}
use Rattle.touch_targets.proofs.pools.Membership.{sound_changed}
use Rattle.touch_targets.proofs.pools.SeatLaws.{closed_nowhere, node_of, removed_targets, same_open}
use Rattle.touch_targets.proofs.pools.SeatOrder.{nothing_removed, seats_kept}
use Rattle.touch_targets.proofs.targets.Targets.remove.Goals as goal

pub remove-requires-clause-child : goal.remove-requires-clause-child
remove-requires-clause-child c =
    let slot : slot_in c.self.inside.slots c.args.child ≡ Some c.in-Some.slot = sym c.slot_of.ensures ∙ c.in-Some.is in
    rw (node_of c.self.inside c.self.invariant c.args.child c.in-Some.slot slot).is refl

pub returns-in-Some-clause-opened : goal.returns-in-Some-clause-opened
returns-in-Some-clause-opened c =
    same_open c.self.inside (record { nodes = c.remove.new.nodes; slots = c.self.inside.slots }) c.args.self.now c.self.view_is refl

pub returns-in-Some-clause-targets : goal.returns-in-Some-clause-targets
returns-in-Some-clause-targets c =
    let a = c.self.inside in
    let slot : slot_in a.slots c.args.child ≡ Some c.in-Some.slot = sym c.slot_of.ensures ∙ c.in-Some.is in
    let b : Inside = record { nodes = c.remove.new.nodes; slots = a.slots } in
    removed_targets a b c.args.self.now c.args.child c.in-Some.slot c.self.invariant c.self.view_is refl slot c.remove.ensures.caught

pub returns-in_default-clause-targets : goal.returns-in_default-clause-targets
returns-in_default-clause-targets c =
    closed_nowhere c.self.inside c.args.self.now c.self.invariant c.self.view_is c.args.child (sym c.slot_of.ensures ∙ c.in_default.is)

pub returns-in-Some-clause-same : goal.returns-in-Some-clause-same
returns-in-Some-clause-same c none =
    let a = c.self.inside in
    let slot : slot_in a.slots c.args.child ≡ Some c.in-Some.slot = sym c.slot_of.ensures ∙ c.in-Some.is in
    let b : Inside = record { nodes = c.remove.new.nodes; slots = a.slots } in
    seats_kept a b c.args.self.now c.self.view_is refl
    (nothing_removed a b c.args.self.now c.args.child c.in-Some.slot c.self.invariant c.self.view_is slot none c.remove.ensures.caught)

pub invariant_of-self : goal.invariant_of-self
invariant_of-self c =
    let a = c.self.inside in
    sound_changed a (record { nodes = c.remove.new.nodes; slots = a.slots }) c.self.invariant refl c.remove.ensures.linked c.remove.ensures.views c.remove.ensures.capacity
