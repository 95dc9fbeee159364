use Rattle.std.proofs.Common.{◌≡◌, ◌∙◌, Some, refl, sym}
use Rattle.touch_event.specs.PointerSets.{has_id}
use Rattle.touch_targets.specs.Captures.{drop_pointers}
use Rattle.touch_targets.specs.Nodes.{caught_by}
use Rattle.touch_targets.specs.Seats.{drop_caught}
use Rattle.touch_targets.specs.Pool.{slot_in}
use Rattle.touch_targets.specs.declared.targets.Targets.TheInside.{Inside}
use Rattle.touch_targets.proofs.pools.CaughtLaws.{drop_of}
use Rattle.touch_targets.proofs.pools.Membership.{sound_changed}
use Rattle.touch_targets.proofs.pools.SeatLaws.{changed_targets, fits_by, node_of, same_open, unchanged_targets}
use Rattle.touch_targets.proofs.pools.SeatOrder.{nothing_dropped, seats_kept}
use Rattle.touch_targets.proofs.targets.Targets.drop_ids.Goals as goal

pub drop_ids-requires-clause-group : goal.drop_ids-requires-clause-group
drop_ids-requires-clause-group c =
    let slot : slot_in c.self.inside.slots c.args.group ≡ Some c.in-Some.slot = sym c.slot_of.ensures ∙ c.in-Some.is in
    rw (node_of c.self.inside c.self.invariant c.args.group c.in-Some.slot slot).is refl

pub returns-in-Some-clause-opened : goal.returns-in-Some-clause-opened
returns-in-Some-clause-opened c =
    same_open c.self.inside (record { nodes = c.drop_ids.new.nodes; slots = c.self.inside.slots }) c.args.self.now c.self.view_is refl

pub returns-in-Some-clause-targets : goal.returns-in-Some-clause-targets
returns-in-Some-clause-targets c =
    let a = c.self.inside in
    let slot : slot_in a.slots c.args.group ≡ Some c.in-Some.slot = sym c.slot_of.ensures ∙ c.in-Some.is in
    let b : Inside = record { nodes = c.drop_ids.new.nodes; slots = a.slots } in
    changed_targets a b c.args.self.now c.args.group c.in-Some.slot (drop_caught c.args.ids) (drop_pointers (has_id c.args.ids))
    c.self.invariant c.self.view_is refl slot c.drop_ids.ensures.caught
    (drop_of c.args.ids (caught_by a.nodes c.in-Some.slot) c.ranges.ids.fits (fits_by a.nodes c.self.invariant.linked c.in-Some.slot))

pub returns-in_default-clause-targets : goal.returns-in_default-clause-targets
returns-in_default-clause-targets c =
    unchanged_targets c.self.inside c.args.self.now c.args.group (drop_pointers (has_id c.args.ids)) c.self.view_is (sym c.slot_of.ensures ∙ c.in_default.is) refl

pub returns-in-Some-clause-same : goal.returns-in-Some-clause-same
returns-in-Some-clause-same c none =
    let a = c.self.inside in
    let slot : slot_in a.slots c.args.group ≡ Some c.in-Some.slot = sym c.slot_of.ensures ∙ c.in-Some.is in
    let b : Inside = record { nodes = c.drop_ids.new.nodes; slots = a.slots } in
    seats_kept a b c.args.self.now c.self.view_is refl
    (nothing_dropped a b c.args.self.now c.args.group c.in-Some.slot c.args.ids c.self.view_is slot none c.drop_ids.ensures.caught)

pub invariant_of-self : goal.invariant_of-self
invariant_of-self c =
    let a = c.self.inside in
    sound_changed a (record { nodes = c.drop_ids.new.nodes; slots = a.slots }) c.self.invariant refl c.drop_ids.ensures.linked c.drop_ids.ensures.views c.drop_ids.ensures.capacity
