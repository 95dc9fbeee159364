use Rattle.std.proofs.Common.{◌≡◌, ◌∙◌, ℕ, false, List, [], Some, ap, refl, sym}
use Rattle.std.proofs.lemmas.Bool.{eq-eqb}
use Rattle.std.specs.Prelude.{◌==◌, ◌&&◌, not}
use Rattle.touch_targets.specs.Captures.{is_target}
use Rattle.touch_targets.specs.Seats.{Seat, is_open, targets_of, with_seat}
use Rattle.touch_targets.specs.Pool.{slot_in}
use Rattle.touch_targets.specs.declared.targets.Targets.TheInside.{Inside}
use Rattle.touch_targets.proofs.pools.Membership.{closed_targets, closed_view, nothing_caught, nowhere_caught, sound_closed, sound_forgot}
use Rattle.touch_targets.proofs.pools.SeatLaws.{node_of}
use Rattle.touch_targets.proofs.pools.SeatOrder.{no_targets_with, seat_taken, targets_with}
use Rattle.touch_targets.proofs.targets.Targets.close.Goals as goal
use Rattle.touch_targets.proofs.targets.Targets.close.Goals.{After-release, In-Some}

none : (c : After-release) → targets_of c.release.new.self c.args.view ≡ []
none c = c.release.ensures.targets c.args.view ∙ rw (eq-eqb c.args.view c.args.view refl) refl

slot : (c : In-Some) → slot_in c.self.inside.slots c.args.view ≡ Some c.in-Some.slot
slot c = sym c.forget_slot.ensures.value ∙ c.in-Some.is

pub take_out-requires-clause-there : goal.take_out-requires-clause-there
take_out-requires-clause-there c =
    rw (node_of c.self.inside c.self.invariant c.args.view c.in-Some.slot (slot (goal.at.take_out-requires-clause-there c).In-Some)).is refl

pub take_out-requires-clause-empty : goal.take_out-requires-clause-empty
take_out-requires-clause-empty c =
    let at = goal.at.take_out-requires-clause-empty c in
    nothing_caught c.self.inside c.release.new.self c.args.view c.in-Some.slot c.self.view_is (slot at.In-Some) (none at.After-release)

pub take_out-requires-clause-free : goal.take_out-requires-clause-free
take_out-requires-clause-free c =
    let at = goal.at.take_out-requires-clause-free c in
    nowhere_caught c.self.inside c.release.new.self c.args.view c.in-Some.slot c.self.invariant c.self.view_is (slot at.In-Some)
    c.release.ensures.free

pub invariant_of-self : goal.invariant_of-self
invariant_of-self c =
    let b : Inside = record { nodes = c.take_out.new.nodes; slots = c.forget_slot.new.slots } in
    sound_closed c.self.inside b c.release.new.self c.args.view c.self.view_is c.forget_slot.ensures.forgot c.in-Some.slot c.self.invariant
    (slot (goal.at.invariant_of-self c).In-Some) c.take_out.ensures.linked c.take_out.ensures.nodes c.take_out.ensures.len c.take_out.ensures.capacity
    c.forget_slot.ensures.entries c.forget_slot.ensures.fewer

pub invariant_of-self-in_default : goal.invariant_of-self-in_default
invariant_of-self-in_default c =
    let b : Inside = record { nodes = c.self.inside.nodes; slots = c.forget_slot.new.slots } in
    sound_forgot c.self.inside b c.release.new.self c.args.view c.self.view_is c.forget_slot.ensures.forgot c.self.invariant
    (sym c.forget_slot.ensures.value ∙ c.in_default.is) refl c.forget_slot.ensures.entries c.forget_slot.ensures.fewer

pub returns-in-Some-clause-opened : goal.returns-in-Some-clause-opened
returns-in-Some-clause-opened c = λ other.
    let b : Inside = record { nodes = c.take_out.new.nodes; slots = c.forget_slot.new.slots } in
    closed_view c.self.inside b c.release.new.self c.args.view c.self.view_is c.forget_slot.ensures.forgot other
    ∙ ap (λ x. x && not (other == c.args.view)) (c.release.ensures.opened other)

pub returns-in-Some-clause-targets : goal.returns-in-Some-clause-targets
returns-in-Some-clause-targets c = λ group.
    let at = goal.at.returns-in-Some-clause-targets c in
    let b : Inside = record { nodes = c.take_out.new.nodes; slots = c.forget_slot.new.slots } in
    closed_targets c.self.inside b c.release.new.self c.args.view c.self.view_is c.forget_slot.ensures.forgot c.take_out.ensures.caught (none at.After-release) group
    ∙ c.release.ensures.targets group

pub returns-in_default-clause-opened : goal.returns-in_default-clause-opened
returns-in_default-clause-opened c = λ other.
    let b : Inside = record { nodes = c.self.inside.nodes; slots = c.forget_slot.new.slots } in
    closed_view c.self.inside b c.release.new.self c.args.view c.self.view_is c.forget_slot.ensures.forgot other
    ∙ ap (λ x. x && not (other == c.args.view)) (c.release.ensures.opened other)

pub returns-in_default-clause-targets : goal.returns-in_default-clause-targets
returns-in_default-clause-targets c = λ group.
    let at = goal.at.returns-in_default-clause-targets c in
    let b : Inside = record { nodes = c.self.inside.nodes; slots = c.forget_slot.new.slots } in
    closed_targets c.self.inside b c.release.new.self c.args.view c.self.view_is c.forget_slot.ensures.forgot (λ x. refl) (none at.After-release) group
    ∙ c.release.ensures.targets group

-- nothing is removed before the seat is
kept : (c : After-release) (before : List Seat) → c.args.self.now ≡ with_seat c.args.view before → is_open before c.args.view ≡ false
    → ((group : ℕ) → is_target c.args.view (targets_of before group) ≡ false) → c.release.new.self ≡ with_seat c.args.view before
kept c before is closed free =
    c.release.ensures.same (ap (λ s. targets_of s c.args.view) is ∙ no_targets_with c.args.view before closed)
    (λ group. ap (λ s. is_target c.args.view (targets_of s group)) is ∙ ap (is_target c.args.view) (targets_with c.args.view before group) ∙ free group)
    ∙ is

pub returns-in-Some-clause-last : goal.returns-in-Some-clause-last
returns-in-Some-clause-last c before is closed free =
    let b : Inside = record { nodes = c.take_out.new.nodes; slots = c.forget_slot.new.slots } in
    seat_taken c.self.inside b before c.args.view (c.self.view_is ∙ kept (goal.at.returns-in-Some-clause-last c).After-release before is closed free) closed
    c.take_out.ensures.caught c.forget_slot.ensures.entries

pub returns-in_default-clause-last : goal.returns-in_default-clause-last
returns-in_default-clause-last c before is closed free =
    let b : Inside = record { nodes = c.self.inside.nodes; slots = c.forget_slot.new.slots } in
    seat_taken c.self.inside b before c.args.view (c.self.view_is ∙ kept (goal.at.returns-in_default-clause-last c).After-release before is closed free) closed
    (λ x. refl) c.forget_slot.ensures.entries
