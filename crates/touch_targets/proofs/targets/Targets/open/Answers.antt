use Rattle.std.proofs.Common.{◌≡◌, ◌∙◌, arith, true, None, is_some, ap, sym}
use Rattle.std.specs.Prelude.{nat_eq}
use Rattle.indexmap.specs.IndexMap.{get as get_key, insert_entry}
use Rattle.touch_targets.specs.Pool.{seats_in}
use Rattle.touch_targets.specs.Seats.{is_open, targets_of, with_seat}
use Rattle.touch_targets.specs.declared.targets.Targets.TheInside.{Inside}
use Rattle.touch_targets.proofs.chains.Chains.{true_not_false}
use Rattle.touch_targets.proofs.pools.Membership.{nothing_is, open_already, seats_opened, sound_opened, sound_reserved}
use Rattle.touch_targets.proofs.pools.SeatLaws.{open_is}
use Rattle.touch_targets.proofs.pools.SeatOrder.{opened_with, targets_with}
use Rattle.touch_targets.proofs.targets.Targets.open.Goals as goal
use Rattle.touch_targets.proofs.targets.Targets.open.Goals.{After-note_slot}

pub returns-then-contains_key-clause-opened : goal.returns-then-contains_key-clause-opened
returns-then-contains_key-clause-opened c =
    open_already c.self.inside c.args.self.now c.args.view c.self.view_is (sym c.contains_key.ensures ∙ c.if-contains_key.true)

pub invariant_of-self-in_err-reserve : goal.invariant_of-self-in_err-reserve
invariant_of-self-in_err-reserve c =
    sound_reserved c.self.inside (record { nodes = c.make_room.new.nodes; slots = c.reserve.new.self }) c.make_room.ensures.rest_kept c.reserve.ensures.entries c.self.invariant
    (omega (arith, c.len.ensures.len, c.in_ok-make_room.ensures.room)) c.make_room.ensures.small

-- the pool once the view has an entry
abbrev noted : After-note_slot → Inside
noted c = record { nodes = c.make_room.new.nodes; slots = c.note_slot.new.slots }

closed : (c : After-note_slot) → get_key nat_eq c.self.inside.slots c.args.view ≡ None
closed c = nothing_is (get_key nat_eq c.self.inside.slots c.args.view) (sym c.contains_key.ensures ∙ c.if-contains_key.false)

entries : (c : After-note_slot) → c.note_slot.new.slots.entries ≡ insert_entry nat_eq c.self.inside.slots.entries c.args.view None
entries c = (rw c.none.ensures at c.note_slot.ensures.entries) ∙ ap (λ es. insert_entry nat_eq es c.args.view None) c.reserve.ensures.entries

seats : (c : After-note_slot) → seats_in (noted c).nodes (noted c).slots ≡ with_seat c.args.view c.args.self.now
seats c = seats_opened c.self.inside (noted c) c.args.view c.make_room.ensures.rest_kept (closed c) (entries c) ∙ ap (with_seat c.args.view) c.self.view_is

pub invariant_of-self-2 : goal.invariant_of-self-2
invariant_of-self-2 c =
    let at = (goal.at.invariant_of-self-2 c).After-note_slot in
    sound_opened c.self.inside (noted at) c.args.view c.make_room.ensures.rest_kept (closed at) (entries at) c.self.invariant
    (omega (arith, c.len.ensures.len, c.in_ok-make_room.ensures.room)) c.make_room.ensures.small

pub returns-clause-opened : goal.returns-clause-opened
returns-clause-opened c = λ other.
    ap (λ s. is_open s other) (seats (goal.at.returns-clause-opened c).After-note_slot) ∙ opened_with c.args.view c.args.self.now other

pub returns-clause-targets : goal.returns-clause-targets
returns-clause-targets c = λ group.
    ap (λ s. targets_of s group) (seats (goal.at.returns-clause-targets c).After-note_slot) ∙ targets_with c.args.view c.args.self.now group

pub returns-clause-added : goal.returns-clause-added
returns-clause-added c was_closed = seats (goal.at.returns-clause-added c).After-note_slot

pub returns-clause-same : goal.returns-clause-same
returns-clause-same c was_open =
    let there : is_some (get_key nat_eq c.self.inside.slots c.args.view) ≡ true = sym (open_is c.self.inside c.args.self.now c.self.view_is c.args.view) ∙ was_open in
    true_not_false there (sym c.contains_key.ensures ∙ c.if-contains_key.false)

pub returns-then-contains_key-clause-added : goal.returns-then-contains_key-clause-added
returns-then-contains_key-clause-added c was_closed =
    let there : is_some (get_key nat_eq c.self.inside.slots c.args.view) ≡ true = sym c.contains_key.ensures ∙ c.if-contains_key.true in
    true_not_false there (sym (open_is c.self.inside c.args.self.now c.self.view_is c.args.view) ∙ was_closed)
