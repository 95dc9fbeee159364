use Rattle.std.proofs.Common.{◌∙◌, sym}
use Rattle.touch_targets.proofs.pools.NewNodes.{room_for_one, seats_with_node, sound_with_node}
use Rattle.touch_targets.proofs.slots.ensure_node.Goals as goal

pub put_in-slot-requires-clause-room : goal.put_in-slot-requires-clause-room
put_in-slot-requires-clause-room c =
    room_for_one c.args.nodes.now c.args.slots.now c.args.view c.requires.sound c.requires.open (sym c.slot_of.ensures ∙ c.in-None.is)

pub returns-in-None-clause-sound : goal.returns-in-None-clause-sound
returns-in-None-clause-sound c =
    let e = c.put_in-slot.ensures in
    sound_with_node c.args.nodes.now c.args.slots.now c.args.view c.requires.sound c.requires.open (sym c.slot_of.ensures ∙ c.in-None.is)
    c.put_in-slot.new.nodes c.note_slot.new.slots c.put_in-slot.result e.linked e.unused e.nodes e.caught e.len e.capacity
    (rw c.to.ensures at c.note_slot.ensures.entries) (rw c.to.ensures at c.note_slot.ensures.noted)

pub returns-in-None-clause-seats : goal.returns-in-None-clause-seats
returns-in-None-clause-seats c =
    let e = c.put_in-slot.ensures in
    seats_with_node c.args.nodes.now c.args.slots.now c.args.view c.requires.sound c.requires.open (sym c.slot_of.ensures ∙ c.in-None.is)
    c.put_in-slot.new.nodes c.note_slot.new.slots c.put_in-slot.result e.linked e.unused e.nodes e.caught e.len e.capacity
    (rw c.to.ensures at c.note_slot.ensures.entries) (rw c.to.ensures at c.note_slot.ensures.noted)
