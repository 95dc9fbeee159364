use Rattle.std.proofs.Common.{◌∷◌, [], append_assoc, arith, length-append}
use Rattle.world_parts.specs.Pointers.{points_above, points_below}
use Rattle.world_parts.proofs.touches.PointerLaws.{has_room, with_down}
use Rattle.world_parts.proofs.pointers.event_at.Goals as goal

pub put_below-requires : goal.put_below-requires
put_below-requires c =
    let room = has_room c.args.point c.args.points.now c.requires.down c.requires.id in
    rw c.new.ensures (omega (arith, room))

pub push-requires : goal.push-requires
push-requires c =
    let room = has_room c.args.point c.args.points.now c.requires.down c.requires.id in
    rw (c.put_below.ensures, c.new.ensures) (omega (arith, room))

pub put_above-requires : goal.put_above-requires
put_above-requires c =
    let room = has_room c.args.point c.args.points.now c.requires.down c.requires.id in
    let one_more = length-append (points_below c.args.point.id c.args.points.now) (c.args.point ∷ []) in
    rw (c.push.ensures.items, c.put_below.ensures, c.new.ensures) (omega (arith, room, one_more))

pub returns-clause-down : goal.returns-clause-down
returns-clause-down c =
    let below = points_below c.args.point.id c.args.points.now in
    let above = points_above c.args.point.id c.args.points.now in
    rw (c.put_above.ensures, c.push.ensures.items, c.put_below.ensures, c.new.ensures, append_assoc below (c.args.point ∷ []) above)
    (with_down c.args.point c.args.points.now c.requires.down c.requires.id)
