use Rattle.std.proofs.Common.{length-append, take, arith}
use Rattle.std.specs.Prelude.{nat_lt}
use Rattle.std.proofs.lemmas.Bool.{lt-ltb}
use Rattle.touch_event.specs.declared.event.Point.{Point}
use Rattle.world_parts.specs.Pointers.{points_below}
use Rattle.world_parts.proofs.touches.PointerLaws.{room_next}
use Rattle.world_parts.proofs.pointers.put_below.Goals as goal

pub push-requires : goal.push-requires
push-requires c =
    let room = room_next (λ (p : Point). nat_lt p.id c.args.id) c.args.points.now c.loop-point.point-index _ c.loop-point-test.true (lt-ltb _ _ c.if-point-id.true) in
    (omega arith, rw c.loop-point.invariant (omega (arith, room, length-append c.args.all.now.items (points_below c.args.id (take c.loop-point.point-index c.args.points.now)))))
