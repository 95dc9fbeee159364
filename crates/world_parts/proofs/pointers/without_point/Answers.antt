use Rattle.std.proofs.Common.{arith}
use Rattle.std.proofs.lemmas.List.{take_all}
use Rattle.std.specs.Prelude.{◌==◌, not}
use Rattle.touch_event.specs.declared.event.Point.{Point}
use Rattle.world_parts.proofs.touches.PointerLaws.{filtered_down}
use Rattle.world_parts.proofs.pointers.without_point.Goals as goal

pub returns-clause-down : goal.returns-clause-down
returns-clause-down c =
    let all = take_all c.loop-point.point-index c.args.points.now (omega (arith, c.loop-point-test.false)) in
    rw (c.loop-point.invariant.kept, all) (filtered_down (λ (p : Point). not (p.id == c.args.id)) c.args.points.now c.requires.down)
