use Rattle.std.proofs.Common.{◌≡◌, map, take}
use Rattle.touch_dispatch.specs.reaching.Points.{local_point}
use Rattle.touch_dispatch.proofs.reaching.points.local_event.Given as goal

abbrev pub invariant-loop-point : goal.invariant-loop-point
invariant-loop-point l = l.points.items ≡ map (local_point l.rect l.own.offset) (take l.point-index l.event.points.items)
