use Rattle.std.proofs.Common.{◌≡◌, ◌++◌, take}
use Rattle.world_parts.specs.Pointers.{points_above}
use Rattle.world_parts.proofs.pointers.put_above.Given as goal

abbrev pub invariant-loop-point : goal.invariant-loop-point
invariant-loop-point l = l.all.items ≡ l.fn.all.items ++ points_above l.id (take l.point-index l.points)
