use Rattle.std.proofs.Common.{◌≡◌, ◌≤◌, length, take}
use Rattle.world_parts.specs.Pointers.{without_point}
use Rattle.world_parts.proofs.pointers.without_point.Given as goal

abbrev pub invariant-loop-point : goal.invariant-loop-point
invariant-loop-point l = record {
  kept : l.others.items ≡ without_point l.id (take l.point-index l.points);
  few : length l.others.items ≤ l.point-index;
}
