use Rattle.std.proofs.Common.{◌≡◌, ◌≤◌, length, map, take}
use Rattle.touch_dispatch.specs.reaching.Points.{local_point}
use Rattle.touch_event.specs.PointerSets.{has_id}
use Rattle.touch_event.specs.Splitting.{kept_points}
use Rattle.touch_dispatch.proofs.reaching.points.put_points.Given as goal

abbrev pub invariant-loop-point : goal.invariant-loop-point
invariant-loop-point l = record {
  kept : l.points.items ≡ map (local_point l.rect l.own.offset) (kept_points (has_id l.ids) (take l.point-index l.event.points.items));
  few : length l.points.items ≤ l.point-index;
}
