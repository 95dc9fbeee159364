use Rattle.std.proofs.Common.{◌≡◌, ◌≤◌, length, take}
use Rattle.touch_event.specs.PointerSets.{has_id}
use Rattle.touch_event.specs.Splitting.{kept_points}
use Rattle.touch_event.proofs.splitting.kept_points.Given as goal

abbrev pub invariant-loop-point : goal.invariant-loop-point
invariant-loop-point l = record {
  kept : l.points.items ≡ kept_points (has_id l.ids) (take l.point-index l.event.points.items);
  few : length l.points.items ≤ l.point-index;
}
