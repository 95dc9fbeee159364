use Rattle.std.proofs.Common.{◌≡◌, ℕ, Some, length}
use Rattle.std.specs.Prelude.{IfSome, map}
use Rattle.touch_dispatch.specs.gesture.Kept.{gesture_of, is_open}
use Rattle.view_tree.specs.Views.{IsLive, number_of}
use Rattle.world_parts.specs.Touching.{all_disallowed}
use Rattle.world_parts.proofs.touches.ClimbLaws.{path_from}
use Rattle.world_parts.proofs.gesture.disallow_from.Given as goal

-- the views that are still to pass
abbrev pub decreases-loop-next : goal.decreases-loop-next
decreases-loop-next l = length (path_from l.next l.tree.tree)

abbrev pub invariant-loop-next : goal.invariant-loop-next
invariant-loop-next l = record {
  live : IfSome l.next (λ key. IsLive l.tree key);
  rest : all_disallowed l.on (map (number_of l.tree) (path_from l.next l.tree.tree)) (gesture_of l.gesture)
      ≡ all_disallowed l.on (map (number_of l.tree) (path_from (Some l.view) l.tree.tree)) (gesture_of l.fn.gesture);
  opened : (other : ℕ) → is_open l.gesture other ≡ is_open l.fn.gesture other;
}
