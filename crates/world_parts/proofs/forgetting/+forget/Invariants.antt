use Rattle.std.proofs.Common.{◌≡◌, ℕ}
use Rattle.std.specs.Prelude.{◌&&◌, not}
use Rattle.touch_dispatch.specs.gesture.Kept.{gesture_of, is_open}
use Rattle.view_model.specs.Forest.{count_of}
use Rattle.view_tree.specs.Rows.{children_of_first, first_tree, part_from, rest_from}
use Rattle.view_tree.proofs.forest.Walks.{Walk}
use Rattle.world_parts.specs.Places.{all_disarmed}
use Rattle.world_parts.specs.Touching.{all_closed, is_among}
use Rattle.world_parts.proofs.edits.ForgettingLaws.{numbers_in}
use Rattle.world_parts.proofs.forgetting.+forget.Given as goal

abbrev pub decreases-forget : goal.decreases-forget
decreases-forget l = count_of (first_tree (part_from l.view l.tree.now.tree))

-- with what is left to be forgotten, everything will have been
abbrev pub invariant-loop-next : goal.invariant-loop-next
invariant-loop-next l =
    let part = part_from l.view l.tree.tree in
    let rest = numbers_in (rest_from l.next l.tree.tree) in
    let all = numbers_in (first_tree part) in
    record {
      walk : Walk l.tree.tree (children_of_first part) l.next;
      hooks : all_disarmed rest l.hooks ≡ all_disarmed all l.fn.hooks;
      gesture : all_closed rest (gesture_of l.gesture) ≡ all_closed all (gesture_of l.fn.gesture);
      opened : (other : ℕ) → (is_open l.gesture other && not (is_among other rest)) ≡ (is_open l.fn.gesture other && not (is_among other all));
    }

abbrev pub decreases-loop-next : goal.decreases-loop-next
decreases-loop-next l = count_of (rest_from l.next l.tree.tree)
