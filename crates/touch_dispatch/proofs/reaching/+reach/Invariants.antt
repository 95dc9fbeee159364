use Rattle.std.proofs.Common.{◌≡◌, ◌+◌, ◌*◌, false, length}
use Rattle.view_model.specs.Forest.{count_of}
use Rattle.view_tree.proofs.forest.BackwardWalks.{before}
use Rattle.view_tree.specs.Rows.{first_tree, part_from, children_of_first}
use Rattle.touch_dispatch.proofs.steps.TryWalk.{TryWalk}
use Rattle.touch_dispatch.specs.reaching.Delivery.{delivered_targets, own_targets}
use Rattle.touch_dispatch.specs.gesture.Kept.{gesture_of}
use Rattle.touch_dispatch.specs.reaching.TreeEvents.{KeepsScene, own_of, progress_of}
use Rattle.touch_targets.specs.Captures.{first_child, targets_from}
use Rattle.touch_dispatch.proofs.reaching.+reach.Given as goal

abbrev pub decreases-reach : goal.decreases-reach
decreases-reach l = 8 * count_of (first_tree (part_from l.delivery.now.view l.tree.now.tree)) + 6

abbrev pub decreases-group::reach_group : goal.decreases-group::reach_group
decreases-group::reach_group l = 8 * count_of (first_tree (part_from l.delivery.now.view l.tree.now.tree)) + 5

abbrev pub decreases-children::offer : goal.decreases-children::offer
decreases-children::offer l = 8 * count_of (first_tree (part_from l.delivery.now.view l.tree.now.tree)) + 4

abbrev pub decreases-group::answer : goal.decreases-group::answer
decreases-group::answer l = 8 * count_of (first_tree (part_from l.shared.now.delivery.now.view l.tree.now.tree)) + 4

abbrev pub decreases-children::try_children : goal.decreases-children::try_children
decreases-children::try_children l = 8 * count_of (first_tree (part_from l.delivery.now.view l.tree.now.tree)) + 3

abbrev pub decreases-targets::deliver : goal.decreases-targets::deliver
decreases-targets::deliver l = 8 * count_of (first_tree (part_from l.shared.now.delivery.now.view l.tree.now.tree)) + 3

abbrev pub decreases-children::try_child : goal.decreases-children::try_child
decreases-children::try_child l = 8 * count_of (first_tree (part_from l.delivery.now.view l.tree.now.tree)) + 2

abbrev pub decreases-targets::deliver_to : goal.decreases-targets::deliver_to
decreases-targets::deliver_to l = 8 * count_of (first_tree (part_from l.shared.now.delivery.now.view l.tree.now.tree)) + 2

abbrev pub invariant-children::try_children-loop-next : goal.invariant-children::try_children-loop-next
invariant-children::try_children-loop-next l = record {
  kept : KeepsScene l.fn.tree l.tree l.fn.gesture l.gesture l.fn.log l.log;
  walked : TryWalk l.fn.tree l.delivery.slop l.delivery.view l.delivery.event.now l.next (progress_of l.fn.tree l.fn.gesture l.fn.log) (progress_of l.tree l.gesture l.log);
}

abbrev pub decreases-children::try_children-loop-next : goal.decreases-children::try_children-loop-next
decreases-children::try_children-loop-next l = before l.next (children_of_first (part_from l.delivery.view l.tree.tree)) l.tree.tree

abbrev pub invariant-targets::deliver-loop-next : goal.invariant-targets::deliver-loop-next
invariant-targets::deliver-loop-next l =
    let view = l.shared.delivery.now.view in
    let targets = own_targets l.fn.tree l.fn.gesture view in
    record {
      kept : KeepsScene l.fn.tree l.tree l.fn.gesture l.gesture l.fn.log l.log;
      group : l.group ≡ (own_of l.fn.tree view).number;
      same : (gesture_of l.gesture).targets (own_of l.fn.tree view).number ≡ targets;
      next : l.next ≡ first_child (targets_from l.next targets);
      rest : delivered_targets l.fn.tree l.shared (targets_from l.next targets) l.yes (progress_of l.tree l.gesture l.log)
          ≡ delivered_targets l.fn.tree l.shared targets false (progress_of l.fn.tree l.fn.gesture l.fn.log);
    }

abbrev pub decreases-targets::deliver-loop-next : goal.decreases-targets::deliver-loop-next
decreases-targets::deliver-loop-next l = length (targets_from l.next ((gesture_of l.gesture).targets l.group))
