use Rattle.std.proofs.Common.{◌≡◌, ◌+◌, ◌*◌}
use Rattle.seen_parts.specs.Meeting.{as_seen}
use Rattle.view_model.specs.Forest.{count_of}
use Rattle.view_tree.specs.Rows.{children_of_first, first_tree, part_from, rest_from}
use Rattle.view_tree.specs.Views.{held_of}
use Rattle.view_tree.proofs.forest.Walks.{Walk}
use Rattle.focus_finder.proofs.SightLaws.{found}
use Rattle.focus_finder.specs.Focus.{lesser}
use Rattle.focus_finder.proofs.searching.+search.Given as goal

-- one round from a view to its child goes through two functions
abbrev pub decreases-best_in_view : goal.decreases-best_in_view
decreases-best_in_view l = 2 * count_of (first_tree (part_from l.view l.tree.now.tree)) + 1

abbrev pub decreases-best_in_children : goal.decreases-best_in_children
decreases-best_in_children l = 2 * count_of (first_tree (part_from l.view l.tree.now.tree))

abbrev pub invariant-best_in_children-loop-next : goal.invariant-best_in_children-loop-next
invariant-best_in_children-loop-next l =
    let tree = l.tree.tree in
    let children = children_of_first (part_from l.view tree) in
    record {
      walk : Walk tree children l.next;
      rest : lesser l.best (found l.search (held_of l.tree) (as_seen l.canvas) (rest_from l.next tree)) ≡ lesser l.fn.best (found l.search (held_of l.tree) (as_seen l.canvas) children);
    }

abbrev pub decreases-best_in_children-loop-next : goal.decreases-best_in_children-loop-next
decreases-best_in_children-loop-next l = count_of (rest_from l.next l.tree.tree)
