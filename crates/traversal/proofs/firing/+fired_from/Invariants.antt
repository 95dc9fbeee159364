use Rattle.std.proofs.Common.{◌≡◌}
use Rattle.view_model.specs.Forest.{count_of}
use Rattle.view_tree.specs.Rows.{children_of_first, first_tree, part_from, rest_from}
use Rattle.view_tree.specs.Views.{held_of, laid_rows}
use Rattle.view_tree.proofs.forest.Walks.{Walk}
use Rattle.traversal.specs.Frames.{fired_in}
use Rattle.traversal.proofs.firing.+fired_from.Given as goal

abbrev pub decreases-fired_from : goal.decreases-fired_from
decreases-fired_from l = count_of (first_tree (part_from l.view l.tree.now.tree))

-- what fires first below the view fires first in what is left
abbrev pub invariant-loop-next : goal.invariant-loop-next
invariant-loop-next l =
    let below = children_of_first (part_from l.view l.tree.tree) in
    record {
      walk : Walk l.tree.tree below l.next;
      rest : fired_in l.hooks (laid_rows (held_of l.tree) (rest_from l.next l.tree.tree)) ≡ fired_in l.hooks (laid_rows (held_of l.tree) below);
    }

abbrev pub decreases-loop-next : goal.decreases-loop-next
decreases-loop-next l = count_of (rest_from l.next l.tree.tree)
