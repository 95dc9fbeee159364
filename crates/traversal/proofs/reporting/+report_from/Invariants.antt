use Rattle.std.proofs.Common.{◌≡◌}
use Rattle.view_model.specs.Forest.{count_of}
use Rattle.view_tree.specs.Rows.{children_of_first, first_tree, part_from, rest_from}
use Rattle.view_tree.specs.Views.{held_of, laid_rows}
use Rattle.view_tree.proofs.forest.Walks.{Walk}
use Rattle.traversal.specs.Reporting.{reported_over}
use Rattle.traversal.proofs.reporting.+report_from.Given as goal

abbrev pub decreases-report_from : goal.decreases-report_from
decreases-report_from l = count_of (first_tree (part_from l.view l.tree.now.tree))

-- with what is left to be reported, all will have been reported
abbrev pub invariant-loop-next : goal.invariant-loop-next
invariant-loop-next l = let part = part_from l.view l.tree.tree in record {
  walk : Walk l.tree.tree (children_of_first part) l.next;
  reported : reported_over (laid_rows (held_of l.tree) (rest_from l.next l.tree.tree)) l.hooks ≡ reported_over (laid_rows (held_of l.tree) (first_tree part)) l.fn.hooks;
}

abbrev pub decreases-loop-next : goal.decreases-loop-next
decreases-loop-next l = count_of (rest_from l.next l.tree.tree)
