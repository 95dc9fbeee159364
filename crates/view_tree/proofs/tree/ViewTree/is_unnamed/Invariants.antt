use Rattle.view_model.specs.Forest.{count_of}
use Rattle.view_tree.specs.Rows.{children_of_first, part_from, rest_from}
use Rattle.view_tree.specs.tree.Staying.{NamesNone}
use Rattle.view_tree.proofs.forest.Walks.{Walk}
use Rattle.view_tree.proofs.tree.ViewTree.is_unnamed.Given as goal

abbrev pub invariant-loop-next : goal.invariant-loop-next
invariant-loop-next l = record {
  walk : Walk l.self.tree (children_of_first (part_from l.parent l.self.tree)) l.next;
  none : NamesNone l.id (rest_from l.next l.self.tree) → NamesNone l.id (children_of_first (part_from l.parent l.self.tree));
}

abbrev pub decreases-loop-next : goal.decreases-loop-next
decreases-loop-next l = count_of (rest_from l.next l.self.tree)
