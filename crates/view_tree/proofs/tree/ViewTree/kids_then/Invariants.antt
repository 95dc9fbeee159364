use Rattle.std.proofs.Common.{◌≡◌, ◌++◌}
use Rattle.view_model.specs.Cycles.{links_in, numbers_in}
use Rattle.view_model.specs.Forest.{count_of}
use Rattle.view_tree.specs.Rows.{children_of_first, part_from, rest_from, views_of}
use Rattle.view_tree.proofs.forest.Walks.{Walk}
use Rattle.view_tree.proofs.tree.ViewTree.kids_then.Given as goal

abbrev pub invariant-loop-next : goal.invariant-loop-next
invariant-loop-next l = record {
  walk : Walk l.self.tree (children_of_first (part_from l.parent l.self.tree)) l.next;
  links : l.kids.links.items ++ links_in (views_of (rest_from l.next l.self.tree)) ≡ links_in (views_of (children_of_first (part_from l.parent l.self.tree)));
  numbers : l.kids.numbers.items ++ numbers_in (views_of (rest_from l.next l.self.tree)) ≡ numbers_in (views_of (children_of_first (part_from l.parent l.self.tree)));
}

abbrev pub decreases-loop-next : goal.decreases-loop-next
decreases-loop-next l = count_of (rest_from l.next l.self.tree)
