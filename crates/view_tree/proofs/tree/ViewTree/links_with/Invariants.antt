use Rattle.std.proofs.Common.{◌≡◌, ◌++◌}
use Rattle.view_model.specs.Forest.{count_of}
use Rattle.sibling_orders.specs.Ordering.{linked_in}
use Rattle.view_tree.specs.Rows.{children_of_first, part_from, rest_from, views_of}
use Rattle.view_tree.proofs.forest.Walks.{Walk}
use Rattle.view_tree.proofs.tree.ViewTree.links_with.Given as goal

abbrev pub invariant-loop-next : goal.invariant-loop-next
invariant-loop-next l = record {
  walk : Walk l.self.tree (children_of_first (part_from l.parent l.self.tree)) l.next;
  gathered : l.links.items ++ linked_in l.number l.link (views_of (rest_from l.next l.self.tree)) ≡ linked_in l.number l.link (views_of (children_of_first (part_from l.parent l.self.tree)));
}

abbrev pub decreases-loop-next : goal.decreases-loop-next
decreases-loop-next l = count_of (rest_from l.next l.self.tree)
