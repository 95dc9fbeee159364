use Rattle.view_tree.proofs.forest.BackwardWalks.{before}
use Rattle.view_tree.specs.node.Nodes.{has_id}
use Rattle.view_tree.specs.Rows.{children_of_first, part_from}
use Rattle.view_tree.proofs.orders.BackSearch.{BackSearch}
use Rattle.view_tree.proofs.tree.ViewTree.last_by_walk.Given as goal

abbrev pub invariant-loop-next : goal.invariant-loop-next
invariant-loop-next l = BackSearch (has_id l.id) l.self.tree (children_of_first (part_from l.view l.self.tree)) l.next

abbrev pub decreases-loop-next : goal.decreases-loop-next
decreases-loop-next l = before l.next (children_of_first (part_from l.view l.self.tree)) l.self.tree
