use Rattle.std.proofs.Common.{ℕ, ◌<◌, get_or}
use Rattle.view_tree.specs.Rows.{children_of_first, part_from}
use Rattle.view_tree.specs.tree.Staying.{MayName}
use Rattle.view_tree.proofs.tree.ViewTree.follows.Given as goal

abbrev pub invariant-loop-k : goal.invariant-loop-k
invariant-loop-k l = (k : ℕ) → k < l.k
    → MayName (get_or l.before k 0) (get_or l.ids k 0) l.kid.number l.kid.kids.now l.kid.order.now (children_of_first (part_from l.parent l.self.tree))
