use Rattle.std.proofs.Common.{◌≡◌}
use Rattle.tree_edits.specs.Hiding.{gone_one}
use Rattle.view_model.specs.Forest.{count_of}
use Rattle.view_tree.specs.Rows.{first_tree, children_of_first, part_from, rest_from}
use Rattle.view_tree.specs.Views.{SameTree, held_of}
use Rattle.view_tree.proofs.forest.ChangingWalks.{ChangingWalk}
use Rattle.tree_edits.proofs.hiding.+hide.Given as goal

-- the views from this one down
abbrev pub decreases-hide : goal.decreases-hide
decreases-hide l = count_of (first_tree (part_from l.view l.tree.now.tree))

-- the views among the later siblings
abbrev pub decreases-loop-next : goal.decreases-loop-next
decreases-loop-next l = count_of (rest_from l.next l.tree.tree)

abbrev pub invariant-loop-next : goal.invariant-loop-next
invariant-loop-next l =
    let tree = l.fn.tree.tree in
    record {
      same : SameTree l.fn.tree l.tree;
      measures : l.tree.counts.measures ≡ l.fn.tree.counts.measures;
      walked : ChangingWalk (λ key. gone_one) tree (children_of_first (part_from l.view tree)) (held_of l.initial.tree) l.next (held_of l.tree);
    }
