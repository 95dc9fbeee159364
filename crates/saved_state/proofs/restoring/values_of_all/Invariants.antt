use Rattle.std.proofs.Common.{◌≡◌, ◌++◌, All, length}
use Rattle.std.specs.Prelude.{IfSome}
use Rattle.view_model.specs.Forest.{rows}
use Rattle.view_tree.specs.tree.Preorder.{rows_from}
use Rattle.view_tree.specs.Views.{IsLive, IsTree}
use Rattle.saved_state.specs.Restored.{given_values}
use Rattle.saved_state.specs.State.{IsValue}
use Rattle.saved_state.proofs.restoring.values_of_all.Given as goal

abbrev pub invariant-loop-next : goal.invariant-loop-next
invariant-loop-next l = record {
  live : IfSome l.next (λ view. IsLive l.tree view);
  is_tree : IsTree l.tree;
  fit : All (λ set. IsValue set.1) l.values.items;
  left : l.values.items ++ given_values l.states l.tree.tree (rows_from l.next l.tree.tree) ≡ given_values l.states l.tree.tree (rows l.tree.tree);
}

abbrev pub decreases-loop-next : goal.decreases-loop-next
decreases-loop-next l = length (rows_from l.next l.tree.tree)
