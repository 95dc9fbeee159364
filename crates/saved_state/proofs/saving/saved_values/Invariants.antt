use Rattle.std.proofs.Common.{◌≡◌, ◌+◌, ◌≤◌, length}
use Rattle.std.specs.List.{AllByRecursion, fold}
use Rattle.std.specs.Prelude.{IfSome}
use Rattle.view_model.specs.Forest.{count_of}
use Rattle.view_tree.specs.tree.Preorder.{rows_from, views_from}
use Rattle.view_tree.specs.Views.{IsLive, plain_of}
use Rattle.saved_state.specs.Saving.{FitsOffset, saved_of, with_view}
use Rattle.saved_state.specs.State.{RisesFrom}
use Rattle.saved_state.specs.Numbers.{last_version}
use Rattle.saved_state.proofs.saving.saved_values.Given as goal

abbrev pub invariant-loop-next : goal.invariant-loop-next
invariant-loop-next l = record {
  live : IfSome l.next (λ view. IsLive l.tree view);
  fit : AllByRecursion FitsOffset (views_from l.tree l.next);
  rises : RisesFrom last_version 0 l.saved.entries;
  few : length l.saved.entries + length (rows_from l.next l.tree.tree) ≤ count_of l.tree.tree;
  left : fold with_view l.saved.entries (views_from l.tree l.next) ≡ saved_of (plain_of l.tree);
}

abbrev pub decreases-loop-next : goal.decreases-loop-next
decreases-loop-next l = length (rows_from l.next l.tree.tree)
