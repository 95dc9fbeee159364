use Rattle.std.proofs.Common.{◌≡◌, ℕ, ◌<◌, ◌≤◌, ◌||◌, false, length, slice_index_or}
use Rattle.std.specs.Prelude.{IfSome}
use Rattle.view_model.specs.Forest.{rows}
use Rattle.view_tree.specs.tree.Preorder.{rows_from, views_from}
use Rattle.view_tree.specs.Views.{IsLive, plain_of}
use Rattle.saved_state.specs.Restoring.{entry_at, is_met}
use Rattle.saved_state.proofs.marking.mark_all.Given as goal

abbrev pub invariant-loop-next : goal.invariant-loop-next
invariant-loop-next l = record {
  live : IfSome l.next (λ view. IsLive l.tree view);
  sized : length l.states ≤ length l.marks;
  left : (place : ℕ) → place < length l.states
      → (slice_index_or l.marks place false || is_met (entry_at l.states place) (views_from l.tree l.next)) ≡ is_met (entry_at l.states place) (rows (plain_of l.tree));
}

abbrev pub decreases-loop-next : goal.decreases-loop-next
decreases-loop-next l = length (rows_from l.next l.tree.tree)
