use Rattle.std.proofs.Common.{◌≡◌, length}
use Rattle.std.specs.List.{list_any}
use Rattle.std.specs.Prelude.{IfSome}
use Rattle.view_model.specs.Forest.{rows}
use Rattle.view_tree.specs.tree.Preorder.{rows_from, views_from}
use Rattle.view_tree.specs.Views.{IsLive, plain_of}
use Rattle.saved_state.specs.Restoring.{is_for_other_class, is_unmet}
use Rattle.saved_state.proofs.marking.has_unmarked.Given as goal

abbrev pub invariant-loop-next : goal.invariant-loop-next
invariant-loop-next l = record {
  live : IfSome l.next (λ view. IsLive l.tree view);
  left : list_any (is_unmet l.states (rows (plain_of l.tree))) (views_from l.tree l.next)
      ≡ is_for_other_class l.states (rows (plain_of l.tree));
}

abbrev pub decreases-loop-next : goal.decreases-loop-next
decreases-loop-next l = length (rows_from l.next l.tree.tree)
