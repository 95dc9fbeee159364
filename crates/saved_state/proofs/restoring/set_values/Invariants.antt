use Rattle.std.proofs.Common.{◌≡◌, ℕ}
use Rattle.std.specs.List.{fold}
use Rattle.view_tree.specs.Views.{held_of}
use Rattle.saved_state.specs.Restored.{all_set, with_text_at}
use Rattle.saved_state.proofs.restoring.set_values.Given as goal

abbrev pub invariant-loop-view : goal.invariant-loop-view
invariant-loop-view l = record {
  tree : l.tree.tree ≡ fold with_text_at l.fn.tree.tree l.yielded;
  orders : l.tree.orders ≡ l.fn.tree.orders;
  numbers : l.tree.next ≡ l.fn.tree.next;
  counts : l.tree.counts ≡ l.fn.tree.counts;
  held : (key : ℕ) → held_of l.tree key ≡ all_set l.fn.tree.tree l.yielded (held_of l.fn.tree) key;
}
