use Rattle.std.proofs.Common.{◌≡◌, ℕ, ◌+◌, ◌≤◌, ◌++◌, List, length}
use Rattle.view_model.specs.Cycles.{member_from}
use Rattle.sibling_orders.specs.declared.groups.SiblingOrders.{SiblingOrders}
use Rattle.view_tree.specs.tree.Grafting.{AreEntries, HasAdded, cycle_in}
use Rattle.view_tree.proofs.tree.relatives.with_entries.Given as goal

abbrev pub invariant-loop-sprout : goal.invariant-loop-sprout
invariant-loop-sprout l = record {
  cycle : cycle_in (member_from l.next) l.number l.rest ≡ cycle_in (member_from l.next) l.next l.fn.sprouts;
  made : (tail : List (ℕ × SiblingOrders)) → AreEntries l.number l.rest tail → HasAdded l.fn.entries.items (l.entries.items ++ tail) (AreEntries l.next l.fn.sprouts);
  count : l.number + length l.rest ≡ l.next + length l.fn.sprouts;
  late : l.next ≤ l.number;
}

abbrev pub decreases-loop-sprout : goal.decreases-loop-sprout
decreases-loop-sprout l = length l.rest
