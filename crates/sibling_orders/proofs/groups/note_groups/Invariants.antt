use Rattle.std.proofs.Common.{◌≡◌, ◌≤◌, ℕ, length}
use Rattle.std.specs.Vec.Iter.{into_iter_items}
use Rattle.indexmap.specs.IndexMap.{spare}
use Rattle.sibling_orders.specs.Ordering.{noted, group_at}
use Rattle.sibling_orders.proofs.groups.note_groups.Given as goal

abbrev pub invariant-loop-number : goal.invariant-loop-number
invariant-loop-number l = record {
  room : length (into_iter_items l.number-iterator) ≤ spare l.groups;
  noted : (k : ℕ) → noted (into_iter_items l.number-iterator) k (group_at l.groups k) ≡ noted l.fn.entries.items k (group_at l.fn.groups k);
}
