use Rattle.std.proofs.Common.{◌≡◌, ℕ, ◌<◌, Some, get_or}
use Rattle.relative_layout.specs.ordering.Naming.{AreNamers, Has, id_at, link_at, lists_of, padded_ids, row_at}
use Rattle.view_model.specs.SiblingRules.{last_with_id}
use Rattle.relative_layout.proofs.ordering.naming.add_names.Given as goal

abbrev pub invariant-loop-id : goal.invariant-loop-id
invariant-loop-id l = record {
  rows : AreNamers l.fn.axis l.kids l.place (lists_of l.rows.items);
  added : (k q : ℕ) → k < l.id-index → last_with_id l.kids (id_at l.kids q) ≡ Some q → id_at l.kids q ≡ get_or (padded_ids l.fn.axis (link_at l.kids l.place).rules) k 0
      → Has (row_at (lists_of l.rows.items) q) l.place;
}
