use Rattle.std.proofs.Common.{◌≡◌, ℕ, ◌<◌, false, get_or}
use Rattle.relative_layout.specs.ordering.Naming.{id_at, link_at, padded_ids}
use Rattle.relative_layout.specs.ordering.Topological.{waits_for}
use Rattle.relative_layout.proofs.ordering.topological.Taking.must_wait.Given as goal

abbrev pub invariant-loop-id : goal.invariant-loop-id
invariant-loop-id l = (k : ℕ) → k < l.id-index → waits_for l.kids l.self.taken.items (id_at l.kids l.place) (get_or (padded_ids l.naming.axis (link_at l.kids l.place).rules) k 0) ≡ false
