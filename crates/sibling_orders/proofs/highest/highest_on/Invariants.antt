use Rattle.std.proofs.Common.{ℕ, ◌<◌, ◌≤◌, get_or}
use Rattle.relative_layout.specs.ordering.Naming.{padded_ids}
use Rattle.sibling_orders.proofs.highest.highest_on.Given as goal

abbrev pub invariant-loop-id : goal.invariant-loop-id
invariant-loop-id l = (k : ℕ) → k < l.id-index → get_or (padded_ids l.fn.axis l.rules) k 0 ≤ l.highest
