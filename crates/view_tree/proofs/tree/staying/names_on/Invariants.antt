use Rattle.std.proofs.Common.{◌≢◌, ℕ, ◌<◌, get_or}
use Rattle.relative_layout.specs.ordering.Naming.{padded_ids}
use Rattle.view_tree.proofs.tree.staying.names_on.Given as goal

abbrev pub invariant-loop-named : goal.invariant-loop-named
invariant-loop-named l = (k : ℕ) → k < l.named-index → get_or (padded_ids l.fn.axis l.rules) k 0 ≢ l.id
