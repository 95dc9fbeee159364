use Rattle.std.proofs.Common.{◌≡◌, []}
use Rattle.std.specs.Prelude.{replicate}
use Rattle.relative_layout.specs.ordering.Naming.{lists_of}
use Rattle.relative_layout.proofs.ordering.naming.empty_rows.Given as goal

abbrev pub invariant-loop-row : goal.invariant-loop-row
invariant-loop-row l = lists_of l.rows.items ≡ replicate l._row []
