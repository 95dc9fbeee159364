use Rattle.relative_layout.specs.ordering.Naming.{AreNamers, lists_of}
use Rattle.relative_layout.proofs.ordering.naming.namers.Given as goal

abbrev pub invariant-loop-place : goal.invariant-loop-place
invariant-loop-place l = AreNamers l.axis l.kids l.place (lists_of l.rows.items)
