use Rattle.relative_layout.specs.ordering.Topological.{CountsBelow}
use Rattle.relative_layout.proofs.ordering.topological.counts.Given as goal

abbrev pub invariant-loop-place : goal.invariant-loop-place
invariant-loop-place l = CountsBelow l.kids l._place l.left.items
