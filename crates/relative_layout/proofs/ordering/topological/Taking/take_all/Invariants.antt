use Rattle.std.proofs.Common.{length}
use Rattle.relative_layout.specs.ordering.Naming.{lists_of}
use Rattle.relative_layout.specs.ordering.Topological.{IsTaking, effort}
use Rattle.relative_layout.proofs.ordering.topological.Taking.take_all.Given as goal

abbrev pub invariant-loop-place : goal.invariant-loop-place
invariant-loop-place l = IsTaking l.naming.axis l.kids l.self.left.items l.self.taken.items l.self.todo.items l.self.order.items

abbrev pub decreases-loop-place : goal.decreases-loop-place
decreases-loop-place l = effort (lists_of l.naming.namers.items) l.self.taken.items (length l.self.todo.items)
