use Rattle.view_model.specs.Orders.{AreMembers}
use Rattle.view_model.specs.SiblingRules.{leads}
use Rattle.relative_layout.proofs.ordering.members.Given as goal

abbrev pub invariant-loop-place : goal.invariant-loop-place
invariant-loop-place l = AreMembers (leads l.naming.axis l.kids) l.place l.members.items
