use Rattle.relative_layout.proofs.ordering.order_by.Goals as goal

pub returns-in-Ok-Cycle-clause-fault : goal.returns-in-Ok-Cycle-clause-fault
returns-in-Ok-Cycle-clause-fault c = rw c.in-Ok-Cycle.field-0-is at c.in-Ok-Cycle.ensures

pub returns-in-Ok-Order-sorted_on-clause-across : goal.returns-in-Ok-Order-sorted_on-clause-across
returns-in-Ok-Order-sorted_on-clause-across c = (rw c.in-Ok-Order.field-0-is at c.in-Ok-Order.ensures).0

pub returns-in-Ok-Order-sorted_on-clause-down : goal.returns-in-Ok-Order-sorted_on-clause-down
returns-in-Ok-Order-sorted_on-clause-down c = (rw c.in-Ok-Order-sorted_on.field-0-is at c.in-Ok-Order-sorted_on.ensures).0

pub returns-in-Ok-Order-sorted_on-clause-acyclic_across : goal.returns-in-Ok-Order-sorted_on-clause-acyclic_across
returns-in-Ok-Order-sorted_on-clause-acyclic_across c = (rw c.in-Ok-Order.field-0-is at c.in-Ok-Order.ensures).1

pub returns-in-Ok-Order-sorted_on-clause-acyclic_down : goal.returns-in-Ok-Order-sorted_on-clause-acyclic_down
returns-in-Ok-Order-sorted_on-clause-acyclic_down c = (rw c.in-Ok-Order-sorted_on.field-0-is at c.in-Ok-Order-sorted_on.ensures).1

pub returns-in-Ok-Cycle-sorted_on-clause-fault : goal.returns-in-Ok-Cycle-sorted_on-clause-fault
returns-in-Ok-Cycle-sorted_on-clause-fault c = ((rw c.in-Ok-Order.field-0-is at c.in-Ok-Order.ensures).1, rw c.in-Ok-Cycle-sorted_on.field-0-is at c.in-Ok-Cycle-sorted_on.ensures)
