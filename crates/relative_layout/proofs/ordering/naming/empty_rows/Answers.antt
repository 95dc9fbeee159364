use Rattle.relative_layout.proofs.orders.NamingLaws.{lists_of-push}
use Rattle.relative_layout.proofs.ordering.naming.empty_rows.Goals as goal

pub loop-row-preserved : goal.loop-row-preserved
loop-row-preserved c = rw c.in_ok-push.ensures.items (lists_of-push c.loop-row.rows.items c.new.result c.loop-row._row c.loop-row.invariant c.new.ensures.items)
