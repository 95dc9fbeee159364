use Rattle.relative_layout.proofs.orders.NamingLaws.{AreNamers-none}
use Rattle.relative_layout.proofs.ordering.naming.namers.Goals as goal

pub loop-place-init : goal.loop-place-init
loop-place-init c = rw c.in_ok-rows.ensures (AreNamers-none c.args.axis c.args.kids.now)

pub add_names-requires-clause-table : goal.add_names-requires-clause-table
add_names-requires-clause-table c = c.requires.table

pub add_names-requires-clause-rows : goal.add_names-requires-clause-rows
add_names-requires-clause-rows c = c.loop-place.invariant

pub loop-place-preserved : goal.loop-place-preserved
loop-place-preserved c = c.in_ok-add_names.ensures
