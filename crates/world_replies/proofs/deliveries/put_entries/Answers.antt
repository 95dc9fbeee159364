use Rattle.std.proofs.Common.{ap}
use Rattle.text_lines.proofs.Sending.{sends_as}
use Rattle.text_lines.proofs.Items.{items_none, items_more, items_all}
use Rattle.world_replies.specs.Deliveries.{entry_text}
use Rattle.world_replies.proofs.deliveries.put_entries.Goals as goal

pub loop-entry-init : goal.loop-entry-init
loop-entry-init g c = items_none entry_text _ _

pub loop-entry-preserved : goal.loop-entry-preserved
loop-entry-preserved g c =
    items_more entry_text c.args.entries.now c.loop-entry.entry-index _ c.loop-entry-test.true c.loop-entry.invariant
    (sends_as (ap entry_text c.entry-item.is) c.put_entry.ensures)

pub returns : goal.returns
returns g c = items_all entry_text c.args.entries.now c.loop-entry.entry-index c.loop-entry-test.false c.loop-entry.invariant
