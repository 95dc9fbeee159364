use Rattle.text_lines.proofs.Items.{items_none, items_more, items_all}
use Rattle.axml_reader.specs.Dump.{id_line}
use Rattle.axml_reader.proofs.dump.put_id_lines.Goals as goal

pub loop-id-init : goal.loop-id-init
loop-id-init g c = items_none id_line _ _

pub loop-id-preserved : goal.loop-id-preserved
loop-id-preserved g c = items_more id_line c.args.ids.now c.loop-id.id-index _ c.loop-id-test.true c.loop-id.invariant c.put_id_line.ensures

pub returns : goal.returns
returns g c = items_all id_line c.args.ids.now c.loop-id.id-index c.loop-id-test.false c.loop-id.invariant
