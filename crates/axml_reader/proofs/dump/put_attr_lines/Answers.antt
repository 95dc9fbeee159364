use Rattle.text_lines.proofs.Items.{items_none, items_more, items_all}
use Rattle.axml_reader.specs.Dump.{attr_line}
use Rattle.axml_reader.proofs.dump.put_attr_lines.Goals as goal

pub loop-attr-init : goal.loop-attr-init
loop-attr-init g c = items_none attr_line _ _

pub loop-attr-preserved : goal.loop-attr-preserved
loop-attr-preserved g c = items_more attr_line c.args.attrs.now c.loop-attr.attr-index _ c.loop-attr-test.true c.loop-attr.invariant c.put_attr_line.ensures

pub returns : goal.returns
returns g c = items_all attr_line c.args.attrs.now c.loop-attr.attr-index c.loop-attr-test.false c.loop-attr.invariant
