use Rattle.text_lines.proofs.Items.{items_none, items_more, items_all}
use Rattle.axml_reader.specs.Dump.{escaped}
use Rattle.axml_reader.proofs.dump.put_escaped_bytes.Goals as goal

pub loop-byte-init : goal.loop-byte-init
loop-byte-init g c = items_none escaped _ _

pub loop-byte-preserved : goal.loop-byte-preserved
loop-byte-preserved g c = items_more escaped c.args.string.now c.loop-byte.byte-index _ c.loop-byte-test.true c.loop-byte.invariant c.put_escaped.ensures

pub returns : goal.returns
returns g c = items_all escaped c.args.string.now c.loop-byte.byte-index c.loop-byte-test.false c.loop-byte.invariant
