use Rattle.text_lines.proofs.Items.{items_none, items_more, items_all}
use Rattle.axml_reader.specs.Dump.{node_lines}
use Rattle.axml_reader.proofs.dump.put_each_node.Goals as goal

pub loop-node-init : goal.loop-node-init
loop-node-init g c = items_none (node_lines c.args.attrs.now) _ _

pub loop-node-preserved : goal.loop-node-preserved
loop-node-preserved g c = items_more (node_lines c.args.attrs.now) c.args.nodes.now c.loop-node.node-index _ c.loop-node-test.true c.loop-node.invariant c.put_node_lines.ensures

pub returns : goal.returns
returns g c = items_all (node_lines c.args.attrs.now) c.args.nodes.now c.loop-node.node-index c.loop-node-test.false c.loop-node.invariant
