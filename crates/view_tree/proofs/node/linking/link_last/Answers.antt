use Rattle.std.proofs.Common.{◌∙◌, ap}
use Rattle.view_model.specs.Sprouts.{seed_of, view_of}
use Rattle.view_tree.specs.node.Nodes.{linked, plain_node_at}
use Rattle.view_tree.proofs.nodes.LinkedNodes.{hung_is}
use Rattle.view_tree.proofs.node.linking.link_last.Goals as goal

pub returns-clause-links : goal.returns-clause-links
returns-clause-links c = λ x.
    hung_is c.args.nodes.now c.insert_reserved-key.new.self c.set_next.new.nodes c.set_last.new.nodes c.args.parent c.last_of-last.result c.insert_reserved-key.result _
    (rw (c.of.ensures, c.none.ensures, c.none-2.ensures, c.none-3.ensures) at c.insert_reserved-key.ensures.updates)
    (rw (c.key.ensures, c.to.ensures) at c.set_next.ensures.links) c.set_last.ensures.links x
    ∙ ap (λ before. linked (plain_node_at c.args.nodes.now) c.args.parent c.insert_reserved-key.result
    (view_of c.args.number (seed_of c.args.sprout)) before x) c.last_of-last.ensures
