use Rattle.std.proofs.Common.{◌∙◌, ap, inl, inr, sym}
use Rattle.view_tree.specs.node.Nodes.{plain_node_in}
use Rattle.view_tree.proofs.nodes.UnlinkedNodes.{still, unhung_is}
use Rattle.view_tree.proofs.node.linking.unlink.Goals as goal

pub set_next-requires : goal.set_next-requires
set_next-requires c = λ k e.
    let p = c.requires.around _ k (ap plain_node_in c.remove-node.ensures.value) (inr (inl (sym c.key.ensures ∙ e))) in
    rw (c.remove-node.ensures.updates.others k p.1) p.0

pub set_previous-requires : goal.set_previous-requires
set_previous-requires c = λ k e.
    let p = c.requires.around _ k (ap plain_node_in c.remove-node.ensures.value) (inr (inr (sym c.key-2.ensures ∙ e))) in
    still c.remove-node.new.self c.set_next.new.nodes _ _ k (c.set_next.ensures.links k) (rw (c.remove-node.ensures.updates.others k p.1) p.0)

pub set_ends-requires : goal.set_ends-requires
set_ends-requires c = λ k e.
    let p = c.requires.around _ k (ap plain_node_in c.remove-node.ensures.value) (inl (sym c.key-3.ensures ∙ e)) in
    still c.set_next.new.nodes c.set_previous.new.nodes _ _ k (c.set_previous.ensures.links k)
    (still c.remove-node.new.self c.set_next.new.nodes _ _ k (c.set_next.ensures.links k) (rw (c.remove-node.ensures.updates.others k p.1) p.0))

pub returns-clause-links : goal.returns-clause-links
returns-clause-links c =
    unhung_is c.args.nodes.now c.remove-node.new.self c.set_next.new.nodes c.set_previous.new.nodes c.set_ends.new.nodes c.args.key c.remove-node.result
    c.remove-node.ensures.value c.remove-node.ensures.updates (rw c.key.ensures at c.set_next.ensures.links) (rw c.key-2.ensures at c.set_previous.ensures.links) (rw c.key-3.ensures at c.set_ends.ensures.links)
