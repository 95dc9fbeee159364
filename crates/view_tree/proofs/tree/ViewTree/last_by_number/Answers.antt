use Rattle.view_tree.proofs.nodes.NodeReads.{is_tree}
use Rattle.view_tree.proofs.orders.LastLaws.{last_reached}
use Rattle.view_tree.proofs.tree.ViewTree.last_by_number.Goals as goal

pub last_by_walk-requires-clause-is_tree : goal.last_by_walk-requires-clause-is_tree
last_by_walk-requires-clause-is_tree c = is_tree c.self.inside c.args.self.now c.self.invariant.planted c.self.view_is

pub returns-then-is_child_with-clause-value : goal.returns-then-is_child_with-clause-value
returns-then-is_child_with-clause-value c =
    let found = rw c.in-Some.is at c.find.ensures in
    last_reached c.self.inside c.args.self.now c.args.view c.in-Some.kid c.args.id c.args.number c.self.invariant.planted c.self.view_is c.requires.live found.live c.requires.named
    found.number (c.is_child_with.ensures.named c.if-is_child_with.true) (c.is_child_with.ensures.below c.if-is_child_with.true) c.requires.latest
