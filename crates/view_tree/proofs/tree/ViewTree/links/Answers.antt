use Rattle.view_tree.proofs.nodes.NodeReads.{contains_live, first_is, is_tree, last_is, last_of, next_is, parent_of, previous_of}
use Rattle.view_tree.proofs.tree.ViewTree.links.Goals as goal

pub index-requires : goal.index-requires
index-requires c = contains_live c.self.inside c.args.self.now c.args.view c.self.invariant.planted c.self.view_is c.requires

pub returns : goal.returns
returns c =
    let a = c.self.inside in
    let v = c.args.self.now in
    let key = c.args.view in
    let up = parent_of a v key c.self.invariant.planted c.self.view_is c.requires c.index.result.now c.index.ensures in
    let first = first_is a v key c.self.invariant.planted c.self.view_is c.requires c.index.result.now c.index.ensures in
    let next = next_is a v key c.self.invariant.planted c.self.view_is c.requires c.index.result.now c.index.ensures in
    let before = previous_of a v key c.self.invariant.planted c.self.view_is c.requires c.index.result.now c.index.ensures in
    record {
      links = record {
        path = up.path;
        first = first.0;
        below = first.1.is;
        last = last_is a v key c.self.invariant.planted c.self.view_is c.requires c.index.result.now c.index.ensures;
        previous = before.0;
        next = next.0;
        after = next.1.is;
        parent_live = up.live;
        first_live = first.1.live;
        last_live = last_of a v key c.self.invariant.planted c.self.view_is c.requires c.index.result.now c.index.ensures;
        previous_live = before.1;
        next_live = next.1.live;
      };
      is_tree = is_tree a v c.self.invariant.planted c.self.view_is;
    }
