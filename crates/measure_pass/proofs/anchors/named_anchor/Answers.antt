use Rattle.measure_pass.proofs.relatives.AnchorKeys.{anchor_none, anchor_some}
use Rattle.view_tree.specs.Rows.{children_of_first, part_from}
use Rattle.view_tree.specs.Views.{held_of}
use Rattle.measure_pass.proofs.anchors.named_anchor.Goals as goal

pub returns-in-None-clause-anchor : goal.returns-in-None-clause-anchor
returns-in-None-clause-anchor c = λ place part.
    let tree = c.args.tree.now.tree in
    anchor_none tree (children_of_first (part_from c.args.search.view tree)) c.args.search.rtl c.args.search.axis (held_of c.args.tree.now) c.args.search.tie place (rw c.in-None.is at (c.anchor_key.ensures.key place part))

pub returns-in-Some-clause-anchor : goal.returns-in-Some-clause-anchor
returns-in-Some-clause-anchor c = λ place part.
    let tree = c.args.tree.now.tree in
    anchor_some tree (children_of_first (part_from c.args.search.view tree)) c.args.search.rtl c.args.search.axis (held_of c.args.tree.now) c.args.search.tie place c.in-Some.anchor c.anchor_with.result
    (rw c.in-Some.is at (c.anchor_key.ensures.key place part)) c.anchor_with.ensures
