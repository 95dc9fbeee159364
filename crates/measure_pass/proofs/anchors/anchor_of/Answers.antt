use Rattle.std.proofs.Common.{ap, ◌∙◌}
use Rattle.measure_pass.proofs.relatives.AnchorKeys.{unnamed}
use Rattle.view_model.specs.declared.facts.Facts.{Facts}
use Rattle.view_model.specs.SiblingRules.{anchor_id}
use Rattle.view_tree.specs.Rows.{children_of_first, part_from}
use Rattle.view_tree.specs.Views.{held_of}
use Rattle.measure_pass.proofs.anchors.anchor_of.Goals as goal

pub returns-then-id-eq0-clause-anchor : goal.returns-then-id-eq0-clause-anchor
returns-then-id-eq0-clause-anchor c = λ place part.
    let tree = c.args.tree.now.tree in
    unnamed tree (children_of_first (part_from c.args.search.view tree)) c.args.kid place c.args.search.rtl c.args.search.axis (held_of c.args.tree.now) c.args.search.tie c.anchor_id-id.result c.requires.search.kid part
    (c.anchor_id-id.ensures ∙ ap (λ (facts : Facts). anchor_id c.args.search.rtl c.args.search.axis c.args.search.tie facts.rules) c.facts.ensures.value) c.if-id-eq0.true
