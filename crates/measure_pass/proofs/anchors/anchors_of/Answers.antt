use Rattle.std.proofs.Common.{◌≡◌, refl, Option}
use Rattle.measure_pass.specs.Siblings.{kept_spans, kids_in}
use Rattle.view_model.specs.declared.relative.Anchor.{Anchor}
use Rattle.view_model.specs.declared.relative.Tie.{Tie}
use Rattle.view_model.specs.declared.relative.Tie.TheVariants.{Before, After, AlignNear, AlignFar}
use Rattle.view_model.specs.RelativeCourse.{anchor_by}
use Rattle.view_tree.specs.Rows.{children_of_first, part_from}
use Rattle.view_tree.specs.Views.{held_of}
use Rattle.measure_pass.proofs.anchors.anchors_of.Goals as goal

pub returns-clause-anchors : goal.returns-clause-anchors
returns-clause-anchors c = λ place part.
    let turn = c.args.turn in
    let list = children_of_first (part_from turn.view c.args.tree.now.tree) in
    let by : Tie → Option Anchor = λ tie. anchor_by turn.rtl turn.axis (kids_in list) (kept_spans turn.axis (held_of c.args.tree.now) list) tie place in
    let before : c.anchor_of.result ≡ by Before = (rw c.search.ensures at c.anchor_of.ensures.anchor) place part in
    let after : c.anchor_of-2.result ≡ by After = (rw c.search-2.ensures at c.anchor_of-2.ensures.anchor) place part in
    let near : c.anchor_of-3.result ≡ by AlignNear = (rw c.search-3.ensures at c.anchor_of-3.ensures.anchor) place part in
    let far : c.anchor_of-4.result ≡ by AlignFar = (rw c.search-4.ensures at c.anchor_of-4.ensures.anchor) place part in
    rw (before, after, near, far) refl
