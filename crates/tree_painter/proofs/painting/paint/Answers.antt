use Rattle.std.proofs.Common.{◌≡◌, ap, sym, ◌∙◌, arith}
use Rattle.view_tree.specs.Rows.{first_tree, part_from}
use Rattle.tree_painter.specs.Painted.{IsCounted, area_in, share_of}
use Rattle.tree_painter.proofs.AreaLaws.{area_in-same, counted_fill, counted_same, counted_then}
use Rattle.view_tree.proofs.forest.RootLaws.{whole_first}
use Rattle.tree_painter.proofs.TreeLaws.{share_of_all, whole_none, whole_some}
use Rattle.tree_painter.proofs.painting.paint.Goals as goal

pub returns-in-Some-clause-painted : goal.returns-in-Some-clause-painted
returns-in-Some-clause-painted c =
    let part = rw c.in-Some.is at c.root.ensures.part in
    whole_some c.args.tree.now c.args.damage c.args.surface.now c.fill.new.self c.root.ensures.is_tree c.fill.ensures.fills c.paint_view.new.surface c.in-Some.root
    (ap first_tree part ∙ whole_first c.args.tree.now.tree c.root.ensures.is_tree.root) c.paint_view.ensures.painted

pub returns-in_default-clause-painted : goal.returns-in_default-clause-painted
returns-in_default-clause-painted c =
    whole_none c.args.tree.now c.args.damage c.args.surface.now c.fill.new.self c.root.ensures.is_tree c.fill.ensures.fills (sym c.in_default.ensures.part)

pub returns-in-Some-clause-counted : goal.returns-in-Some-clause-counted
returns-in-Some-clause-counted c =
    let start = c.args.surface.now in
    let mid = c.fill.new.self in
    let tree = c.args.tree.now.tree in
    let area = area_in start c.args.damage in
    let part = rw c.in-Some.is at c.root.ensures.part in
    let same : first_tree (part_from c.in-Some.root tree) ≡ tree = ap first_tree part ∙ whole_first tree c.root.ensures.is_tree.root in
    let fill : IsCounted area start mid c.args.work.now c.fill.new.work =
    counted_fill area c.args.damage _ start mid c.args.work.now c.fill.new.work c.fill.ensures.fills c.fill.ensures.counted c.fill.ensures.grew (omega arith) in
    let shares : share_of (area_in mid c.args.damage) (first_tree (part_from c.in-Some.root tree)) ≡ share_of area tree =
    ap (λ area. share_of area (first_tree (part_from c.in-Some.root tree))) (area_in-same mid start c.args.damage c.fill.ensures.fills.width c.fill.ensures.fills.height)
    ∙ ap (share_of area) same in
    let views : IsCounted (share_of area tree) mid c.paint_view.new.surface c.fill.new.work c.paint_view.new.work =
    counted_same _ _ _ _ _ _ shares c.paint_view.ensures.counted in
    counted_then area (share_of area tree) _ start mid c.paint_view.new.surface c.args.work.now c.fill.new.work c.paint_view.new.work (share_of_all area tree) fill views
