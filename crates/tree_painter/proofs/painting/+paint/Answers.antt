use Rattle.std.proofs.Common.{ap, refl, ◌-ℤ◌, arith}
use Rattle.view_model.specs.Forest.{Forest}
use Rattle.view_model.specs.Painting.{painted}
use Rattle.view_tree.specs.Rows.{Row, children_of_first, first_tree, later_siblings, part_from}
use Rattle.view_tree.specs.Views.{held_of}
use Rattle.view_tree.proofs.forest.Walks.{fewer_below, walk_falls, walk_on}
use Rattle.seen_parts.specs.Meeting.{placed_rows}
use Rattle.tree_painter.specs.Painted.{IsCounted, area_in, from_origin, share_of}
use Rattle.tree_painter.proofs.AreaLaws.{area_in-same, counted_same}
use Rattle.tree_painter.proofs.TreeLaws.{counted_children, counted_own, own_drawn, painted_parts, share_parts}
use Rattle.tree_painter.proofs.UnderWay.{way_on}
use Rattle.tree_painter.proofs.painting.+paint.Goals as goal

pub paint_children-paint_view-requires : goal.paint_children-paint_view-requires
paint_children-paint_view-requires t c =
    let walk = rw c.in-Some.is at c.loop-next.invariant.walk in
    let fewer = fewer_below c.args.tree.now.tree c.args.view c.in-Some.child c.requires.live walk in
    (omega arith, (walk.live, c.requires.canvas))

pub paint_children-loop-next-smaller : goal.paint_children-loop-next-smaller
paint_children-loop-next-smaller t c =
    walk_falls c.args.tree.now.tree _ c.loop-next.next c.next-next.result c.in-Some.child c.in-Some.is c.loop-next.invariant.walk c.next-next.ensures.part

pub paint_children-loop-next-preserved : goal.paint_children-loop-next-preserved
paint_children-loop-next-preserved t c =
    let tree = c.args.tree.now.tree in
    let held = held_of c.args.tree.now in
    let canvas = c.args.canvas in
    let part = part_from c.in-Some.child tree in
    let start = c.args.surface.now in
    let old = c.loop-next.surface in
    let new = c.paint_view.new.surface in
    let walk = rw c.in-Some.is at c.loop-next.invariant.walk in
    let way = rw c.in-Some.is at c.loop-next.invariant.way in
    let counted : IsCounted (share_of (area_in start canvas.clip) (first_tree part)) old new c.loop-next.work c.paint_view.new.work =
    counted_same _ _ _ _ _ _ (ap (λ area. share_of area (first_tree part)) (area_in-same old start canvas.clip way.width way.height)) c.paint_view.ensures.counted in
    record {
      walk = walk_on tree (children_of_first (part_from c.args.view tree)) c.in-Some.child c.next-next.result walk c.next-next.ensures.part c.next-next.ensures.live;
      way = rw c.next-next.ensures.part (way_on (from_origin canvas.left canvas.top (painted (placed_rows held part)))
          (from_origin canvas.left canvas.top (painted (placed_rows held (later_siblings part)))) (from_origin canvas.left canvas.top (painted (placed_rows held (first_tree part))))
          _ canvas.clip _ _ _ _ start old new c.args.work.now c.loop-next.work c.paint_view.new.work way c.paint_view.ensures.painted counted
          (λ x y u. painted_parts held part (x -ℤ canvas.left) (y -ℤ canvas.top) u)
          (share_parts (area_in start canvas.clip) part));
    }

pub paint_filled-returns-in-Some-clause-painted : goal.paint_filled-returns-in-Some-clause-painted
paint_filled-returns-in-Some-clause-painted t c =
    own_drawn c.args.tree.now c.args.view c.requires.live c.args.canvas c.args.surface.now c.paint_children.new.surface
    (c.in-Some.ensures.painted (painted (placed_rows (held_of c.args.tree.now) (children_of_first (part_from c.args.view c.args.tree.now.tree)))) c.paint_children.new.surface
    (λ none x y u. ap (λ (kids : Forest Row). painted (placed_rows (held_of c.args.tree.now) kids) x y u) none) c.paint_children.ensures.painted)

pub paint_filled-returns-in_default-clause-painted : goal.paint_filled-returns-in_default-clause-painted
paint_filled-returns-in_default-clause-painted t c =
    own_drawn c.args.tree.now c.args.view c.requires.live c.args.canvas c.args.surface.now c.paint_own.new.surface
    (c.in_default.ensures.painted (painted (placed_rows (held_of c.args.tree.now) (children_of_first (part_from c.args.view c.args.tree.now.tree)))) c.paint_own.new.surface
    (λ none x y u. ap (λ (kids : Forest Row). painted (placed_rows (held_of c.args.tree.now) kids) x y u) none) refl)

pub paint_filled-returns-in-Some-clause-counted : goal.paint_filled-returns-in-Some-clause-counted
paint_filled-returns-in-Some-clause-counted t c =
    let start = c.args.surface.now in
    let mid = c.paint_own.new.surface in
    let inner = c.in-Some.inner.clip in
    let kids = children_of_first (part_from c.args.view c.args.tree.now.tree) in
    let size = c.paint_own.ensures.size in
    let children : IsCounted (share_of (area_in start inner) kids) mid c.paint_children.new.surface c.paint_own.new.work c.paint_children.new.work =
    counted_same _ _ _ _ _ _ (ap (λ area. share_of area kids) (area_in-same mid start inner size.0 size.1)) c.paint_children.ensures.counted in
    counted_children c.args.tree.now.tree c.args.view (area_in start c.args.canvas.clip) (area_in start inner) start mid c.paint_children.new.surface
    c.args.work.now c.paint_own.new.work c.paint_children.new.work c.requires.live c.in-Some.ensures.narrower c.paint_own.ensures.counted children

pub paint_filled-returns-in_default-clause-counted : goal.paint_filled-returns-in_default-clause-counted
paint_filled-returns-in_default-clause-counted t c =
    counted_own c.args.tree.now.tree c.args.view (area_in c.args.surface.now c.args.canvas.clip) c.args.surface.now c.paint_own.new.surface
    c.args.work.now c.paint_own.new.work c.requires.live c.paint_own.ensures.counted
