use Rattle.std.proofs.Common.{ap, sym, refl, ◌∙◌, ◌≡◌, ◌+◌, ◌≤◌, ◌-ℤ◌, Option, Some, None, subst, arith}
use Rattle.std.specs.Prelude.{◌&&◌, IfSome}
use Rattle.geom_core.specs.Rects.{holds}
use Rattle.geom_core.specs.declared.geometry.Rect.{Rect}
use Rattle.pixel_raster.specs.Raster.{Blends, Raster}
use Rattle.view_model.specs.declared.facts.Facts.{Facts}
use Rattle.view_model.specs.Painting.{Painter, drawn_in, is_drawn, reaches_children}
use Rattle.view_model.specs.PlainTree.{PlainView}
use Rattle.view_tree.specs.declared.node.state.State.{State}
use Rattle.view_tree.specs.Views.{view_at}
use Rattle.seen_parts.specs.declared.frame.Canvas.{Canvas}
use Rattle.seen_parts.specs.Frames.{IsBelow, canvas_holds, frame_size}
use Rattle.tree_painter.specs.Painted.{IsCounted, PaintedIn, area_in}
use Rattle.tree_painter.proofs.AreaLaws.{area_in-same, counted_blend, counted_then, counted_within, inside_area, narrower}
use Rattle.tree_painter.proofs.OwnLaws.{hidden, outside, seen, seen_leaf}
use Rattle.tree_painter.proofs.PainterLaws.{painted_nothing}
use Rattle.tree_painter.proofs.own.paint_own.Goals as goal

-- a view with these bounds
drawn_at : (given bounds : Option Rect) (view : PlainView) (canvas : Canvas) (children : Painter) (old new : Raster) → given ≡ bounds
    → PaintedIn canvas (drawn_in bounds view children) old new → PaintedIn canvas (drawn_in given view children) old new
drawn_at given bounds view canvas children old new is h = rw is h

pub returns-in_default-clause-painted : goal.returns-in_default-clause-painted
returns-in_default-clause-painted c = λ children end none same.
    rw same (drawn_at _ None (view_at c.args.tree.now c.args.view) c.args.canvas children c.args.surface.now c.args.surface.now
    (ap (λ (state : State). state.bounds) (sym c.state.ensures.value) ∙ c.in_default.is)
    (painted_nothing _ c.args.canvas.clip c.args.surface.now (λ x y u h. refl)))

pub returns-in_default-part_in-clause-painted : goal.returns-in_default-part_in-clause-painted
returns-in_default-part_in-clause-painted c = λ children end none same.
    rw same (drawn_at _ (Some c.in-Some.bounds) (view_at c.args.tree.now c.args.view) c.args.canvas children c.args.surface.now c.args.surface.now
    (ap (λ (state : State). state.bounds) (sym c.state.ensures.value) ∙ c.in-Some.is)
    (outside (view_at c.args.tree.now c.args.view) c.in-Some.bounds c.args.canvas children c.moved-frame.result c.moved-frame.ensures.moved c.args.surface.now c.in_default-part_in.ensures.points))

pub returns-then-not-is_drawn-clause-painted : goal.returns-then-not-is_drawn-clause-painted
returns-then-not-is_drawn-clause-painted c = λ children end none same.
    rw same (drawn_at _ (Some c.in-Some.bounds) (view_at c.args.tree.now c.args.view) c.args.canvas children c.args.surface.now c.args.surface.now
    (ap (λ (state : State). state.bounds) (sym c.state.ensures.value) ∙ c.in-Some.is)
    (hidden (view_at c.args.tree.now c.args.view) c.in-Some.bounds c.args.canvas children c.args.surface.now
    (ap (λ (facts : Facts). is_drawn facts.visibility) (sym c.facts.ensures.value) ∙ sym c.is_drawn.ensures ∙ c.if-not-is_drawn.true)))

pub returns-then-not-has_children-clause-painted : goal.returns-then-not-has_children-clause-painted
returns-then-not-has_children-clause-painted c = λ children end none same.
    let view = view_at c.args.tree.now c.args.view in
    let frame = c.moved-frame.result in
    let part = c.in-Some-part_in.part in
    let start = c.args.surface.now in
    let mid = c.blend.new.self in
    let fills : Blends part view.facts.background start mid = subst (λ (facts : Facts). Blends part facts.background start mid) c.facts-2.ensures.value c.blend.ensures.blends in
    rw same (drawn_at _ (Some c.in-Some.bounds) view c.args.canvas children start c.paint_ink.new.surface
    (ap (λ (state : State). state.bounds) (sym c.state.ensures.value) ∙ c.in-Some.is)
    (seen_leaf view c.in-Some.bounds c.args.canvas children frame c.moved-frame.ensures.moved
    (ap (λ (facts : Facts). is_drawn facts.visibility) (sym c.facts.ensures.value) ∙ sym c.is_drawn.ensures ∙ c.if-not-is_drawn.false)
    part start mid c.paint_ink.new.surface c.in-Some-part_in.ensures.points fills c.paint_ink.ensures.painted (none (c.has_children.ensures c.if-not-has_children.true))))

pub returns-clause-painted : goal.returns-clause-painted
returns-clause-painted c = λ children end none rest.
    let view = view_at c.args.tree.now c.args.view in
    let frame = c.moved-frame.result in
    let part = c.in-Some-part_in.part in
    let result = c.children_canvas.result in
    let start = c.args.surface.now in
    let mid = c.blend.new.self in
    let fills : Blends part view.facts.background start mid = subst (λ (facts : Facts). Blends part facts.background start mid) c.facts-2.ensures.value c.blend.ensures.blends in
    let below : IfSome result (IsBelow frame view.facts.offset) = subst (λ (facts : Facts). IfSome result (IsBelow frame facts.offset)) c.facts-3.ensures.value c.children_canvas.ensures.below in
    drawn_at _ (Some c.in-Some.bounds) view c.args.canvas children start end (ap (λ (state : State). state.bounds) (sym c.state.ensures.value) ∙ c.in-Some.is)
    (seen view c.in-Some.bounds c.args.canvas children frame c.moved-frame.ensures.moved
    (ap (λ (facts : Facts). is_drawn facts.visibility) (sym c.facts.ensures.value) ∙ sym c.is_drawn.ensures ∙ c.if-not-is_drawn.false)
    part result start mid c.paint_ink.new.surface end
    c.in-Some-part_in.ensures.points fills c.paint_ink.ensures.painted
    (λ x y. subst (λ (facts : Facts). canvas_holds result x y ≡ (holds part x y && reaches_children facts (frame_size frame) (x -ℤ frame.left) (y -ℤ frame.top)))
    c.facts-3.ensures.value (c.children_canvas.ensures.points x y)) below rest)

pub returns-clause-narrower : goal.returns-clause-narrower
returns-clause-narrower c =
    narrower c.args.surface.now c.args.canvas.clip c.in-Some-part_in.part c.children_canvas.result
    (inside_area c.args.surface.now c.args.canvas.clip c.in-Some-part_in.part c.in-Some-part_in.ensures.inside) c.children_canvas.ensures.inside

pub returns-clause-counted : goal.returns-clause-counted
returns-clause-counted c =
    let start = c.args.surface.now in
    let mid = c.blend.new.self in
    let part = c.in-Some-part_in.part in
    let area = area_in start c.args.canvas.clip in
    let less : area_in start part ≤ area = inside_area start c.args.canvas.clip part c.in-Some-part_in.ensures.inside in
    let same : area_in mid part ≡ area_in start part = area_in-same mid start part c.blend.ensures.blends.width c.blend.ensures.blends.height in
    let back : IsCounted area start mid c.args.work.now c.blend.new.work =
    counted_blend area part _ start mid c.args.work.now c.blend.new.work c.blend.ensures.counted c.blend.ensures.grew less in
    let ink : IsCounted area mid c.paint_ink.new.surface c.blend.new.work c.paint_ink.new.work =
    counted_within (area_in mid part) area mid c.paint_ink.new.surface c.blend.new.work c.paint_ink.new.work (rw same less) c.paint_ink.ensures.counted in
    counted_then area area (area + area) start mid c.paint_ink.new.surface c.args.work.now c.blend.new.work c.paint_ink.new.work (omega arith) back ink

pub returns-then-not-has_children-clause-counted : goal.returns-then-not-has_children-clause-counted
returns-then-not-has_children-clause-counted c =
    let start = c.args.surface.now in
    let mid = c.blend.new.self in
    let part = c.in-Some-part_in.part in
    let area = area_in start c.args.canvas.clip in
    let less : area_in start part ≤ area = inside_area start c.args.canvas.clip part c.in-Some-part_in.ensures.inside in
    let same : area_in mid part ≡ area_in start part = area_in-same mid start part c.blend.ensures.blends.width c.blend.ensures.blends.height in
    let back : IsCounted area start mid c.args.work.now c.blend.new.work =
    counted_blend area part _ start mid c.args.work.now c.blend.new.work c.blend.ensures.counted c.blend.ensures.grew less in
    let ink : IsCounted area mid c.paint_ink.new.surface c.blend.new.work c.paint_ink.new.work =
    counted_within (area_in mid part) area mid c.paint_ink.new.surface c.blend.new.work c.paint_ink.new.work (rw same less) c.paint_ink.ensures.counted in
    counted_then area area (area + area) start mid c.paint_ink.new.surface c.args.work.now c.blend.new.work c.paint_ink.new.work (omega arith) back ink
