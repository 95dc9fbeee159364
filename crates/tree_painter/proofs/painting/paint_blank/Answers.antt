use Rattle.std.proofs.Common.{◌≡◌, ◌+◌, ◌∙◌, ap, inl, inr, subst}
use Rattle.geom_core.specs.Color.{alpha_of}
use Rattle.geom_core.specs.declared.color.Argb.{Argb}
use Rattle.geom_core.specs.declared.geometry.Rect.{Rect}
use Rattle.pixel_raster.specs.Raster.{Blends, FillsUnlessClear, Raster}
use Rattle.view_model.specs.declared.facts.Facts.{Facts}
use Rattle.view_model.specs.declared.work.Work.{Work}
use Rattle.view_model.specs.Forest.{Forest}
use Rattle.view_model.specs.Painting.{painted}
use Rattle.view_tree.specs.Rows.{Row}
use Rattle.view_tree.specs.Views.{held_of, state_of, view_at}
use Rattle.seen_parts.specs.Meeting.{placed_rows}
use Rattle.tree_painter.specs.Painted.{area_in}
use Rattle.tree_painter.proofs.AreaLaws.{counted_none}
use Rattle.tree_painter.proofs.OwnLaws.{blank}
use Rattle.tree_painter.proofs.TreeLaws.{children_painter, counted_own, own_drawn}
use Rattle.tree_painter.proofs.painting.paint_blank.Goals as goal

-- a colour that covers nothing changes nothing
record Idle (old new : Raster) (before after : Work) : Type 0 where
  raster : new ≡ old
  work : after ≡ before

idle : (rect : Rect) (color : Argb) (old new : Raster) (before after : Work) → alpha_of color ≡ 0 → FillsUnlessClear rect color old new before after → Idle old new before after
idle rect color old new before after clear (inl (none, same, still)) = record { raster = same; work = still }
idle rect color old new before after clear (inr (shown, fills, count)) = absurd (shown clear)

pub returns-clause-painted : goal.returns-clause-painted
returns-clause-painted c =
    let view = view_at c.args.tree.now c.args.view in
    let at = c.args.surface.now in
    let color : c.facts.result.now.background ≡ view.facts.background = ap (λ (facts : Facts). facts.background) c.facts.ensures.value in
    let still = idle c.args.canvas.clip c.facts.result.now.background at c.blend.new.self c.args.work.now c.blend.new.work (ap alpha_of color ∙ c.requires.clear) c.blend.ensures.counted in
    let back : Blends c.args.canvas.clip view.facts.background at at =
    subst (λ (new : Raster). Blends c.args.canvas.clip view.facts.background at new) still.raster
    (subst (λ (color : Argb). Blends c.args.canvas.clip color at c.blend.new.self) color c.blend.ensures.blends) in
    own_drawn c.args.tree.now c.args.view c.requires.live c.args.canvas at c.blend.new.self
    (rw still.raster (blank (state_of c.args.tree.now c.args.view).bounds view c.args.canvas
    (children_painter c.args.tree.now c.args.view c.requires.live c.args.canvas) at c.requires.textless
    (λ x y u. ap (λ (kids : Forest Row). painted (placed_rows (held_of c.args.tree.now) kids) x y u) c.requires.childless) back))

pub returns-clause-counted : goal.returns-clause-counted
returns-clause-counted c =
    let area = area_in c.args.surface.now c.args.canvas.clip in
    let view = view_at c.args.tree.now c.args.view in
    let color : c.facts.result.now.background ≡ view.facts.background = ap (λ (facts : Facts). facts.background) c.facts.ensures.value in
    let still = idle c.args.canvas.clip c.facts.result.now.background c.args.surface.now c.blend.new.self c.args.work.now c.blend.new.work (ap alpha_of color ∙ c.requires.clear) c.blend.ensures.counted in
    rw (still.raster, still.work) (counted_own c.args.tree.now.tree c.args.view area c.args.surface.now c.args.surface.now c.args.work.now c.args.work.now c.requires.live
    (counted_none (area + area) c.args.surface.now c.args.work.now))
