use Rattle.std.proofs.Common.{◌≡◌, ◌+◌, ◌*◌, ◌/◌, pos, ◌+ℤ◌, ◌-ℤ◌, ◌≤ℤ◌, Some, length, refl, sym, ap, ◌∙◌, subst, arith}
use Rattle.std.specs.Prelude.{slice_get}
use Rattle.std.proofs.lemmas.Int.{ints}
use Rattle.std.proofs.lemmas.Option.{slice_get_read}
use Rattle.geom_core.specs.declared.color.Argb.{Argb}
use Rattle.seen_parts.specs.declared.frame.Canvas.{Canvas}
use Rattle.tree_painter.specs.Areas.{area_between}
use Rattle.tree_painter.specs.Inks.{column_ink, line_ink}
use Rattle.tree_painter.specs.Painted.{IsCounted, IsPainted, PaintedIn, from_origin}
use Rattle.tree_painter.proofs.AreaLaws.{area_same, counted_same, line_area, line_within, seen_from, seen_to}
use Rattle.tree_painter.proofs.InkLaws.{column_away, holds_left, holds_right, holds_top, line_above, line_from, line_over, line_parts}
use Rattle.tree_painter.proofs.PainterLaws.{painted_nothing}
use Rattle.tree_painter.proofs.UnderWay.{way_end, way_on, way_start}
use Rattle.tree_painter.proofs.text.ink_line.Goals as goal

pub returns-then-ends_above-clause-painted : goal.returns-then-ends_above-clause-painted
returns-then-ends_above-clause-painted c =
    let canvas = c.args.canvas in
    let above : (canvas.top +ℤ pos 8) ≤ℤ canvas.clip.top = grind (arith, ints) in
    painted_nothing _ canvas.clip c.args.surface.now (λ x y u h.
    let below = holds_top canvas.clip x y h in
    line_above c.args.ink c.args.line.now 0 (x -ℤ canvas.left) (y -ℤ canvas.top) u (omega (arith, ints)))

pub loop-x-init : goal.loop-x-init
loop-x-init c =
    let canvas = c.args.canvas in
    let columns = 6 * length c.args.line.now in
    let first = c.seen_columns-seen.result.from in
    record {
      way = way_start _ _ canvas.clip _ _ c.args.surface.now c.args.work.now
          (λ x y u h. line_from c.args.ink c.args.line.now first (x -ℤ canvas.left) (y -ℤ canvas.top) u
          (λ k at. seen_from columns first k canvas.clip.left canvas.left x c.seen_columns-seen.ensures.from (holds_left canvas.clip x y h) at))
          (line_within c.args.surface.now canvas.clip (canvas.left +ℤ pos first) canvas.top (canvas.top +ℤ pos 8));
    }

pub loop-x-preserved : goal.loop-x-preserved
loop-x-preserved c =
    let canvas = c.args.canvas in
    let ink = c.args.ink in
    let line = c.args.line.now in
    let at = c.loop-x.x in
    let character = c.index-line-x.result in
    let start = c.args.surface.now in
    let old = c.loop-x.surface in
    let new = c.ink_column.new.surface in
    let way = c.loop-x.invariant.way in
    let most = c.seen_columns-seen.ensures.most in
    let read : slice_get line (at / 6) ≡ Some character = slice_get_read line (length line) (at / 6) character refl (omega arith) c.index-line-x.is in
    let bits = c.glyph-bits.result in
    let inked : IsPainted (from_origin (canvas.left +ℤ pos at) canvas.top (column_ink ink bits 0)) canvas.clip old new =
    subst (λ (canvas : Canvas). PaintedIn canvas (column_ink ink bits 0) old new) c.right_by.ensures.value c.ink_column.ensures.painted in
    let counted : IsCounted (area_between old canvas.clip (canvas.left +ℤ pos at) canvas.top (canvas.left +ℤ pos at +ℤ pos 1) (canvas.top +ℤ pos 8)) old new c.loop-x.work c.ink_column.new.work =
    subst (λ (canvas : Canvas). IsCounted (area_between old canvas.clip canvas.left canvas.top (canvas.left +ℤ pos 1) (canvas.top +ℤ pos 8)) old new c.loop-x.work c.ink_column.new.work)
    c.right_by.ensures.value c.ink_column.ensures.counted in
    let counted = counted_same _ _ _ _ _ _ (area_same old start canvas.clip (canvas.left +ℤ pos at) canvas.top (canvas.left +ℤ pos at +ℤ pos 1) (canvas.top +ℤ pos 8) way.width way.height) counted in
    record {
      way = way_on (from_origin canvas.left canvas.top (line_ink ink line at)) (from_origin canvas.left canvas.top (line_ink ink line (at + 1)))
          (from_origin (canvas.left +ℤ pos at) canvas.top (column_ink ink bits 0)) _ canvas.clip _ _ _ _ start old new c.args.work.now c.loop-x.work c.ink_column.new.work way inked counted
          (λ x y u. line_parts ink line at character read (x -ℤ canvas.left) (y -ℤ canvas.top) u
          ∙ ap (λ (v : Argb). line_ink ink line (at + 1) (x -ℤ canvas.left) (y -ℤ canvas.top) v)
          (ap (λ bits. column_ink ink bits 0 (x -ℤ canvas.left -ℤ pos at) (y -ℤ canvas.top) u) (sym c.glyph-bits.ensures) ∙ sym (column_away ink bits 0 at canvas.left x (y -ℤ canvas.top) u)))
          (line_area start canvas.clip canvas.left canvas.top at);
    }

pub returns-clause-painted : goal.returns-clause-painted
returns-clause-painted c =
    let canvas = c.args.canvas in
    let line = c.args.line.now in
    let columns = 6 * length line in
    let end = c.seen_columns-seen.result.to in
    way_end _ _ canvas.clip _ _ c.args.surface.now c.loop-x.surface c.args.work.now c.loop-x.work c.loop-x.invariant.way (λ x y u h.
    line_over c.args.ink line c.loop-x.x (x -ℤ canvas.left) (y -ℤ canvas.top) u (λ k at le.
    let past = seen_to columns end k canvas.clip.right canvas.left x c.seen_columns-seen.ensures.to (holds_right canvas.clip x y h) at (omega arith) in
    omega arith))
