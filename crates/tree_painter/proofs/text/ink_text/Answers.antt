use Rattle.std.proofs.Common.{◌≡◌, ◌+◌, ◌-◌, ◌<◌, ◌≤◌, List, ℕ, drop, take, length, pos, ◌+ℤ◌, ◌-ℤ◌, refl, sym, ap, ◌∙◌, arith}
use Rattle.std.proofs.lemmas.Int.{ints}
use Rattle.std.proofs.lemmas.List.{drop-drop, drop_all, length-drop, take_all}
use Rattle.seen_parts.specs.declared.frame.Canvas.{Canvas}
use Rattle.tree_painter.specs.Areas.{strip_between}
use Rattle.tree_painter.specs.Inks.{line_ink, text_ink}
use Rattle.tree_painter.specs.Painted.{IsCounted, IsPainted, from_origin}
use Rattle.tree_painter.proofs.AreaLaws.{area_same, counted_same, text_area, text_within}
use Rattle.tree_painter.proofs.InkLaws.{text_away, text_none, text_parts}
use Rattle.tree_painter.proofs.UnderWay.{way_end, way_on, way_start}
use Rattle.tree_painter.proofs.text.ink_text.Goals as goal

pub loop-begin-init : goal.loop-begin-init
loop-begin-init c = record {
  within = omega arith;
  left = refl;
  clip = refl;
  low = omega (arith, ints);
  deep = omega (arith, ints);
  way = way_start _ _ c.args.canvas.clip _ _ c.args.surface.now c.args.work.now (λ x y u h. refl) (text_within c.args.surface.now c.args.canvas.clip c.args.canvas.top);
}

pub loop-begin-preserved : goal.loop-begin-preserved
loop-begin-preserved c =
    let canvas = c.args.canvas in
    let ink = c.args.style.ink in
    let n = c.args.style.cells in
    let text = c.args.text.now in
    let begin = c.loop-begin.begin in
    let at = c.loop-begin.at in
    let inv = c.loop-begin.invariant in
    let line = c.first_line-line.result in
    let breaks = c.first_line-line.ensures in
    let rest = take (length text - begin) (drop begin text) in
    let same : rest ≡ drop begin text = let size : length (drop begin text) ≤ length text - begin = omega (arith, length-drop begin text) in take_all (length text - begin) (drop begin text) size in
    let start = c.args.surface.now in
    let old = c.loop-begin.surface in
    let new = c.ink_line.new.surface in
    let left_of : length rest ≡ length text - begin = ap length same ∙ length-drop begin text in
    let within = breaks.within.1 in
    let on : 0 < line.next = breaks.goes_on (omega (arith, left_of)) in
    let top : c.below-at.result.top ≡ at.top +ℤ pos 8 = ap (λ (canvas : Canvas). canvas.top) c.below-at.ensures in
    let dropped : drop (begin + line.next) text ≡ drop line.next rest = sym (drop-drop line.next begin text) ∙ ap (drop line.next) (sym same) in
    let inked : IsPainted (from_origin canvas.left at.top (line_ink ink (take line.end rest) 0)) canvas.clip old new = rw (inv.left, inv.clip) at c.ink_line.ensures.painted in
    let counted : IsCounted (strip_between old canvas.clip at.top (at.top +ℤ pos 8)) old new c.loop-begin.work c.ink_line.new.work = rw inv.clip at c.ink_line.ensures.counted in
    let counted = counted_same _ _ _ _ _ _ (area_same old start canvas.clip canvas.clip.left at.top canvas.clip.right (at.top +ℤ pos 8) inv.way.width inv.way.height) counted in
    record {
      within = omega (arith, left_of, within);
      left = ap (λ (canvas : Canvas). canvas.left) c.below-at.ensures ∙ inv.left;
      clip = ap (λ (canvas : Canvas). canvas.clip) c.below-at.ensures ∙ inv.clip;
      low = let low = inv.low in omega (arith, ints, top, low);
      deep = let deep = inv.deep in omega (arith, ints, top, deep, on);
      way = rw (top, dropped) (way_on (from_origin canvas.left at.top (text_ink ink n (drop begin text))) (from_origin canvas.left (at.top +ℤ pos 8) (text_ink ink n (drop line.next rest)))
          (from_origin canvas.left at.top (line_ink ink (take line.end rest) 0)) _ canvas.clip _ _ _ _ start old new c.args.work.now c.loop-begin.work c.ink_line.new.work inv.way inked counted
          (λ x y u. ap (λ (t : List ℕ). text_ink ink n t (x -ℤ canvas.left) (y -ℤ at.top) u) (sym same) ∙ text_parts ink n rest (take line.end rest) (drop line.next rest) breaks.first breaks.rest (x -ℤ canvas.left) (y -ℤ at.top) u
          ∙ sym (text_away ink n (drop line.next rest) at.top (x -ℤ canvas.left) y _))
          (text_area start canvas.clip at.top));
    }

pub returns-after-loop-begin-clause-painted : goal.returns-after-loop-begin-clause-painted
returns-after-loop-begin-clause-painted c =
    let canvas = c.args.canvas in
    let inv = c.loop-begin.invariant in
    let past : length c.args.text.now ≤ c.loop-begin.begin = omega arith in
    way_end _ _ canvas.clip _ _ c.args.surface.now c.loop-begin.surface c.args.work.now c.loop-begin.work inv.way
    (λ x y u h. ap (λ (t : List ℕ). text_ink c.args.style.ink c.args.style.cells t (x -ℤ canvas.left) (y -ℤ c.loop-begin.at.top) u) (drop_all c.loop-begin.begin c.args.text.now past)
    ∙ text_none c.args.style.ink c.args.style.cells (x -ℤ canvas.left) (y -ℤ c.loop-begin.at.top) u)
