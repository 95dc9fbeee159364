use Rattle.std.proofs.Common.{◌≡◌, ◌≤◌, ℕ, List, ◌+ℤ◌, ◌-ℤ◌, FitsSigned, w64, ap, ◌∙◌, subst, rules}
use Rattle.std.proofs.lemmas.Int.{to_z-of_z}
use Rattle.view_model.specs.declared.facts.Facts.{Facts}
use Rattle.view_model.specs.Facts.{padding_across, padding_left}
use Rattle.view_model.specs.TextView.{cells_across, cells_in}
use Rattle.view_tree.specs.Views.{view_at}
use Rattle.seen_parts.specs.Frames.{IsWithout, frame_size, padding_of}
use Rattle.tree_painter.specs.Inks.{text_ink}
use Rattle.tree_painter.specs.Painted.{PaintedIn, area_in}
use Rattle.tree_painter.proofs.AreaLaws.{counted_within, inside_area}
use Rattle.tree_painter.proofs.OwnLaws.{own_inked, own_unseen}
use Rattle.tree_painter.proofs.own.paint_text.Goals as goal

pub returns-in-Some-clause-painted : goal.returns-in-Some-clause-painted
returns-in-Some-clause-painted c =
    let frame = c.args.seen.frame in
    let view = view_at c.args.tree.now c.args.view in
    let same = c.facts-facts.ensures.value in
    let canvas = c.text_canvas-canvas.result in
    let n = c.cells_in.result in
    let old = c.args.surface.now in
    let new = c.ink_text.new.surface in
    let w : IsWithout frame (padding_of view.facts) c.inner_frame.result = subst (λ (facts : Facts). IsWithout frame (padding_of facts) c.inner_frame.result) same c.inner_frame.ensures in
    let text : c.characters-text.result.now ≡ view.text = c.characters-text.ensures.value ∙ c.text.ensures in
    let left : canvas.left ≡ frame.left +ℤ padding_left view.facts = c.text_canvas-canvas.ensures.left ∙ ap (λ (facts : Facts). frame.left +ℤ padding_left facts) same in
    let top : canvas.top ≡ frame.top +ℤ view.facts.padding.top = c.text_canvas-canvas.ensures.top ∙ ap (λ (facts : Facts). frame.top +ℤ facts.padding.top) same in
    let fits : FitsSigned w64 c.room_across.result = search rules in
    let in_room : n ≡ cells_in c.room_across.result = simp (to_z-of_z, fits) at c.cells_in.ensures.value in
    let cells : n ≡ cells_across view.facts (frame_size frame).w =
    in_room ∙ ap cells_in (c.room_across.ensures.value ∙ ap (λ (facts : Facts). frame.right -ℤ frame.left -ℤ padding_across facts) same) in
    let inked : PaintedIn canvas (text_ink c.facts-facts.result.now.ink n view.text) old new =
    subst (λ (text : List ℕ). PaintedIn canvas (text_ink c.facts-facts.result.now.ink n text) old new) text c.ink_text.ensures.painted in
    let inked : PaintedIn canvas (text_ink view.facts.ink n view.text) old new = subst (λ (facts : Facts). PaintedIn canvas (text_ink facts.ink n view.text) old new) same inked in
    own_inked view frame c.inner_frame.result c.args.seen.part c.requires.shows w c.in-Some.clip n canvas old new c.in-Some.ensures.points left top c.text_canvas-canvas.ensures.clip cells inked

pub returns-in-Some-clause-counted : goal.returns-in-Some-clause-counted
returns-in-Some-clause-counted c =
    let less : area_in c.args.surface.now c.text_canvas-canvas.result.clip ≤ area_in c.args.surface.now c.args.seen.part =
    rw c.text_canvas-canvas.ensures.clip (inside_area c.args.surface.now c.args.seen.part c.in-Some.clip c.in-Some.ensures.inside) in
    counted_within _ _ _ _ _ _ less c.ink_text.ensures.counted

pub returns-in_default-clause-painted : goal.returns-in_default-clause-painted
returns-in_default-clause-painted c =
    let frame = c.args.seen.frame in
    let view = view_at c.args.tree.now c.args.view in
    let w : IsWithout frame (padding_of view.facts) c.inner_frame.result =
    subst (λ (facts : Facts). IsWithout frame (padding_of facts) c.inner_frame.result) c.facts-facts.ensures.value c.inner_frame.ensures in
    own_unseen view frame c.inner_frame.result c.args.seen.part c.requires.shows w c.args.surface.now c.in_default.ensures.points
