-- What one view paints: its background, its ink, and its children.
use Rattle.std.proofs.Common.{inl, inr, ◌≡◌, ℕ, ◌<◌, ℤ, pos, ◌+ℤ◌, ◌-ℤ◌, Bool, true, false, Option, Some, None, if◌then◌else◌, refl, sym, ap, ◌∙◌, arith}
use Rattle.std.specs.Prelude.{◌&&◌, ◌||◌, not, int_lt, IfSome}
use Rattle.std.proofs.lemmas.Bool.{cases_Bool}
use Rattle.std.proofs.lemmas.Int.{ints}
use Rattle.geom_core.specs.Color.{blend_of}
use Rattle.geom_core.specs.Rects.{holds}
use Rattle.geom_core.specs.declared.color.Argb.{Argb}
use Rattle.geom_core.specs.declared.geometry.Rect.{Rect}
use Rattle.geom_core.specs.declared.geometry.Size.{Size}
use Rattle.pixel_raster.specs.Raster.{Blends, Raster, color_at}
use Rattle.view_model.specs.declared.facts.Facts.{Facts}
use Rattle.view_model.specs.Facts.{padding_left, padding_right}
use Rattle.view_model.specs.Geometry.{size_of_rect}
use Rattle.view_model.specs.Classes.{has_text}
use Rattle.view_model.specs.Painting.{Painter, content, drawn_in, has_ink, inner_rect, is_drawn, reaches_children, text_pixel}
use Rattle.view_model.specs.PlainTree.{PlainView}
use Rattle.view_model.specs.TextView.{cells_across}
use Rattle.seen_parts.specs.declared.frame.Canvas.{Canvas}
use Rattle.seen_parts.specs.declared.frame.Frame.{Frame}
use Rattle.seen_parts.specs.Frames.{IsBelow, IsMoved, IsWithout, canvas_holds, frame_holds, frame_size, padding_of}
use Rattle.tree_painter.specs.Inks.{own_ink, text_ink}
use Rattle.tree_painter.specs.Painted.{ChildrenPainted, IsPainted, PaintedIn, PaintsNothing, from_origin}
use Rattle.tree_painter.proofs.PainterLaws.{moved_holds, painted_nothing, right_of}

inner_lt : (x edge at : ℤ) → int_lt (x -ℤ edge) at ≡ int_lt x (edge +ℤ at)
inner_lt x edge at = grind (arith, ints)

inner_lt_far : (x low high at : ℤ) → int_lt (x -ℤ low) (high -ℤ low -ℤ at) ≡ int_lt x (high -ℤ at)
inner_lt_far x low high at = grind (arith, ints)

-- a frame without its padding, in the coordinates of the view that lies in it
pub inner_holds : (facts : Facts) (frame within : Frame) → IsWithout frame (padding_of facts) within → (x y : ℤ)
    → frame_holds within x y ≡ holds (inner_rect facts (frame_size frame)) (x -ℤ frame.left) (y -ℤ frame.top)
inner_holds facts frame within w x y =
    rw (
      inner_lt x frame.left (padding_left facts),
      inner_lt_far x frame.left frame.right (padding_right facts),
      inner_lt y frame.top facts.padding.top,
      inner_lt_far y frame.top frame.bottom facts.padding.bottom,
      w.left,
      w.top,
      w.right,
      w.bottom,
    ) refl

or_closed : (c r : Bool) → c ≡ true → (not c || r) ≡ r
or_closed true r h = refl
or_closed false r h = absurd (cc)

-- where padding cuts off children
pub clipped_points : (facts : Facts) (frame within : Frame) (part : Rect) → facts.clip ≡ true → IsWithout frame (padding_of facts) within → (x y : ℤ)
    → (holds part x y && frame_holds within x y) ≡ (holds part x y && reaches_children facts (frame_size frame) (x -ℤ frame.left) (y -ℤ frame.top))
clipped_points facts frame within part clips w x y =
    ap (λ (t : Bool). holds part x y && t) (inner_holds facts frame within w x y ∙ sym (or_closed facts.clip _ clips))

-- the ink of a view within its padding
own_pixel : (s a b t : Bool) (i u : Argb) → s ≡ true → (if a && b then (if t then i else u) else u) ≡ (if a then (if (s && b) && t then i else u) else u)
own_pixel true true true t i u h = refl
own_pixel true true false t i u h = refl
own_pixel true false b t i u h = refl
own_pixel false a b t i u h = absurd (cc)

away : (x a b : ℤ) → x -ℤ (a +ℤ b) ≡ x -ℤ a -ℤ b
away x a b = omega (arith, ints)

module _ (view : PlainView) (frame within : Frame) (part : Rect) (shows : has_text view.class ≡ true) (w : IsWithout frame (padding_of view.facts) within) where
  pub own_inked : (clip : Rect) (n : ℕ) (canvas : Canvas) (old new : Raster) → ((x y : ℤ) → holds clip x y ≡ (holds part x y && frame_holds within x y))
      → canvas.left ≡ frame.left +ℤ padding_left view.facts → canvas.top ≡ frame.top +ℤ view.facts.padding.top → canvas.clip ≡ clip
      → n ≡ cells_across view.facts (frame_size frame).w → PaintedIn canvas (text_ink view.facts.ink n view.text) old new
      → IsPainted (from_origin frame.left frame.top (own_ink view (frame_size frame))) part old new
  own_inked clip n canvas old new points left top same cells h = record {
    width = h.width;
    height = h.height;
    colors = λ x y xw yh.
        let u = color_at old x y in
        let a = holds part (pos x) (pos y) in
        let b = holds (inner_rect view.facts (frame_size frame)) (pos x -ℤ frame.left) (pos y -ℤ frame.top) in
        let ink = λ (t : Bool). if t then blend_of view.facts.ink u else u in
        let here : holds canvas.clip (pos x) (pos y) ≡ (a && b) =
        ap (λ (rect : Rect). holds rect (pos x) (pos y)) same ∙ points (pos x) (pos y) ∙ ap (λ (t : Bool). a && t) (inner_holds view.facts frame within w (pos x) (pos y)) in
        let across : pos x -ℤ canvas.left ≡ pos x -ℤ frame.left -ℤ padding_left view.facts = ap (λ (z : ℤ). pos x -ℤ z) left ∙ away (pos x) frame.left (padding_left view.facts) in
        let down : pos y -ℤ canvas.top ≡ pos y -ℤ frame.top -ℤ view.facts.padding.top = ap (λ (z : ℤ). pos y -ℤ z) top ∙ away (pos y) frame.top view.facts.padding.top in
        let pixel : text_pixel n view.text (pos x -ℤ canvas.left) (pos y -ℤ canvas.top)
        ≡ text_pixel (cells_across view.facts (frame_size frame).w) view.text (pos x -ℤ frame.left -ℤ padding_left view.facts) (pos y -ℤ frame.top -ℤ view.facts.padding.top) =
        ap (λ (k : ℕ). text_pixel k view.text (pos x -ℤ canvas.left) (pos y -ℤ canvas.top)) cells
        ∙ ap (λ (z : ℤ). text_pixel (cells_across view.facts (frame_size frame).w) view.text z (pos y -ℤ canvas.top)) across
        ∙ ap (λ (z : ℤ). text_pixel (cells_across view.facts (frame_size frame).w) view.text (pos x -ℤ frame.left -ℤ padding_left view.facts) z) down in
        h.colors x y xw yh
        ∙ ap (λ (t : Bool). if t then ink (text_pixel n view.text (pos x -ℤ canvas.left) (pos y -ℤ canvas.top)) else u) here
        ∙ ap (λ (t : Bool). if a && b then ink t else u) pixel
        ∙ own_pixel (has_text view.class) a b _ (blend_of view.facts.ink u) u shows;
  }

  pub own_unseen : (at : Raster) → ((x y : ℤ) → false ≡ (holds part x y && frame_holds within x y))
      → IsPainted (from_origin frame.left frame.top (own_ink view (frame_size frame))) part at at
  own_unseen at points = painted_nothing _ part at (λ x y u h.
      none (has_text view.class) _ _ u (sym (inner_holds view.facts frame within w x y) ∙ right_of (holds part x y) (frame_holds within x y) h (points x y)))
    where
      none : (s b t : Bool) (u : Argb) → b ≡ false → (if (s && b) && t then blend_of view.facts.ink u else u) ≡ u
      none s true t u e = absurd (cc)
      none true false t u e = refl
      none false false t u e = refl

-- a pixel of a view: its background where it is seen, its ink over that, and the effect of its children where they are
-- seen
pixel_of : (a b i c : Bool) (kids ink back : Argb → Argb) (start mid inked end : Argb) → mid ≡ (if a && b then back start else start)
    → inked ≡ (if a && b then (if i then ink mid else mid) else mid) → end ≡ (if (a && b) && c then kids inked else inked)
    → end ≡ (if a then (if b then (if c then kids (if i then ink (back start) else back start) else (if i then ink (back start) else back start)) else start) else start)
pixel_of true true true true kids ink back start mid inked end m n e = e ∙ ap kids (n ∙ ap ink m)
pixel_of true true true false kids ink back start mid inked end m n e = e ∙ n ∙ ap ink m
pixel_of true true false true kids ink back start mid inked end m n e = e ∙ ap kids (n ∙ m)
pixel_of true true false false kids ink back start mid inked end m n e = e ∙ n ∙ m
pixel_of true false i c kids ink back start mid inked end m n e = e ∙ n ∙ m
pixel_of false b i c kids ink back start mid inked end m n e = e ∙ n ∙ m

-- what the children left of each pixel
record IsPaintedWhereShown (paint : Painter) (shown : ℤ → ℤ → Bool) (old new : Raster) : Type 0 where
  width : new.width ≡ old.width
  height : new.height ≡ old.height
  colors : (x y : ℕ) → x < old.width → y < old.height
      → color_at new x y ≡ (if shown (pos x) (pos y) then paint (pos x) (pos y) (color_at old x y) else color_at old x y)

children_shown : (frame : Frame) (offset : ℤ) (result : Option Canvas) (children : Painter) (mid end : Raster) → IfSome result (IsBelow frame offset)
    → ChildrenPainted result children mid end → IsPaintedWhereShown (λ x y u. children (x -ℤ frame.left) (y -ℤ frame.top +ℤ offset) u) (canvas_holds result) mid end
children_shown frame offset None children mid end below same = rw same (record { width = refl; height = refl; colors = λ x y xw yh. refl })
children_shown frame offset (Some canvas) children mid end below h = record {
  width = h.width;
  height = h.height;
  colors = λ x y xw yh.
      let across : pos x -ℤ canvas.left ≡ pos x -ℤ frame.left = ap (λ (z : ℤ). pos x -ℤ z) below.left in
      let down : pos y -ℤ canvas.top ≡ pos y -ℤ frame.top +ℤ offset = let top = below.top in omega (arith, ints, top) in
      h.colors x y xw yh
      ∙ ap (λ (z : ℤ). if holds canvas.clip (pos x) (pos y) then children z (pos y -ℤ canvas.top) (color_at mid x y) else color_at mid x y) across
      ∙ ap (λ (z : ℤ). if holds canvas.clip (pos x) (pos y) then children (pos x -ℤ frame.left) z (color_at mid x y) else color_at mid x y) down;
}

module _ (view : PlainView) (bounds : Rect) (canvas : Canvas) (children : Painter) (frame : Frame) (moved : IsMoved bounds canvas frame) (drawn : is_drawn view.facts.visibility ≡ true) where
  sized : size_of_rect bounds ≡ frame_size frame
  sized =
      let right = moved.right in
      let left = moved.left in
      let bottom = moved.bottom in
      let top = moved.top in
      let w : bounds.right -ℤ bounds.left ≡ frame.right -ℤ frame.left = omega (arith, ints, right, left) in
      let h : bounds.bottom -ℤ bounds.top ≡ frame.bottom -ℤ frame.top = omega (arith, ints, bottom, top) in
      rw (w, h) refl

  -- what is painted at a point
  point : (x y : ℤ) (u : Argb) → drawn_in (Some bounds) view children (x -ℤ canvas.left) (y -ℤ canvas.top) u
      ≡ (if frame_holds frame x y then content view (frame_size frame) children (x -ℤ frame.left) (y -ℤ frame.top) u else u)
  point x y u =
      let left = moved.left in
      let top = moved.top in
      let across : x -ℤ canvas.left -ℤ bounds.left ≡ x -ℤ frame.left = omega (arith, ints, left) in
      let down : y -ℤ canvas.top -ℤ bounds.top ≡ y -ℤ frame.top = omega (arith, ints, top) in
      ap (λ (t : Bool). if t && holds bounds (x -ℤ canvas.left) (y -ℤ canvas.top) then content view (size_of_rect bounds) children (x -ℤ canvas.left -ℤ bounds.left) (y -ℤ canvas.top -ℤ bounds.top) u else u) drawn
      ∙ ap (λ (t : Bool). if t then content view (size_of_rect bounds) children (x -ℤ canvas.left -ℤ bounds.left) (y -ℤ canvas.top -ℤ bounds.top) u else u) (sym (moved_holds bounds canvas frame moved x y))
      ∙ ap (λ (s : Size). if frame_holds frame x y then content view s children (x -ℤ canvas.left -ℤ bounds.left) (y -ℤ canvas.top -ℤ bounds.top) u else u) sized
      ∙ ap (λ (z : ℤ). if frame_holds frame x y then content view (frame_size frame) children z (y -ℤ canvas.top -ℤ bounds.top) u else u) across
      ∙ ap (λ (z : ℤ). if frame_holds frame x y then content view (frame_size frame) children (x -ℤ frame.left) z u else u) down

  -- a view of which nothing is seen
  pub unseen : (at : Raster) → ((x y : ℤ) → false ≡ (holds canvas.clip x y && frame_holds frame x y)) → PaintedIn canvas (drawn_in (Some bounds) view children) at at
  unseen at points = painted_nothing _ canvas.clip at (λ x y u h.
      point x y u ∙ ap (λ (t : Bool). if t then content view (frame_size frame) children (x -ℤ frame.left) (y -ℤ frame.top) u else u)
      (right_of (holds canvas.clip x y) (frame_holds frame x y) h (points x y)))

  -- a view whose background, ink and children were painted where they are seen
  seen_by : (part : Rect) (shown : ℤ → ℤ → Bool) (start mid inked end : Raster)
      → ((x y : ℤ) → holds part x y ≡ (holds canvas.clip x y && frame_holds frame x y))
      → Blends part view.facts.background start mid
      → IsPainted (from_origin frame.left frame.top (own_ink view (frame_size frame))) part mid inked
      → ((x y : ℤ) → shown x y ≡ (holds part x y && reaches_children view.facts (frame_size frame) (x -ℤ frame.left) (y -ℤ frame.top)))
      → IsPaintedWhereShown (λ x y u. children (x -ℤ frame.left) (y -ℤ frame.top +ℤ view.facts.offset) u) shown inked end
      → PaintedIn canvas (drawn_in (Some bounds) view children) start end
  seen_by part shown start mid inked end points back ink reach kids =
      record {
        width = kids.width ∙ ink.width ∙ back.width;
        height = kids.height ∙ ink.height ∙ back.height;
        colors = λ x y xw yh.
            let size = frame_size frame in
            let at : ℤ = pos x -ℤ frame.left in
            let down : ℤ = pos y -ℤ frame.top in
            let a = holds canvas.clip (pos x) (pos y) in
            let b = frame_holds frame (pos x) (pos y) in
            let i = has_ink view size at down in
            let c = reaches_children view.facts size at down in
            let old = color_at start x y in
            let over = color_at mid x y in
            let now = color_at inked x y in
            let m : over ≡ (if a && b then blend_of view.facts.background old else old) =
            back.colors x y xw yh ∙ ap (λ (t : Bool). if t then blend_of view.facts.background old else old) (points (pos x) (pos y)) in
            let n : now ≡ (if a && b then (if i then blend_of view.facts.ink over else over) else over) =
            ink.colors x y (rw back.width xw) (rw back.height yh)
            ∙ ap (λ (t : Bool). if t then (if i then blend_of view.facts.ink over else over) else over) (points (pos x) (pos y)) in
            let e : color_at end x y ≡ (if (a && b) && c then children at (down +ℤ view.facts.offset) now else now) =
            kids.colors x y (rw (ink.width, back.width) xw) (rw (ink.height, back.height) yh)
            ∙ ap (λ (t : Bool). if t then children at (down +ℤ view.facts.offset) now else now) (reach (pos x) (pos y) ∙ ap (λ (t : Bool). t && c) (points (pos x) (pos y))) in
            pixel_of a b i c (children at (down +ℤ view.facts.offset)) (blend_of view.facts.ink) (blend_of view.facts.background) old over now (color_at end x y) m n e
            ∙ ap (λ (v : Argb). if a then v else old) (sym (point (pos x) (pos y) old));
      }

  pub seen : (part : Rect) (result : Option Canvas) (start mid inked end : Raster)
      → ((x y : ℤ) → holds part x y ≡ (holds canvas.clip x y && frame_holds frame x y))
      → Blends part view.facts.background start mid
      → IsPainted (from_origin frame.left frame.top (own_ink view (frame_size frame))) part mid inked
      → ((x y : ℤ) → canvas_holds result x y ≡ (holds part x y && reaches_children view.facts (frame_size frame) (x -ℤ frame.left) (y -ℤ frame.top)))
      → IfSome result (IsBelow frame view.facts.offset) → ChildrenPainted result children inked end
      → PaintedIn canvas (drawn_in (Some bounds) view children) start end
  seen part result start mid inked end points back ink reach below rest =
      seen_by part (canvas_holds result) start mid inked end points back ink reach (children_shown frame view.facts.offset result children inked end below rest)

  -- the same of a view without children
  pub seen_leaf : (part : Rect) (start mid inked : Raster)
      → ((x y : ℤ) → holds part x y ≡ (holds canvas.clip x y && frame_holds frame x y))
      → Blends part view.facts.background start mid
      → IsPainted (from_origin frame.left frame.top (own_ink view (frame_size frame))) part mid inked
      → PaintsNothing children
      → PaintedIn canvas (drawn_in (Some bounds) view children) start inked
  seen_leaf part start mid inked points back ink none =
      seen_by part shown start mid inked inked points back ink (λ x y. refl)
      (record { width = refl; height = refl; colors = λ x y xw yh. stays (shown (pos x) (pos y)) _ (color_at inked x y) (none _ _ (color_at inked x y)) })
    where
      shown : ℤ → ℤ → Bool
      shown x y = holds part x y && reaches_children view.facts (frame_size frame) (x -ℤ frame.left) (y -ℤ frame.top)

      stays : (t : Bool) (v u : Argb) → v ≡ u → u ≡ (if t then v else u)
      stays true v u e = sym e
      stays false v u e = refl

-- a view that is not drawn
pub hidden : (view : PlainView) (bounds : Rect) (canvas : Canvas) (children : Painter) (at : Raster) → is_drawn view.facts.visibility ≡ false
    → PaintedIn canvas (drawn_in (Some bounds) view children) at at
hidden view bounds canvas children at off = painted_nothing _ canvas.clip at (λ x y u h. not_drawn (is_drawn view.facts.visibility) _ _ u off)
  where
    not_drawn : (d t : Bool) (v u : Argb) → d ≡ false → (if d && t then v else u) ≡ u
    not_drawn true t v u e = absurd (cc)
    not_drawn false t v u e = refl

-- a view of which nothing would be seen if it were drawn
pub outside : (view : PlainView) (bounds : Rect) (canvas : Canvas) (children : Painter) (frame : Frame) → IsMoved bounds canvas frame → (at : Raster)
    → ((x y : ℤ) → false ≡ (holds canvas.clip x y && frame_holds frame x y)) → PaintedIn canvas (drawn_in (Some bounds) view children) at at
outside view bounds canvas children frame moved at points = elim (cases_Bool (is_drawn view.facts.visibility)) [
  | inl drawn ↦ unseen view bounds canvas children frame moved drawn at points
  | inr off ↦ hidden view bounds canvas children at off
]

-- a view that has no text, and whose background and children leave each colour as it is
clear_content : (text a t c : Bool) (ink kids : Argb → Argb) (back under : Argb) → text ≡ false → ((u : Argb) → kids u ≡ u) → back ≡ under
    → (let own = if (text && a) && t then ink back else back in if c then kids own else own) ≡ under
clear_content true a t c ink kids back under off none is = absurd (cc)
clear_content false a t true ink kids back under off none is = none back ∙ is
clear_content false a t false ink kids back under off none is = is

clear_drawn : (bounds : Option Rect) (view : PlainView) (children : Painter) (x y : ℤ) (under : Argb) → has_text view.class ≡ false → PaintsNothing children
    → blend_of view.facts.background under ≡ under → drawn_in bounds view children x y under ≡ under
clear_drawn None view children x y under off none is = refl
clear_drawn (Some rect) view children x y under off none is =
    shown (is_drawn view.facts.visibility && holds rect x y) _ under
    (clear_content (has_text view.class) _ _ _ (blend_of view.facts.ink) (children _ _) _ under off (none _ _) is)
  where
    shown : (d : Bool) (v u : Argb) → v ≡ u → (if d then v else u) ≡ u
    shown true v u e = e
    shown false v u e = refl

-- such a view, whose background was blended without an effect
pub blank : (bounds : Option Rect) (view : PlainView) (canvas : Canvas) (children : Painter) (at : Raster) → has_text view.class ≡ false → PaintsNothing children
    → Blends canvas.clip view.facts.background at at → PaintedIn canvas (drawn_in bounds view children) at at
blank bounds view canvas children at off none back = record {
  width = refl;
  height = refl;
  colors = λ x y xw yh.
      by_clip (holds canvas.clip (pos x) (pos y)) (blend_of view.facts.background (color_at at x y)) _ (color_at at x y)
      (back.colors x y xw yh) (λ is. clear_drawn bounds view children (pos x -ℤ canvas.left) (pos y -ℤ canvas.top) (color_at at x y) off none is);
}
  where
    by_clip : (t : Bool) (blended drawn u : Argb) → u ≡ (if t then blended else u) → (blended ≡ u → drawn ≡ u) → u ≡ (if t then drawn else u)
    by_clip true blended drawn u e h = sym (h (sym e))
    by_clip false blended drawn u e h = refl
