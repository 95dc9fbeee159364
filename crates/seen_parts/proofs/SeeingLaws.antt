-- Canvases of the code, and those that are defined.
use Rattle.std.proofs.Common.{◌≡◌, ℤ, ◌+ℤ◌, ◌<ℤ◌, Bool, true, false, Option, Some, None, refl, sym, ap, ◌∙◌, arith}
use Rattle.std.specs.Prelude.{IfSome, MatchOption, ◌&&◌, ◌||◌, not, int_lt, if◌then◌else◌}
use Rattle.std.proofs.lemmas.Int.{ints}
use Rattle.damage_rect.proofs.RectLaws.{meet_holds, meet_none}
use Rattle.geom_core.specs.Rects.{empty_rect, holds, is_empty, larger_of, meet_of, overlap_of, smaller_of}
use Rattle.geom_core.specs.declared.geometry.Rect.{Rect}
use Rattle.seen_parts.specs.Frames.{IsBelow, IsMoved, IsCommonPart, IsWithout, frame_holds, padding_of}
use Rattle.seen_parts.specs.Meeting.{as_seen}
use Rattle.seen_parts.specs.declared.frame.Canvas.{Canvas as FramedCanvas}
use Rattle.seen_parts.specs.declared.frame.Frame.{Frame}
use Rattle.view_model.specs.declared.facts.Facts.{Facts}
use Rattle.view_model.specs.Geometry.{size_of_rect}
use Rattle.view_model.specs.Painting.{inner_rect}
use Rattle.view_model.specs.Visible.{Canvas, canvas_below, moved_rect, seen_in}

-- a frame has the edges of a rectangle
pub record FrameOf (rect : Rect) (frame : Frame) : Type 0 where
  pub left : frame.left ≡ rect.left
  pub top : frame.top ≡ rect.top
  pub right : frame.right ≡ rect.right
  pub bottom : frame.bottom ≡ rect.bottom

larger_turned : (a b : ℤ) → larger_of a b ≡ larger_of b a
unfolding larger_of
larger_turned a b = grind (arith, ints)

smaller_turned : (a b : ℤ) → smaller_of a b ≡ smaller_of b a
unfolding smaller_of
smaller_turned a b = grind (arith, ints)

not_empty : (l r t b : ℤ) → l <ℤ r → t <ℤ b → (not (int_lt l r) || not (int_lt t b)) ≡ false
not_empty l r t b across down = grind (arith, ints)

-- what a frame has in common with a clip
pub part_is_meet : (rect clip : Rect) (frame : Frame) (part : Rect) → FrameOf rect frame → IsCommonPart clip frame part → part ≡ meet_of rect clip
unfolding meet_of
part_is_meet rect clip frame part of cut =
    let over : overlap_of rect clip ≡ part = overlap in
    let empty : is_empty (overlap_of rect clip) ≡ false = ap is_empty over ∙ not_empty part.left part.right part.top part.bottom cut.across cut.down in
    rw empty (sym over)
  where
    overlap : overlap_of rect clip ≡ part
    overlap =
        rw (
          larger_turned rect.left clip.left,
          larger_turned rect.top clip.top,
          smaller_turned rect.right clip.right,
          smaller_turned rect.bottom clip.bottom,
          ← of.left,
          ← of.top,
          ← of.right,
          ← of.bottom,
          ← cut.left,
          ← cut.top,
          ← cut.right,
          ← cut.bottom,
        ) refl

frame_is : (rect : Rect) (frame : Frame) → FrameOf rect frame → (x y : ℤ) → frame_holds frame x y ≡ holds rect x y
frame_is rect frame of x y = rw (of.left, of.top, of.right, of.bottom) refl

swap : (s t : Bool) → (s && t) ≡ (t && s)
swap true true = refl
swap true false = refl
swap false true = refl
swap false false = refl

pub none_is_meet : (rect clip : Rect) (frame : Frame) → FrameOf rect frame → ((x y : ℤ) → false ≡ (holds clip x y && frame_holds frame x y)) → empty_rect ≡ meet_of rect clip
none_is_meet rect clip frame of none =
    sym (meet_none rect clip λ x y. swap (holds rect x y) (holds clip x y) ∙ ap (λ (t : Bool). holds clip x y && t) (sym (frame_is rect frame of x y)) ∙ sym (none x y))

-- a frame of a canvas is a rectangle that was moved
pub moved_of : (rect : Rect) (canvas : FramedCanvas) (frame : Frame) → IsMoved rect canvas frame → FrameOf (moved_rect rect canvas.left canvas.top) frame
moved_of rect canvas frame m = record { left = m.left; top = m.top; right = m.right; bottom = m.bottom }

-- and without padding
pub inner_of : (facts : Facts) (rect : Rect) (canvas : FramedCanvas) (frame within : Frame) → IsMoved rect canvas frame → IsWithout frame (padding_of facts) within
    → FrameOf (moved_rect (inner_rect facts (size_of_rect rect)) (rect.left +ℤ canvas.left) (rect.top +ℤ canvas.top)) within
inner_of facts rect canvas frame within m w =
    let l = m.left in
    let t = m.top in
    let r = m.right in
    let b = m.bottom in
    let wl = w.left in
    let wt = w.top in
    let wr = w.right in
    let wb = w.bottom in
    record { left = omega (arith, ints); top = omega (arith, ints); right = omega (arith, ints); bottom = omega (arith, ints) }

-- the canvas of children that padding does not cut off
pub open_below : (facts : Facts) (rect : Rect) (canvas inner : FramedCanvas) (frame : Frame) (part : Rect) → facts.clip ≡ false → IsMoved rect canvas frame → IsBelow frame facts.offset inner
    → inner.clip ≡ part → part ≡ seen_in (Some rect) (as_seen canvas) → as_seen inner ≡ canvas_below (Some rect) facts (as_seen canvas)
open_below facts rect canvas inner frame part opened m below clip seen =
    rw (opened, ← seen, ← clip, ← m.left, ← m.top, ← below.left, ← below.top) refl

pub closed_below : (facts : Facts) (rect : Rect) (canvas inner : FramedCanvas) (frame : Frame) (part within : Rect) → facts.clip ≡ true → IsMoved rect canvas frame → IsBelow frame facts.offset inner
    → inner.clip ≡ within → part ≡ seen_in (Some rect) (as_seen canvas)
    → within ≡ meet_of (moved_rect (inner_rect facts (size_of_rect rect)) (rect.left +ℤ canvas.left) (rect.top +ℤ canvas.top)) part
    → as_seen inner ≡ canvas_below (Some rect) facts (as_seen canvas)
closed_below facts rect canvas inner frame part within closed m below clip seen cut =
    rw (closed, ← seen, ← cut, ← clip, ← m.left, ← m.top, ← below.left, ← below.top) refl

and_none : (s t : Bool) → t ≡ false → (s && t) ≡ false
and_none true t e = e
and_none false t e = refl

-- where nothing is seen of a view, nothing is seen of its children
pub unseen_below : (facts : Facts) (rect : Rect) (canvas : Canvas) (x y : ℤ) → holds (seen_in (Some rect) canvas) x y ≡ false → holds (canvas_below (Some rect) facts canvas).clip x y ≡ false
unseen_below facts rect canvas x y none = by facts.clip
  where
    by : (clip : Bool) → holds (if clip then meet_of (moved_rect (inner_rect facts (size_of_rect rect)) (rect.left +ℤ canvas.left) (rect.top +ℤ canvas.top)) (seen_in (Some rect) canvas) else seen_in (Some rect) canvas) x y ≡ false
    by true = meet_holds (moved_rect (inner_rect facts (size_of_rect rect)) (rect.left +ℤ canvas.left) (rect.top +ℤ canvas.top)) (seen_in (Some rect) canvas) x y ∙ and_none _ _ none
    by false = none

-- nor where padding cuts off all of them
pub unseen_closed : (facts : Facts) (rect : Rect) (canvas : Canvas) (part : Rect) (x y : ℤ) → facts.clip ≡ true → part ≡ seen_in (Some rect) canvas
    → holds (meet_of (moved_rect (inner_rect facts (size_of_rect rect)) (rect.left +ℤ canvas.left) (rect.top +ℤ canvas.top)) part) x y ≡ false
    → holds (canvas_below (Some rect) facts canvas).clip x y ≡ false
unseen_closed facts rect canvas part x y closed seen none = rw closed (rw seen at none)

pub stays_by : (answer : Option FramedCanvas) (none : Type 0) (is : FramedCanvas → Type 0) (more : Type 0) → more → MatchOption answer none is → IfSome answer (λ inner. more × is inner)
stays_by None none is more h below = tt
stays_by (Some inner) none is more h below = (h, below)
