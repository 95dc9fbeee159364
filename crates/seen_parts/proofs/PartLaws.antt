-- The common part of a rectangle and a frame.
use Rattle.std.proofs.Common.{◌≡◌, ℤ, ◌≤ℤ◌, ◌<ℤ◌, Bool, false, sym, ap, ◌∙◌, arith}
use Rattle.std.specs.Prelude.{◌&&◌}
use Rattle.std.proofs.lemmas.Int.{ints}
use Rattle.damage_rect.proofs.RectLaws.{among, and_none, overlap_holds}
use Rattle.geom_core.specs.declared.geometry.Rect.{Rect}
use Rattle.geom_core.specs.Rects.{holds, larger_of, smaller_of}
use Rattle.seen_parts.specs.declared.frame.Frame.{Frame}
use Rattle.damage_rect.specs.Within.{IsInside}
use Rattle.seen_parts.specs.Frames.{IsCommonPart, frame_holds}

-- the rectangle of the edges of a frame
abbrev edges_of : Frame → Rect
edges_of frame = record { left = frame.left; top = frame.top; right = frame.right; bottom = frame.bottom }

pub part_is : (clip : Rect) (frame : Frame) (x y : ℤ)
    → (among (larger_of clip.left frame.left) (smaller_of clip.right frame.right) x && among (larger_of clip.top frame.top) (smaller_of clip.bottom frame.bottom) y)
    ≡ (holds clip x y && frame_holds frame x y)
part_is clip frame x y = overlap_holds clip (edges_of frame) x y

pub among_none : (low high at : ℤ) → high ≤ℤ low → among low high at ≡ false
among_none low high at le = grind (arith, ints)

-- where the edges of the common part lie
pub record Edges (clip : Rect) (frame : Frame) (l t r b : ℤ) : Type 0 where
  pub left : l ≡ larger_of clip.left frame.left
  pub top : t ≡ larger_of clip.top frame.top
  pub right : r ≡ smaller_of clip.right frame.right
  pub bottom : b ≡ smaller_of clip.bottom frame.bottom

pub part_some : (clip : Rect) (frame : Frame) (l t r b : ℤ) → Edges clip frame l t r b → (x y : ℤ)
    → (among l r x && among t b y) ≡ (holds clip x y && frame_holds frame x y)
part_some clip frame l t r b e x y = rw (e.left, e.top, e.right, e.bottom) (part_is clip frame x y)

pub none_across : (clip : Rect) (frame : Frame) (l t r b : ℤ) → Edges clip frame l t r b → r ≤ℤ l → (x y : ℤ) → false ≡ (holds clip x y && frame_holds frame x y)
none_across clip frame l t r b e le x y = ap (λ (v : Bool). v && among t b y) (sym (among_none l r x le)) ∙ part_some clip frame l t r b e x y

pub none_down : (clip : Rect) (frame : Frame) (l t r b : ℤ) → Edges clip frame l t r b → b ≤ℤ t → (x y : ℤ) → false ≡ (holds clip x y && frame_holds frame x y)
none_down clip frame l t r b e le x y = sym (and_none (among l r x) (among t b y) (among_none t b y le)) ∙ part_some clip frame l t r b e x y

pub part_rect : (clip : Rect) (frame : Frame) (l t r b : ℤ) (rect : Rect) → Edges clip frame l t r b → rect ≡ record { left = l; top = t; right = r; bottom = b }
    → (x y : ℤ) → holds rect x y ≡ (holds clip x y && frame_holds frame x y)
part_rect clip frame l t r b rect e is x y = ap (λ (r : Rect). holds r x y) is ∙ part_some clip frame l t r b e x y

later_low : (a c : ℤ) → a ≤ℤ larger_of a c
unfolding larger_of
later_low a c = grind (arith, ints)

earlier_high : (a c : ℤ) → smaller_of a c ≤ℤ a
unfolding smaller_of
earlier_high a c = grind (arith, ints)

pub part_inside : (clip : Rect) (frame : Frame) (l t r b : ℤ) (rect : Rect) → Edges clip frame l t r b → rect ≡ record { left = l; top = t; right = r; bottom = b } → IsInside clip rect
part_inside clip frame l t r b rect e is = rw is (record {
  left = rw e.left (later_low clip.left frame.left);
  top = rw e.top (later_low clip.top frame.top);
  right = rw e.right (earlier_high clip.right frame.right);
  bottom = rw e.bottom (earlier_high clip.bottom frame.bottom);
})

pub part_edges : (clip : Rect) (frame : Frame) (l t r b : ℤ) (rect : Rect) → Edges clip frame l t r b → rect ≡ record { left = l; top = t; right = r; bottom = b }
    → l <ℤ r → t <ℤ b → IsCommonPart clip frame rect
part_edges clip frame l t r b rect e is across down =
    rw is (record { left = e.left; top = e.top; right = e.right; bottom = e.bottom; across = across; down = down })
