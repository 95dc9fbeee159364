-- Areas of parts of a picture, and counts that rise by them.
use Rattle.std.proofs.Common.{◌≡◌, ℕ, ◌+◌, ◌-◌, ◌*◌, ◌<◌, ◌≤◌, ◌^◌, min, ℤ, pos, negsuc, ◌≤ℤ◌, ◌<ℤ◌, ◌+ℤ◌, ◌-ℤ◌, inl, inr, refl, ◌∙◌, ap, subst, arith}
use Rattle.std.specs.Int.{int_max, int_min}
use Rattle.std.specs.Prelude.{Bool, true, false, int_lt, IfSome, Option, Some, None}
use Rattle.std.proofs.lemmas.Bool.{cases_lt}
use Rattle.std.proofs.lemmas.Int.{ints}
use Rattle.std.proofs.lemmas.Nat.{mul-le}
use Rattle.std.proofs.Math.Nat.{mul-add}
use Rattle.geom_core.specs.declared.color.Argb.{Argb}
use Rattle.geom_core.specs.declared.geometry.Rect.{Rect}
use Rattle.pixel_raster.specs.Cuts.{cut_of, edge_within, from_zero}
use Rattle.pixel_raster.specs.Raster.{Fills, FillsUnlessClear, Raster}
use Rattle.view_model.specs.declared.work.Work.{Work}
use Rattle.seen_parts.specs.declared.frame.Canvas.{Canvas}
use Rattle.tree_painter.specs.Areas.{area_between, column_at, edge_at, row_at, strip_between}
use Rattle.damage_rect.specs.Within.{IsInside}
use Rattle.tree_painter.specs.Painted.{IsCounted, area_in}

edge_grows : (limit : ℕ) (a b : ℤ) → a ≤ℤ b → edge_within limit a ≤ edge_within limit b
unfolding edge_within from_zero
edge_grows limit (pos a) (pos b) le = let h : a ≤ b = omega (arith, ints) in omega arith
edge_grows limit (pos a) (negsuc b) le = absurd (omega (arith, ints))
edge_grows limit (negsuc a) b le = omega arith

bounded_grows : (low high a b : ℤ) → a ≤ℤ b → int_max low (int_min high a) ≤ℤ int_max low (int_min high b)
bounded_grows low high a b le = grind (arith, ints)

pub edge_at-grows : (limit : ℕ) (low high a b : ℤ) → a ≤ℤ b → edge_at limit low high a ≤ edge_at limit low high b
unfolding edge_at
edge_at-grows limit low high a b le = edge_grows limit _ _ (bounded_grows low high a b le)

-- no edge of a clip is left of its left one or right of its right one
at_high : (low high a : ℤ) → int_max low (int_min high a) ≤ℤ int_max low (int_min high high)
at_high low high a = grind (arith, ints)

at_low : (low high a : ℤ) → int_max low (int_min high low) ≤ℤ int_max low (int_min high a)
at_low low high a = grind (arith, ints)

pub edge_at-high : (limit : ℕ) (low high a : ℤ) → edge_at limit low high a ≤ edge_at limit low high high
unfolding edge_at
edge_at-high limit low high a = edge_grows limit _ _ (at_high low high a)

pub edge_at-low : (limit : ℕ) (low high a : ℤ) → edge_at limit low high low ≤ edge_at limit low high a
unfolding edge_at
edge_at-low limit low high a = edge_grows limit _ _ (at_low low high a)

-- a rectangle in another one has no greater area
pub inside_area : (picture : Raster) (outer inner : Rect) → IsInside outer inner → area_in picture inner ≤ area_in picture outer
unfolding cut_of
inside_area picture outer inner i =
    let l = edge_grows picture.width outer.left inner.left i.left in
    let r = edge_grows picture.width inner.right outer.right i.right in
    let t = edge_grows picture.height outer.top inner.top i.top in
    let b = edge_grows picture.height inner.bottom outer.bottom i.bottom in
    mul-le _ _ _ _ (omega arith) (omega arith)

-- parts side by side, and parts one below the other
pub beside : (p q r high : ℕ) → p + q ≤ r → p * high + q * high ≤ r * high
beside p q r high le = let both : (p + q) * high ≤ r * high = mul-le _ _ _ _ le (omega arith) in omega arith

pub beneath : (wide p q r : ℕ) → p + q ≤ r → wide * p + wide * q ≤ wide * r
beneath wide p q r le = let both : wide * (p + q) ≤ wide * r = mul-le _ _ _ _ (omega arith) le in rw (← mul-add wide p q) both

pub counted_none : (most : ℕ) (at : Raster) (work : Work) → IsCounted most at at work work
counted_none most at work = record { grew = omega arith; filled_grew = omega arith; bound = omega arith; alike = λ p q. omega arith; measured = refl }

pub counted_fill : (most : ℕ) (rect : Rect) (color : Argb) (old new : Raster) (before after : Work) → Fills rect color old new
    → after ≡ record before { painted = min (before.painted + area_in old rect) (2 ^ 64 - 1) } → before.painted ≤ after.painted → area_in old rect ≤ most
    → IsCounted most old new before after
counted_fill most rect color old new before after fills count grew le =
    let painted : after.painted ≡ min (before.painted + area_in old rect) (2 ^ 64 - 1) = ap (λ (w : Work). w.painted) count in
    let filled = fills.filled in
    let filled_grew = fills.grew in
    record {
      grew = grew;
      filled_grew = fills.grew;
      bound = omega arith;
      alike = λ p q. omega arith;
      measured = ap (λ (w : Work). w.measured) count;
    }

-- a colour that covers nothing counts nothing, and any other one as a fill does
pub counted_blend : (most : ℕ) (rect : Rect) (color : Argb) (old new : Raster) (before after : Work) → FillsUnlessClear rect color old new before after
    → before.painted ≤ after.painted → area_in old rect ≤ most → IsCounted most old new before after
counted_blend most rect color old new before after (inl (clear, same, idle)) grew le = rw (same, idle) (counted_none most old before)
counted_blend most rect color old new before after (inr (shown, fills, count)) grew le = counted_fill most rect color old new before after fills count grew le

pub counted_then : (one two most : ℕ) (a b c : Raster) (u v w : Work) → one + two ≤ most → IsCounted one a b u v → IsCounted two b c v w → IsCounted most a c u w
counted_then one two most a b c u v w le x y = record {
  grew = let h = x.grew in let k = y.grew in omega arith;
  filled_grew = let h = x.filled_grew in let k = y.filled_grew in omega arith;
  bound = let h = x.bound in let k = y.bound in omega arith;
  alike = λ p q.
      let g = y.grew in
      let f = y.filled_grew in
      let h = x.alike (omega arith) (omega arith) in
      let k = y.alike p q in
      omega arith;
  measured = y.measured ∙ x.measured;
}

pub counted_same : (one most : ℕ) (a b : Raster) (u v : Work) → one ≡ most → IsCounted one a b u v → IsCounted most a b u v
counted_same one most a b u v is x = subst (λ (k : ℕ). IsCounted k a b u v) is x

-- areas are the same in pictures of the same size
pub area_same : (a b : Raster) (clip : Rect) (left top right bottom : ℤ) → a.width ≡ b.width → a.height ≡ b.height
    → area_between a clip left top right bottom ≡ area_between b clip left top right bottom
area_same a b clip left top right bottom width height = rw (width, height) refl

pub counted_within : (one most : ℕ) (a b : Raster) (u v : Work) → one ≤ most → IsCounted one a b u v → IsCounted most a b u v
counted_within one most a b u v le x = record {
  grew = x.grew;
  filled_grew = x.filled_grew;
  bound = let h = x.bound in omega arith;
  alike = x.alike;
  measured = x.measured;
}

-- a column of pixels in a line, and what is left right of it
pub line_area : (picture : Raster) (clip : Rect) (left top : ℤ) (x : ℕ)
    → area_between picture clip (left +ℤ pos x) top (left +ℤ pos x +ℤ pos 1) (top +ℤ pos 8) + area_between picture clip (left +ℤ pos (x + 1)) top clip.right (top +ℤ pos 8)
    ≤ area_between picture clip (left +ℤ pos x) top clip.right (top +ℤ pos 8)
line_area picture clip left top x =
    let next : left +ℤ pos x +ℤ pos 1 ≡ left +ℤ pos (x + 1) = omega (arith, ints) in
    let a : column_at picture clip (left +ℤ pos x) ≤ column_at picture clip (left +ℤ pos (x + 1)) = edge_at-grows picture.width clip.left clip.right _ _ (omega (arith, ints)) in
    let b : column_at picture clip (left +ℤ pos (x + 1)) ≤ column_at picture clip clip.right = edge_at-high picture.width clip.left clip.right _ in
    rw next (beside _ _ _ (row_at picture clip (top +ℤ pos 8) - row_at picture clip top) (omega arith))

-- all that is left of a line is within its strip
pub line_within : (picture : Raster) (clip : Rect) (at top bottom : ℤ) → area_between picture clip at top clip.right bottom ≤ strip_between picture clip top bottom
line_within picture clip at top bottom =
    let low : column_at picture clip clip.left ≤ column_at picture clip at = edge_at-low picture.width clip.left clip.right at in
    mul-le _ _ _ _ (omega arith) (omega arith)

-- a line of a text, and what is left below it
pub text_area : (picture : Raster) (clip : Rect) (top : ℤ)
    → strip_between picture clip top (top +ℤ pos 8) + strip_between picture clip (top +ℤ pos 8) clip.bottom ≤ strip_between picture clip top clip.bottom
text_area picture clip top =
    let a : row_at picture clip top ≤ row_at picture clip (top +ℤ pos 8) = edge_at-grows picture.height clip.top clip.bottom _ _ (omega (arith, ints)) in
    let b : row_at picture clip (top +ℤ pos 8) ≤ row_at picture clip clip.bottom = edge_at-high picture.height clip.top clip.bottom _ in
    beneath (column_at picture clip clip.right - column_at picture clip clip.left) _ _ _ (omega arith)

-- all that is left of a text is within its clip
whole_width : (limit : ℕ) (low high at : ℤ) → edge_at limit low high high - edge_at limit low high at ≤ edge_within limit high - edge_within limit low
unfolding edge_at
whole_width limit low high at =
    let left : low ≤ℤ int_max low (int_min high at) = grind (arith, ints) in
    let right : int_max low (int_min high high) ≡ int_max low high = grind (arith, ints) in
    let a = edge_grows limit low (int_max low (int_min high at)) left in
    by_order (int_lt high low) refl a right
  where
    by_order : (t : Bool) → int_lt high low ≡ t → edge_within limit low ≤ edge_within limit (int_max low (int_min high at)) → int_max low (int_min high high) ≡ int_max low high
        → edge_within limit (int_max low (int_min high high)) - edge_within limit (int_max low (int_min high at)) ≤ edge_within limit high - edge_within limit low
    by_order true e a r = let same : int_max low (int_min high high) ≡ low = grind (arith, ints) in rw same (omega arith)
    by_order false e a r = let same : int_max low (int_min high high) ≡ high = grind (arith, ints) in rw same (omega arith)

pub text_within : (picture : Raster) (clip : Rect) (top : ℤ) → strip_between picture clip top clip.bottom ≤ area_in picture clip
unfolding cut_of
text_within picture clip top =
    mul-le _ _ _ _ (whole_width picture.width clip.left clip.right clip.left) (whole_width picture.height clip.top clip.bottom top)

-- a column that is seen is not before the left edge of a clip, and is before its right edge
before_edge : (most k : ℕ) (at : ℤ) → k < edge_within most at → pos k <ℤ at
unfolding edge_within from_zero
before_edge most k (pos n) lt = let h : k < n = omega arith in omega (arith, ints)
before_edge most k (negsuc n) lt = absurd (omega arith)

after_edge : (most k : ℕ) (at : ℤ) → k < most → edge_within most at ≤ k → at ≤ℤ pos k
unfolding edge_within from_zero
after_edge most k (pos n) lt le = let h : n ≤ k = omega arith in omega (arith, ints)
after_edge most k (negsuc n) lt le = omega (arith, ints)

pub seen_from : (most first k : ℕ) (edge left x : ℤ) → first ≡ edge_within most (edge -ℤ left) → edge ≤ℤ x → x -ℤ left ≡ pos k → first ≤ k
seen_from most first k edge left x is le at = elim (cases_lt k first) [
  | inl lt ↦ let h = before_edge most k (edge -ℤ left) (omega (arith, is)) in absurd (omega (arith, ints))
  | inr ge ↦ ge
]

pub seen_to : (most last k : ℕ) (edge left x : ℤ) → last ≡ edge_within most (edge -ℤ left) → x <ℤ edge → x -ℤ left ≡ pos k → last ≤ k → most ≤ k
seen_to most last k edge left x is lt at le = elim (cases_lt k most) [
  | inl within ↦ let h = after_edge most k (edge -ℤ left) within (omega (arith, is)) in absurd (omega (arith, ints))
  | inr ge ↦ ge
]

-- the children's canvas is within that of their parent's siblings
pub narrower : (picture : Raster) (outer part : Rect) (result : Option Canvas) → area_in picture part ≤ area_in picture outer → IfSome result (λ (inner : Canvas). IsInside part inner.clip)
    → IfSome result (λ (inner : Canvas). area_in picture inner.clip ≤ area_in picture outer)
narrower picture outer part None le inside = tt
narrower picture outer part (Some inner) le inside = let less = inside_area picture part inner.clip inside in omega arith

pub area_in-same : (a b : Raster) (rect : Rect) → a.width ≡ b.width → a.height ≡ b.height → area_in a rect ≡ area_in b rect
area_in-same a b rect width height = rw (width, height) refl
