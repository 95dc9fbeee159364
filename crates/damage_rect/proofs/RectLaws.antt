-- Points of the intersection of two rectangles, and of the smallest rectangle around both.
use Rattle.std.proofs.Common.{◌≡◌, ℤ, ◌≤ℤ◌, ◌<ℤ◌, pos, ◌-ℤ◌, Bool, true, false, refl, sym, ◌∙◌, arith}
use Rattle.std.proofs.lemmas.Bool.{and_parts}
use Rattle.std.specs.Prelude.{◌&&◌, ◌||◌, not, int_lt, if◌then◌else◌}
use Rattle.std.proofs.lemmas.Int.{ints}
use Rattle.geom_core.specs.declared.geometry.Rect.{Rect}
use Rattle.geom_core.specs.Rects.{around_of, empty_rect, holds, hull_of, is_empty, larger_of, meet_of, overlap_of, smaller_of}
use Rattle.damage_rect.specs.Within.{IsInside, LiesIn}

-- a place between two edges
abbrev pub among : ℤ → ℤ → ℤ → Bool
among low high at = not (int_lt at low) && int_lt at high

both_among : (a b c d at : ℤ) → among (larger_of a c) (smaller_of b d) at ≡ (among a b at && among c d at)
unfolding larger_of smaller_of
both_among a b c d at = grind (arith, ints)

swap_middle : (p q r s : Bool) → ((p && q) && (r && s)) ≡ ((p && r) && (q && s))
swap_middle true true true s = refl
swap_middle true true false s = refl
swap_middle true false true s = refl
swap_middle true false false s = refl
swap_middle false q r s = refl

pub overlap_holds : (a b : Rect) (x y : ℤ) → holds (overlap_of a b) x y ≡ (holds a x y && holds b x y)
overlap_holds a b x y =
    rw (both_among a.left a.right b.left b.right x, both_among a.top a.bottom b.top b.bottom y)
    (swap_middle (among a.left a.right x) (among b.left b.right x) (among a.top a.bottom y) (among b.top b.bottom y))

-- what a test of two has shown
module _ where
  pub and_true : (s t : Bool) → s ≡ true → t ≡ true → (s && t) ≡ true
  and_true s t e f = rw (e, f) refl

  pub and_none : (s t : Bool) → t ≡ false → (s && t) ≡ false
  and_none true t h = h
  and_none false t h = refl

-- a point that lies in a rectangle lies between its edges
pub record Between (rect : Rect) (x y : ℤ) : Type 0 where
  pub left : rect.left ≤ℤ x
  pub right : x <ℤ rect.right
  pub top : rect.top ≤ℤ y
  pub bottom : y <ℤ rect.bottom

lt_of : (a b : ℤ) → int_lt a b ≡ true → a <ℤ b
lt_of a b e = grind (arith, ints)

ge_of : (a b : ℤ) → not (int_lt a b) ≡ true → b ≤ℤ a
ge_of a b e = grind (arith, ints)

lt_test : (a b : ℤ) → a <ℤ b → int_lt a b ≡ true
lt_test a b h = grind (arith, ints)

ge_test : (a b : ℤ) → b ≤ℤ a → not (int_lt a b) ≡ true
ge_test a b h = grind (arith, ints)

pub between : (rect : Rect) (x y : ℤ) → holds rect x y ≡ true → Between rect x y
between rect x y e =
    let h = and_parts (among rect.left rect.right x) (among rect.top rect.bottom y) e in
    let across = and_parts (not (int_lt x rect.left)) (int_lt x rect.right) h.0 in
    let down = and_parts (not (int_lt y rect.top)) (int_lt y rect.bottom) h.1 in
    record { left = ge_of x rect.left across.0; right = lt_of x rect.right across.1; top = ge_of y rect.top down.0; bottom = lt_of y rect.bottom down.1 }

pub is_between : (rect : Rect) (x y : ℤ) → Between rect x y → holds rect x y ≡ true
is_between rect x y b =
    and_true (among rect.left rect.right x) (among rect.top rect.bottom y)
    (and_true (not (int_lt x rect.left)) (int_lt x rect.right) (ge_test x rect.left b.left) (lt_test x rect.right b.right))
    (and_true (not (int_lt y rect.top)) (int_lt y rect.bottom) (ge_test y rect.top b.top) (lt_test y rect.bottom b.bottom))

-- a rectangle without a point has none
pub record Wide (rect : Rect) : Type 0 where
  pub across : rect.left <ℤ rect.right
  pub down : rect.top <ℤ rect.bottom

wide_by : (l r t b : ℤ) → (not (int_lt l r) || not (int_lt t b)) ≡ false → (l <ℤ r) × (t <ℤ b)
wide_by l r t b e = (grind (arith, ints), grind (arith, ints))

pub wide : (rect : Rect) → is_empty rect ≡ false → Wide rect
wide rect e = let p = wide_by rect.left rect.right rect.top rect.bottom e in record { across = p.0; down = p.1 }

none_by : (l r t b x y : ℤ) → (not (int_lt l r) || not (int_lt t b)) ≡ true → (among l r x && among t b y) ≡ false
none_by l r t b x y e = grind (arith, ints)

pub empty_none : (rect : Rect) (x y : ℤ) → is_empty rect ≡ true → holds rect x y ≡ false
empty_none rect x y e = none_by rect.left rect.right rect.top rect.bottom x y e

pub holds_none : (x y : ℤ) → holds empty_rect x y ≡ false
holds_none x y = empty_none empty_rect x y refl

meet_by : (a b : Rect) (x y : ℤ) (t : Bool) → is_empty (overlap_of a b) ≡ t → holds (if t then empty_rect else overlap_of a b) x y ≡ (holds a x y && holds b x y)
meet_by a b x y true e = holds_none x y ∙ sym (empty_none (overlap_of a b) x y e) ∙ overlap_holds a b x y
meet_by a b x y false e = overlap_holds a b x y

-- what two have in common
pub meet_holds : (a b : Rect) (x y : ℤ) → holds (meet_of a b) x y ≡ (holds a x y && holds b x y)
unfolding meet_of
meet_holds a b x y = meet_by a b x y (is_empty (overlap_of a b)) refl

absurd_test : {X : Type 0} (t : Bool) → t ≡ true → t ≡ false → X
absurd_test true e f = absurd (cc)
absurd_test false e f = absurd (cc)

-- one without a point lies in each
pub empty_within : (inner outer : Rect) → is_empty inner ≡ true → LiesIn inner outer
empty_within inner outer e x y h = absurd_test (holds inner x y) h (empty_none inner x y e)

-- a point outside of a rectangle is outside of what lies in it
pub outside : (less more : Rect) → LiesIn less more → (x y : ℤ) → holds more x y ≡ false → holds less x y ≡ false
outside less more grew x y out = by (holds less x y) refl
  where
    by : (t : Bool) → holds less x y ≡ t → holds less x y ≡ false
    by true e = absurd (let f : true ≡ false = sym (grew x y e) ∙ out in cc)
    by false e = e

-- what two have in common lies in the second
pub meet_within_second : (a b : Rect) → LiesIn (meet_of a b) b
meet_within_second a b x y h = (and_parts (holds a x y) (holds b x y) (sym (meet_holds a b x y) ∙ h)).1

empty_by : (rect : Rect) → ((x y : ℤ) → holds rect x y ≡ false) → (t : Bool) → is_empty rect ≡ t → t ≡ true
empty_by rect none true e = refl
empty_by rect none false e =
    let w = wide rect e in
    let across = w.across in
    let down = w.down in
    let has : holds rect rect.left rect.top ≡ true = is_between rect rect.left rect.top (record { left = omega (arith, ints); right = across; top = omega (arith, ints); bottom = down }) in
    sym (none rect.left rect.top) ∙ has

-- what two without a common point have in common
pub meet_none : (a b : Rect) → ((x y : ℤ) → (holds a x y && holds b x y) ≡ false) → meet_of a b ≡ empty_rect
unfolding meet_of
meet_none a b none =
    let empty : is_empty (overlap_of a b) ≡ true = empty_by (overlap_of a b) (λ x y. overlap_holds a b x y ∙ none x y) (is_empty (overlap_of a b)) refl in
    rw empty refl

around_first : (a b : Rect) (x y : ℤ) → Between a x y → Between (around_of a b) x y
unfolding smaller_of larger_of
around_first a b x y h = record {
  left = let e = h.left in grind (arith, ints);
  right = let e = h.right in grind (arith, ints);
  top = let e = h.top in grind (arith, ints);
  bottom = let e = h.bottom in grind (arith, ints);
}

around_second : (a b : Rect) (x y : ℤ) → Between b x y → Between (around_of a b) x y
unfolding smaller_of larger_of
around_second a b x y h = record {
  left = let e = h.left in grind (arith, ints);
  right = let e = h.right in grind (arith, ints);
  top = let e = h.top in grind (arith, ints);
  bottom = let e = h.bottom in grind (arith, ints);
}

abbrev hull_by : Bool → Bool → Rect → Rect → Rect
hull_by none_a none_b a b = if none_a then (if none_b then empty_rect else b) else (if none_b then a else around_of a b)

hull_first : (a b : Rect) (s t : Bool) → is_empty a ≡ s → is_empty b ≡ t → LiesIn a (hull_by s t a b)
hull_first a b true t e f x y h = absurd_test (holds a x y) h (empty_none a x y e)
hull_first a b false true e f x y h = h
hull_first a b false false e f x y h = is_between (around_of a b) x y (around_first a b x y (between a x y h))

hull_second : (a b : Rect) (s t : Bool) → is_empty a ≡ s → is_empty b ≡ t → LiesIn b (hull_by s t a b)
hull_second a b s true e f x y h = absurd_test (holds b x y) h (empty_none b x y f)
hull_second a b true false e f x y h = h
hull_second a b false false e f x y h = is_between (around_of a b) x y (around_second a b x y (between b x y h))

-- each of two lies in what is around both
pub in_hull_first : (a b : Rect) → LiesIn a (hull_of a b)
unfolding hull_of
in_hull_first a b = hull_first a b (is_empty a) (is_empty b) refl refl

pub in_hull_second : (a b : Rect) → LiesIn b (hull_of a b)
unfolding hull_of
in_hull_second a b = hull_second a b (is_empty a) (is_empty b) refl refl

-- the edges of a rectangle with a point that lies in another
pub inside : (inner outer : Rect) → Wide inner → LiesIn inner outer → IsInside outer inner
inside inner outer w lies =
    let across = w.across in
    let down = w.down in
    let first : Between outer inner.left inner.top = between outer inner.left inner.top (lies inner.left inner.top (is_between inner inner.left inner.top
    (record { left = omega (arith, ints); right = across; top = omega (arith, ints); bottom = down }))) in
    let last : Between outer (inner.right -ℤ pos 1) (inner.bottom -ℤ pos 1) = between outer (inner.right -ℤ pos 1) (inner.bottom -ℤ pos 1) (lies (inner.right -ℤ pos 1) (inner.bottom -ℤ pos 1)
    (is_between inner (inner.right -ℤ pos 1) (inner.bottom -ℤ pos 1)
    (record { left = omega (arith, ints); right = omega (arith, ints); top = omega (arith, ints); bottom = omega (arith, ints) }))) in
    let right = last.right in
    let bottom = last.bottom in
    record { left = first.left; top = first.top; right = omega (arith, ints); bottom = omega (arith, ints) }

around_least : (a b box : Rect) → IsInside box a → IsInside box b → LiesIn (around_of a b) box
unfolding smaller_of larger_of
around_least a b box p q x y h =
    let e = between (around_of a b) x y h in
    is_between box x y (record {
      left = let e = e.left in let p = p.left in let q = q.left in grind (arith, ints);
      right = let e = e.right in let p = p.right in let q = q.right in grind (arith, ints);
      top = let e = e.top in let p = p.top in let q = q.top in grind (arith, ints);
      bottom = let e = e.bottom in let p = p.bottom in let q = q.bottom in grind (arith, ints);
    })

least : (a b box : Rect) (s t : Bool) → is_empty a ≡ s → is_empty b ≡ t → LiesIn a box → LiesIn b box → LiesIn (hull_by s t a b) box
least a b box true true e f p q x y h = absurd_test (holds empty_rect x y) h (holds_none x y)
least a b box true false e f p q x y h = q x y h
least a b box false true e f p q x y h = p x y h
least a b box false false e f p q x y h = around_least a b box (inside a box (wide a e) p) (inside b box (wide b f) q) x y h

-- and nothing around both is smaller
pub hull_least : (a b box : Rect) → LiesIn a box → LiesIn b box → LiesIn (hull_of a b) box
unfolding hull_of
hull_least a b box p q = least a b box (is_empty a) (is_empty b) refl refl p q

-- a point outside of what is around two is in neither
pub outside_first : (a b : Rect) (x y : ℤ) → holds (hull_of a b) x y ≡ false → holds a x y ≡ false
outside_first a b x y out = not_in (holds a x y) refl
  where
    not_in : (t : Bool) → holds a x y ≡ t → holds a x y ≡ false
    not_in true e = absurd_test (holds (hull_of a b) x y) (in_hull_first a b x y e) out
    not_in false e = e

pub outside_second : (a b : Rect) (x y : ℤ) → holds (hull_of a b) x y ≡ false → holds b x y ≡ false
outside_second a b x y out = not_in (holds b x y) refl
  where
    not_in : (t : Bool) → holds b x y ≡ t → holds b x y ≡ false
    not_in true e = absurd_test (holds (hull_of a b) x y) (in_hull_second a b x y e) out
    not_in false e = e
