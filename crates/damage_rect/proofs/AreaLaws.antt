-- The area of a rectangle that lies in another.
use Rattle.std.proofs.Common.{◌≡◌, ℕ, ◌*◌, ◌≤◌, ◌⊎◌, inl, inr, ℤ, ◌≤ℤ◌, pos, negsuc, ◌-ℤ◌, Bool, true, false, refl, arith, mul-le-mul}
use Rattle.std.specs.Int.{int_max}
use Rattle.std.specs.Prelude.{◌||◌, not, int_lt, unsigned_abs}
use Rattle.std.proofs.lemmas.Int.{ints}
use Rattle.geom_core.specs.declared.geometry.Rect.{Rect}
use Rattle.damage_rect.specs.Areas.{extent, rect_area}
use Rattle.geom_core.specs.Rects.{is_empty}
use Rattle.damage_rect.specs.Within.{IsInside, LiesIn}
use Rattle.damage_rect.proofs.RectLaws.{inside, wide}

at_most_zero : (n : ℕ) → int_max (pos 0) (negsuc n) ≡ pos 0
at_most_zero n = grind (arith, ints)

pub not_below_zero : (n : ℕ) → int_max (pos 0) (pos n) ≡ pos n
not_below_zero n = grind (arith, ints)

clamped_grows : (a b : ℤ) → a ≤ℤ b → unsigned_abs (int_max (pos 0) a) ≤ unsigned_abs (int_max (pos 0) b)
clamped_grows (pos m) (pos n) le = rw (not_below_zero m, not_below_zero n) (omega (arith, ints))
clamped_grows (pos m) (negsuc n) le = absurd (omega (arith, ints))
clamped_grows (negsuc m) b le = rw (at_most_zero m) (omega arith)

extent_grows : (a b c d : ℤ) → c ≤ℤ a → b ≤ℤ d → extent a b ≤ extent c d
extent_grows a b c d low high = clamped_grows (b -ℤ a) (d -ℤ c) (omega (arith, ints))

extent_none : (a b : ℤ) → b ≤ℤ a → extent a b ≤ 0
extent_none a b le = clamped_grows (b -ℤ a) (pos 0) (omega (arith, ints))

no_product : (a b : ℕ) → (a ≤ 0) ⊎ (b ≤ 0) → a * b ≤ 0
no_product a b (inl z) = let e : a ≡ 0 = omega arith in rw e (omega arith)
no_product a b (inr z) = let e : b ≡ 0 = omega arith in rw e (omega arith)

turned : (l r t b : ℤ) → (not (int_lt l r) || not (int_lt t b)) ≡ true → (r ≤ℤ l) ⊎ (b ≤ℤ t)
turned l r t b e = by (int_lt l r) refl e
  where
    by : (s : Bool) → int_lt l r ≡ s → (not s || not (int_lt t b)) ≡ true → (r ≤ℤ l) ⊎ (b ≤ℤ t)
    by true f e = inr (grind (arith, ints))
    by false f e = inl (grind (arith, ints))

-- a rectangle without a point
pub area_none : (rect : Rect) → is_empty rect ≡ true → rect_area rect ≤ 0
area_none rect e = no_product (extent rect.left rect.right) (extent rect.top rect.bottom) (elim (turned rect.left rect.right rect.top rect.bottom e) [
  | inl across ↦ inl (extent_none rect.left rect.right across)
  | inr down ↦ inr (extent_none rect.top rect.bottom down)
])

area_inside : (inner outer : Rect) → IsInside outer inner → rect_area inner ≤ rect_area outer
area_inside inner outer within =
    mul-le-mul (extent_grows inner.left inner.right outer.left outer.right within.left within.right) (extent_grows inner.top inner.bottom outer.top outer.bottom within.top within.bottom)

-- one that lies in another has no more points
pub area_grows : (inner outer : Rect) → LiesIn inner outer → rect_area inner ≤ rect_area outer
area_grows inner outer lies = by (is_empty inner) refl
  where
    by : (t : Bool) → is_empty inner ≡ t → rect_area inner ≤ rect_area outer
    by true e = let none = area_none inner e in omega arith
    by false e = area_inside inner outer (inside inner outer (wide inner e) lies)
