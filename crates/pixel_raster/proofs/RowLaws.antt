-- What one more row of a rectangle adds to a picture.
use Rattle.std.proofs.Common.{◌≡◌, ℕ, suc, ◌+◌, ◌-◌, ◌*◌, ◌<◌, ◌≤◌, Bool, true, false, List, map, length, if◌then◌else◌, refl, ap, ◌∙◌, arith, inl, inr, mul-le-mul_right}
use Rattle.std.specs.Prelude.{◌&&◌, ◌||◌}
use Rattle.std.specs.List.{between}
use Rattle.std.proofs.lemmas.Bool.{and_from, and_parts, cases_order}
use Rattle.std.proofs.lemmas.Bool.Decides.{nat_tests}
use borrow.Rule.Slice.PartMut.{put_mid}
use Rattle.geom_core.specs.declared.color.Argb.{Argb}
use Rattle.geom_core.specs.Numbers.{unpainted}
use Rattle.pixel_raster.specs.Cuts.{is_between}
use Rattle.pixel_raster.specs.Raster.{pixel_at}
use Rattle.pixel_raster.proofs.RunLaws.{get_or-mapped_run}
use Rattle.pixel_raster.proofs.TestLaws.{between_from, between_to, same_test}

row_is : (width left right x y z : ℕ) → right ≤ width → x < width → z * width + left ≤ y * width + x → y * width + x < z * width + right → y ≡ z
row_is width left right x y z fits column low high =
    elim (cases_order y z) [
      | inl is ↦ is
      | inr (inl lt) ↦ (let rows : suc y * width ≤ z * width = mul-le-mul_right width lt in absurd (omega arith))
      | inr (inr lt) ↦ (let rows : suc z * width ≤ y * width = mul-le-mul_right width lt in absurd (omega arith))
    ]

column_is : (width left right x y z : ℕ) → y ≡ z → z * width + left ≤ y * width + x → y * width + x < z * width + right → (left ≤ x) × (x < right)
column_is width left right x y z is low high = let rows : y * width ≡ z * width = ap (λ (n : ℕ). n * width) is in (omega arith, omega arith)

-- a pixel lies in a run of row `z` where its row is that one and its column lies between the edges
pub place_in_run : (width left right x y z : ℕ) → right ≤ width → x < width
    → is_between (z * width + left) (z * width + right) (y * width + x) ≡ (is_between left right x && is_between z (z + 1) y)
place_in_run width left right x y z fits column =
    same_test _ _
    (λ is.
    let at = between_from _ _ _ is in
    let row : y ≡ z = row_is width left right x y z fits column at.0 at.1 in
    let across = column_is width left right x y z row at.0 at.1 in
    and_from _ _ (between_to left right x across.0 across.1) (between_to z (z + 1) y (omega arith) (omega arith)))
    (λ is.
    let tests = and_parts _ _ is in
    let across = between_from left right x tests.0 in
    let down = between_from z (z + 1) y tests.1 in
    let row : y ≡ z = omega arith in
    rw row (between_to (z * width + left) (z * width + right) (z * width + x) (omega arith) (omega arith)))

-- one more row of what is changed between two columns
pub one_row_more : {A : Type 0} (f : A → A) (across was now next : Bool) (start old new : A) → (now ≡ true → was ≡ false) → next ≡ (was || now)
    → old ≡ (if across && was then f start else start) → new ≡ (if across && now then f old else old)
    → new ≡ (if across && next then f start else start)
one_row_more f true true true next start old new apart is e g = absurd (let never = apart refl in cc)
one_row_more f true true false next start old new apart is e g = rw is (g ∙ e)
one_row_more f true false true next start old new apart is e g = rw is (g ∙ ap f e)
one_row_more f true false false next start old new apart is e g = rw is (g ∙ e)
one_row_more f false was now next start old new apart is e g = g ∙ e

pub rows_more : (top z y : ℕ) → top ≤ z → is_between top (z + 1) y ≡ (is_between top z y || is_between z (z + 1) y)
rows_more top z y le = grind (arith, nat_tests)

pub rows_apart : (top z y : ℕ) → is_between z (z + 1) y ≡ true → is_between top z y ≡ false
rows_apart top z y is = let at = between_from z (z + 1) y is in grind (arith, nat_tests)

pub pixel_at-next_row : (f : Argb → Argb) (start now : List Argb) (width left right top z x y : ℕ)
    → left ≤ right → right ≤ width → top ≤ z → z * width + right ≤ length now → x < width
    → pixel_at width now x y ≡ (if is_between left right x && is_between top z y then f (pixel_at width start x y) else pixel_at width start x y)
    → pixel_at width (put_mid (z * width + left) (z * width + right - (z * width + left)) now (map f (between (z * width + left) (z * width + right) now))) x y
    ≡ (if is_between left right x && is_between top (z + 1) y then f (pixel_at width start x y) else pixel_at width start x y)
pixel_at-next_row f start now width left right top z x y ordered fits begun inside column was =
    let mapped = get_or-mapped_run f now (z * width + left) (z * width + right) (y * width + x) unpainted (omega arith) inside in
    one_row_more f (is_between left right x) (is_between top z y) (is_between z (z + 1) y) (is_between top (z + 1) y)
    (pixel_at width start x y) (pixel_at width now x y) _ (rows_apart top z y) (rows_more top z y begun) was
    (mapped ∙ ap (λ (test : Bool). if test then f (pixel_at width now x y) else pixel_at width now x y) (place_in_run width left right x y z fits column))
