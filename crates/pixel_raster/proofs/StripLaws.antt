-- What one more row of a strip adds to a picture.
use Rattle.std.proofs.Common.{◌≡◌, ◌≢◌, ℕ, zero, suc, ◌+◌, ◌-◌, ◌*◌, ◌<◌, ◌≤◌, Bool, true, false, List, length, get_or, set, get_or-set_same, get_or-set_other, if◌then◌else◌, refl, ap, ◌∙◌, arith, inl, inr}
use Rattle.std.specs.Prelude.{◌&&◌, ◌||◌, ◌==◌}
use Rattle.std.proofs.lemmas.Bool.Decides.{nat_tests}
use Rattle.geom_core.specs.declared.color.Argb.{Argb}
use Rattle.geom_core.specs.Numbers.{unpainted}
use Rattle.view_model.specs.Glyphs.{has_bit}
use Rattle.pixel_raster.specs.Cuts.{is_between}
use Rattle.pixel_raster.specs.Raster.{pixel_at}
use Rattle.pixel_raster.specs.Strips.{set_bits}
use Rattle.pixel_raster.proofs.RowLaws.{place_in_run, rows_apart, rows_more}
use Rattle.pixel_raster.proofs.TestLaws.{beside, between_from, chosen}

pub one_column : (c x : ℕ) → is_between c (c + 1) x ≡ (x == c)
one_column c x = grind (arith, nat_tests)

-- a pixel of a list, where one is written
pub get_or-written : {X : Type 0} (items : List X) (at place : ℕ) (value default : X) → at < length items
    → get_or (set items at value) place default ≡ (if is_between at (at + 1) place then value else get_or items place default)
get_or-written items at place value default inside =
    chosen (is_between at (at + 1) place) _ _ _
    (λ is.
    let between = between_from at (at + 1) place is in
    let same : place ≡ at = omega (arith, between.0, between.1) in
    rw same (get_or-set_same items at value default inside))
    (λ is.
    let other : place ≢ at = elim (beside at (at + 1) place is) [ inl lt ↦ (λ e. omega (arith, lt, e)) | inr le ↦ (λ e. omega (arith, le, e)) ] in
    get_or-set_other items at place value default other)

-- one more row of what is changed in one column if its bit is set
one_row_more : {A : Type 0} (f : A → A) (across was now next bit here : Bool) (start old new : A) → (now ≡ true → was ≡ false) → next ≡ (was || now)
    → (now ≡ true → bit ≡ here) → old ≡ (if across && (was && bit) then f start else start) → new ≡ (if across && now then (if here then f old else old) else old)
    → new ≡ (if across && (next && bit) then f start else start)
one_row_more f false was now next bit here start old new apart is same e g = g ∙ e
one_row_more f true true true next bit here start old new apart is same e g = absurd (let never = apart refl in cc)
one_row_more f true true false next bit here start old new apart is same e g = rw is (g ∙ e)
one_row_more f true false false next bit here start old new apart is same e g = rw is (g ∙ e)
one_row_more f true false true next true true start old new apart is same e g = rw is (g ∙ ap f e)
one_row_more f true false true next false false start old new apart is same e g = rw is (g ∙ e)
one_row_more f true false true next true false start old new apart is same e g = absurd (let h = same refl in cc)
one_row_more f true false true next false true start old new apart is same e g = absurd (let h = same refl in cc)

pub pixel_at-next_place : (f : Argb → Argb) (start now : List Argb) (width column top z bits x y : ℕ) → column < width → top ≤ z → z * width + column < length now → x < width
    → pixel_at width now x y ≡ (if (x == column) && (is_between top z y && has_bit bits (y - top)) then f (pixel_at width start x y) else pixel_at width start x y)
    → pixel_at width (set now (z * width + column) (if has_bit bits (z - top) then f (get_or now (z * width + column) unpainted) else get_or now (z * width + column) unpainted)) x y
    ≡ (if (x == column) && (is_between top (z + 1) y && has_bit bits (y - top)) then f (pixel_at width start x y) else pixel_at width start x y)
pixel_at-next_place f start now width column top z bits x y within begun inside wide was =
    let at = z * width + column in
    let here = has_bit bits (z - top) in
    let test : is_between at (at + 1) (y * width + x) ≡ ((x == column) && is_between z (z + 1) y) =
    ap (λ (n : ℕ). is_between at n (y * width + x)) (omega arith) ∙ place_in_run width column (column + 1) x y z (omega arith) wide
    ∙ ap (λ (t : Bool). t && is_between z (z + 1) y) (one_column column x) in
    one_row_more f (x == column) (is_between top z y) (is_between z (z + 1) y) (is_between top (z + 1) y) (has_bit bits (y - top)) here
    (pixel_at width start x y) (pixel_at width now x y) _ (rows_apart top z y) (rows_more top z y begun)
    (λ is. let between = between_from z (z + 1) y is in let row : y ≡ z = omega (arith, between.0, between.1) in ap (λ (n : ℕ). has_bit bits (n - top)) row)
    was
    (get_or-written now at (y * width + x) _ unpainted inside
    ∙ ap (λ (t : Bool). if t then (if here then f (get_or now at unpainted) else get_or now at unpainted) else pixel_at width now x y) test
    ∙ at_place (x == column) (is_between z (z + 1) y) here (get_or now at unpainted) (pixel_at width now x y)
    (λ across down.
    let between = between_from z (z + 1) y down in
    let row : y ≡ z = omega (arith, between.0, between.1) in
    let column_is : x ≡ column = eq_of x column across in
    rw (row, column_is) refl))
  where
    eq_of : (x c : ℕ) → (x == c) ≡ true → x ≡ c
    eq_of x c h = grind (arith, nat_tests)

    at_place : (s t here : Bool) (value other : Argb) → (s ≡ true → t ≡ true → value ≡ other)
        → (if s && t then (if here then f value else value) else other) ≡ (if s && t then (if here then f other else other) else other)
    at_place true true here value other same = rw (same refl refl) refl
    at_place true false here value other same = refl
    at_place false t here value other same = refl

pub set_bits-bound : (bits n : ℕ) → set_bits bits n ≤ n
set_bits-bound bits zero = omega arith
set_bits-bound bits (suc n) = let less = set_bits-bound bits n in one_more (has_bit bits n) less
  where
    one_more : (t : Bool) → set_bits bits n ≤ n → set_bits bits n + (if t then 1 else 0) ≤ suc n
    one_more true le = omega arith
    one_more false le = omega arith
