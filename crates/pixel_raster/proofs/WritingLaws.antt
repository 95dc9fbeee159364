-- What one more row that is marked or written out adds to a picture.
use Rattle.std.proofs.Common.{◌≡◌, ℕ, ◌+◌, ◌-◌, ◌*◌, ◌<◌, ◌≤◌, Bool, true, false, List, map, length, set, slice_index_or, if◌then◌else◌, refl, ap, ◌∙◌, arith}
use Rattle.std.specs.Prelude.{◌&&◌, ◌||◌, ◌==◌}
use Rattle.std.specs.List.{between}
use Rattle.std.proofs.lemmas.Bool.Decides.{nat_tests}
use Rattle.std.proofs.lemmas.List.{get_or-drop, get_or-take}
use borrow.Rule.Slice.PartMut.{put_mid}
use Rattle.geom_core.specs.declared.color.Argb.{Argb}
use Rattle.geom_core.specs.Numbers.{unpainted}
use Rattle.pixel_raster.specs.Cuts.{is_between}
use Rattle.pixel_raster.specs.Marks.{seen_at, seen_of}
use Rattle.pixel_raster.specs.Raster.{pixel_at}
use Rattle.pixel_raster.proofs.RowLaws.{one_row_more, place_in_run, rows_apart, rows_more}
use Rattle.pixel_raster.proofs.RunLaws.{get_or-mapped_run}
use Rattle.pixel_raster.proofs.StripLaws.{get_or-written, one_column}
use Rattle.pixel_raster.proofs.TestLaws.{between_from, between_to}

pub pixel_at-next_mark : (mark : Argb) (start now : List Argb) (width top z x y : ℕ) → 0 < width → top ≤ z → z * width < length now → x < width
    → pixel_at width now x y ≡ (if (x == 0) && is_between top z y then mark else pixel_at width start x y)
    → pixel_at width (set now (z * width) mark) x y ≡ (if (x == 0) && is_between top (z + 1) y then mark else pixel_at width start x y)
pixel_at-next_mark mark start now width top z x y some begun inside column was =
    let test : is_between (z * width) (z * width + 1) (y * width + x) ≡ ((x == 0) && is_between z (z + 1) y) =
    ap (λ (n : ℕ). is_between n (z * width + 1) (y * width + x)) (omega arith) ∙ place_in_run width 0 1 x y z (omega arith) column
    ∙ ap (λ (t : Bool). t && is_between z (z + 1) y) (one_column 0 x) in
    one_row_more (λ (_ : Argb). mark) (x == 0) (is_between top z y) (is_between z (z + 1) y) (is_between top (z + 1) y)
    (pixel_at width start x y) (pixel_at width now x y) _ (rows_apart top z y) (rows_more top z y begun) was
    (get_or-written now (z * width) (y * width + x) mark unpainted inside ∙ ap (λ (t : Bool). if t then mark else pixel_at width now x y) test)

-- one more row of what is changed by a rule of its own in each row
one_row_more_by : {A : Type 0} (rule : A) (here : A) (was now next : Bool) (start old new : A) → (now ≡ true → was ≡ false) → next ≡ (was || now)
    → (now ≡ true → here ≡ rule) → old ≡ (if was then rule else start) → new ≡ (if now then here else old)
    → new ≡ (if next then rule else start)
one_row_more_by rule here true true next start old new apart is same e g = absurd (let never = apart refl in cc)
one_row_more_by rule here true false next start old new apart is same e g = rw is (g ∙ e)
one_row_more_by rule here false true next start old new apart is same e g = rw is (g ∙ same refl)
one_row_more_by rule here false false next start old new apart is same e g = rw is (g ∙ e)

module _ (start now : List Argb) (width top z : ℕ) (begun : top ≤ z) (inside : (z + 1) * width ≤ length now)
    (was : (x y : ℕ) → x < width → pixel_at width now x y ≡ (if is_between top z y then seen_at width start x y else pixel_at width start x y)) where
  abbrev first : Argb
  first = slice_index_or (between (z * width) ((z + 1) * width) now) 0 unpainted

  not_yet : is_between top z z ≡ false
  not_yet = grind (arith, nat_tests)

  as_before : (x : ℕ) → x < width → pixel_at width now x z ≡ pixel_at width start x z
  as_before x column = rw not_yet at (was x z column)

  first_is : 0 < width → first ≡ pixel_at width start 0 z
  first_is some =
      get_or-take ((z + 1) * width - z * width) _ 0 unpainted (omega arith)
      ∙ get_or-drop (z * width) now 0 unpainted
      ∙ as_before 0 some

  rule_is : (x y : ℕ) → x < width → y ≡ z → seen_of first (pixel_at width now x y) ≡ seen_at width start x y
  rule_is x y column row = rw (row, first_is (omega arith), as_before x column) refl

  in_row : (x y : ℕ) → x < width → is_between (z * width) ((z + 1) * width) (y * width + x) ≡ is_between z (z + 1) y
  in_row x y column =
      ap (λ (n : ℕ). is_between n ((z + 1) * width) (y * width + x)) (omega arith)
      ∙ ap (λ (n : ℕ). is_between (z * width + 0) n (y * width + x)) (omega arith)
      ∙ place_in_run width 0 width x y z (omega arith) column
      ∙ ap (λ (t : Bool). t && is_between z (z + 1) y) (between_to 0 width x (omega arith) column)

  pub pixel_at-next_written : (x y : ℕ) → x < width
      → pixel_at width (put_mid (z * width) ((z + 1) * width - z * width) now (map (seen_of first) (between (z * width) ((z + 1) * width) now))) x y
      ≡ (if is_between top (z + 1) y then seen_at width start x y else pixel_at width start x y)
  pixel_at-next_written x y column =
      one_row_more_by (seen_at width start x y) (seen_of first (pixel_at width now x y)) (is_between top z y) (is_between z (z + 1) y) (is_between top (z + 1) y)
      (pixel_at width start x y) (pixel_at width now x y) _ (rows_apart top z y) (rows_more top z y begun)
      (λ is. let at = between_from z (z + 1) y is in rule_is x y column (omega (arith, at.0, at.1)))
      (was x y column)
      (get_or-mapped_run (seen_of first) now (z * width) ((z + 1) * width) (y * width + x) unpainted (omega arith) inside
      ∙ ap (λ (t : Bool). if t then seen_of first (pixel_at width now x y) else pixel_at width now x y) (in_row x y column))
