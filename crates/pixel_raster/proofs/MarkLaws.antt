-- What is seen of rows that are marked, and of rows that were written out.
use Rattle.std.proofs.Common.{◌≡◌, ℕ, suc, ◌+◌, ◌*◌, ◌/◌, ◌%◌, ◌<◌, ◌≤◌, ◌^◌, Bool, true, false, List, length, replicate, slice_index_or, if◌then◌else◌, refl, sym, ap, ◌∙◌, arith, mul-le-mul_right}
use Rattle.std.specs.Prelude.{◌&&◌, ◌==◌}
use Rattle.std.proofs.lemmas.Bool.Decides.{nat_tests}
use Rattle.std.proofs.lemmas.Nat.{div-mul-add}
use Rattle.std.proofs.lemmas.List.{get_or-replicate, length-replicate, same_lists}
use Rattle.std.proofs.lemmas.List.FromFn.{get_or-map-range_with_len, length-map-range_with_len}
use Rattle.geom_core.specs.Color.{alpha_of}
use Rattle.geom_core.specs.declared.color.Argb.{Argb}
use Rattle.geom_core.specs.Numbers.{unpainted}
use Rattle.pixel_raster.specs.Marks.{AreWritten, mark_of, seen_at, seen_of, seen_pixels}
use Rattle.pixel_raster.specs.Raster.{pixel_at}
use Rattle.pixel_raster.proofs.BlackLaws.{black-pixel}
use Rattle.pixel_raster.proofs.TestLaws.{between_from}

-- a pixel of a row whose first one is opaque
pub seen_of-opaque : (first pixel : Argb) → alpha_of first ≡ 255 → seen_of first pixel ≡ pixel
unfolding seen_of
seen_of-opaque first pixel is = rw is refl

unmarked : (color : Argb) → alpha_of color ≡ 255 → color.0 < 2 ^ 32 → color.0 % 0x100_0000 + 0xff00_0000 ≡ color.0
unfolding alpha_of
unmarked color is fits = omega arith

mark-clear : (color : Argb) → alpha_of (mark_of color) ≡ 0
unfolding alpha_of mark_of
mark-clear color = omega arith

-- a pixel of a row that is marked with a colour
pub seen_of-mark : (color pixel : Argb) → alpha_of color ≡ 255 → color.0 < 2 ^ 32 → seen_of (mark_of color) pixel ≡ color
unfolding seen_of mark_of
seen_of-mark color pixel is fits = rw (mark-clear color) (ap (λ (n : ℕ). let c : Argb = record { 0 = n } in c) (unmarked color is fits))

written-mark : (first : Argb) → alpha_of first ≡ 0 → alpha_of (record { 0 = first.0 + 0xff00_0000 }) ≡ 255
unfolding alpha_of
written-mark first is = omega arith

-- a pixel of a row that was written out
pub seen_of-written : (first pixel : Argb) → seen_of (seen_of first first) pixel ≡ pixel
unfolding seen_of
seen_of-written first pixel = either (alpha_of first == 0) refl
  where
    zero_of : (n : ℕ) → (n == 0) ≡ true → n ≡ 0
    zero_of n is = grind (arith, nat_tests)

    either : (t : Bool) → (alpha_of first == 0) ≡ t
        → (if alpha_of (if t then record { 0 = first.0 + 0xff00_0000 } else first) == 0
        then record { 0 = (if t then record { 0 = first.0 + 0xff00_0000 } else first).0 + 0xff00_0000 } else pixel) ≡ pixel
    either true is = rw (written-mark first (zero_of (alpha_of first) is)) refl
    either false is = rw is refl

-- a pixel of a row that isn't marked
pub seen_of-unmarked : (first pixel : Argb) → (alpha_of first == 0) ≡ false → seen_of first pixel ≡ pixel
unfolding seen_of
seen_of-unmarked first pixel is = rw is refl

-- a range without a row
pub unmarked-none : (width : ℕ) (pixels : List Argb) → AreWritten width (record { top = 0; bottom = 0 }) pixels
unmarked-none width pixels y is = let between = between_from 0 0 y is in absurd (omega (arith, between.1))

-- a row that was written out isn't marked
pub unmarked-written : (first : Argb) → (alpha_of (seen_of first first) == 0) ≡ false
unfolding seen_of
unmarked-written first = either (alpha_of first == 0) refl
  where
    zero_of : (n : ℕ) → (n == 0) ≡ true → n ≡ 0
    zero_of n is = grind (arith, nat_tests)

    either : (t : Bool) → (alpha_of first == 0) ≡ t
        → (alpha_of (if t then record { 0 = first.0 + 0xff00_0000 } else first) == 0) ≡ false
    either true is = rw (written-mark first (zero_of (alpha_of first) is)) refl
    either false is = is

-- nor is it once its first pixel was changed
pub unmarked-changed : (f : Argb → Argb) (here : Bool) (first now : Argb) → ((under : Argb) → alpha_of (f under) ≡ 255)
    → now ≡ (if here then f first else first) → (alpha_of first == 0) ≡ false → (alpha_of now == 0) ≡ false
unmarked-changed f true first now opaque e was = rw (e, opaque first) refl
unmarked-changed f false first now opaque e was = rw e was

-- what is seen of a pixel once a row was written out and some of its pixels were changed
pub seen_of-changed : (f : Argb → Argb) (within here first_here : Bool) (first pixel head now : Argb) → ((under : Argb) → alpha_of (f under) ≡ 255)
    → (here ≡ true → within ≡ true) → (first_here ≡ true → within ≡ true)
    → head ≡ (if first_here then f (if within then seen_of first first else first) else (if within then seen_of first first else first))
    → now ≡ (if here then f (if within then seen_of first pixel else pixel) else (if within then seen_of first pixel else pixel))
    → seen_of head now ≡ (if here then f (seen_of first pixel) else seen_of first pixel)
seen_of-changed f true true true first pixel head now opaque h g e d = rw (e, d) (seen_of-opaque _ _ (opaque (seen_of first first)))
seen_of-changed f true true false first pixel head now opaque h g e d = rw (e, d) (seen_of-written first _)
seen_of-changed f true false true first pixel head now opaque h g e d = rw (e, d) (seen_of-opaque _ _ (opaque (seen_of first first)))
seen_of-changed f true false false first pixel head now opaque h g e d = rw (e, d) (seen_of-written first _)
seen_of-changed f false true first_here first pixel head now opaque h g e d = absurd (let no = h refl in cc)
seen_of-changed f false false true first pixel head now opaque h g e d = absurd (let no = g refl in cc)
seen_of-changed f false false false first pixel head now opaque h g e d = rw (e, d) refl

-- the same in steps: `mid` is what was written out
pub seen_of-written_then : (f : Argb → Argb) (within here first_here : Bool) (first pixel first_mid mid head now : Argb) → ((under : Argb) → alpha_of (f under) ≡ 255)
    → (here ≡ true → within ≡ true) → (first_here ≡ true → within ≡ true)
    → first_mid ≡ (if within then seen_of first first else first) → mid ≡ (if within then seen_of first pixel else pixel)
    → head ≡ (if first_here then f first_mid else first_mid) → now ≡ (if here then f mid else mid)
    → seen_of head now ≡ (if here then f (seen_of first pixel) else seen_of first pixel)
seen_of-written_then f within here first_here first pixel first_mid mid head now opaque h g w v e d =
    seen_of-changed f within here first_here first pixel head now opaque h g
    (e ∙ ap (λ (p : Argb). if first_here then f p else p) w)
    (d ∙ ap (λ (p : Argb). if here then f p else p) v)

-- what is seen of a pixel once some rows are marked with a colour
pub seen_of-marked : (color : Argb) (within at_first : Bool) (first pixel head now : Argb) → alpha_of color ≡ 255 → color.0 < 2 ^ 32
    → head ≡ (if within then mark_of color else first) → now ≡ (if at_first && within then mark_of color else pixel)
    → seen_of head now ≡ (if within then color else seen_of first pixel)
seen_of-marked color true at_first first pixel head now is fits e d = rw e (seen_of-mark color now is fits)
seen_of-marked color false true first pixel head now is fits e d = rw (e, d) refl
seen_of-marked color false false first pixel head now is fits e d = rw (e, d) refl

-- the colours of all pixels, point by point
pub pixel_at-seen : (width height : ℕ) (pixels : List Argb) (x y : ℕ) → length pixels ≡ width * height → x < width → y < height
    → pixel_at width (seen_pixels width pixels) x y ≡ seen_at width pixels x y
unfolding seen_pixels
pixel_at-seen width height pixels x y size column row =
    let rows : suc y * width ≤ height * width = mul-le-mul_right width row in
    get_or-map-range_with_len _ 0 (length pixels) (y * width + x) (y * width + x) unpainted (omega arith) (omega arith)
    ∙ ap (λ (n : ℕ). seen_of (slice_index_or pixels (n * width) unpainted) (pixel_at width pixels x y)) (div-mul-add y width x column)
    ∙ ap (λ (n : ℕ). seen_of (slice_index_or pixels n unpainted) (pixel_at width pixels x y)) (omega arith)

pub length-seen_pixels : (width : ℕ) (pixels : List Argb) → length (seen_pixels width pixels) ≡ length pixels
unfolding seen_pixels
length-seen_pixels width pixels = length-map-range_with_len _ 0 (length pixels)

-- a picture whose pixels are black is seen as it is
black-seen : seen_of unpainted unpainted ≡ unpainted
unfolding seen_of alpha_of
black-seen = refl

pub seen_pixels-black : (width count : ℕ) (pixels : List Argb) → pixels ≡ replicate count unpainted → seen_pixels width pixels ≡ replicate count unpainted
unfolding seen_pixels
seen_pixels-black width count pixels is = rw is (
    same_lists (seen_pixels width (replicate count unpainted)) (replicate count unpainted) (length-seen_pixels width (replicate count unpainted))
    (λ k d lt.
    let long = length-seen_pixels width (replicate count unpainted) in
    let many = length-replicate count unpainted in
    get_or-map-range_with_len _ 0 (length (replicate count unpainted)) k k d (omega (arith, lt, long)) (omega arith)
    ∙ ap (λ (first : Argb). seen_of first (slice_index_or (replicate count unpainted) k unpainted)) (black-pixel count (k / width * width))
    ∙ ap (λ (pixel : Argb). seen_of unpainted pixel) (black-pixel count k)
    ∙ black-seen ∙ sym (get_or-replicate count k unpainted d (omega (arith, lt, long, many)))))
