-- Pictures that differ only in a rectangle differ at no more places than its area.
use Rattle.std.proofs.Common.{◌≡◌, ℕ, zero, suc, mul_comm, mul-le-mul, ◌+◌, ◌-◌, ◌*◌, ◌/◌, ◌%◌, ◌<◌, ◌≤◌, pos, Bool, true, false, List, [], ◌∷◌, length, refl, sym, ap, ◌∙◌, subst, arith}
use Rattle.std.specs.Prelude.{◌==◌, if◌then◌else◌, slice_index_or}
use Rattle.std.proofs.Math.Nat.{div-add-mod, div-lt_iff_lt-mul, mod-eq-sub-div-mul, mul-suc, suc-mul}
use Rattle.std.proofs.lemmas.Bool.{and_parts, eq-eqb}
use Rattle.std.proofs.lemmas.Bool.Decides.{nat_tests}
use Rattle.std.proofs.lemmas.Nat.{div-mul-add}
use Rattle.geom_core.specs.Rects.{holds}
use Rattle.geom_core.specs.declared.color.Argb.{Argb}
use Rattle.geom_core.specs.declared.color.TheConstants.{BLACK}
use Rattle.geom_core.specs.declared.geometry.Rect.{Rect}
use Rattle.pixel_raster.proofs.CutLaws.{edge_test}
use Rattle.pixel_raster.proofs.PictureLaws.{positive}
use Rattle.pixel_raster.specs.Cuts.{area_within, cut_of, edge_within, is_between}
use Rattle.pixel_raster.specs.Raster.{IsRaster, Raster, color_at}
use Rattle.seen_edits.specs.Differing.{differing}
use Rattle.tree_painter.specs.Painted.{IsPainted, area_in}
use Rattle.view_model.specs.Painting.{Painter}

-- how many of the first numbers pass a test
abbrev tally : (ℕ → Bool) → ℕ → ℕ
tally passes zero = 0
tally passes (suc n) = (if passes 0 then 1 else 0) + tally (λ k. passes (suc k)) n

differing_few : (one other : List Argb) (passes : ℕ → Bool) → length one ≡ length other
    → ((k : ℕ) → k < length one → passes k ≡ false → slice_index_or other k BLACK ≡ slice_index_or one k BLACK)
    → differing one other ≤ tally passes (length one)
unfolding differing
differing_few [] other passes long same = omega arith
differing_few (color ∷ one) [] passes long same = omega arith
differing_few (color ∷ one) (shade ∷ other) passes long same =
    let more = differing_few one other (λ k. passes (suc k)) (omega arith) (λ k less e. same (suc k) (omega arith) e) in
    first (passes 0) refl more
  where
    first : (t : Bool) → passes 0 ≡ t → differing one other ≤ tally (λ k. passes (suc k)) (length one)
        → (if color.0 == shade.0 then 0 else 1) + differing one other ≤ (if t then 1 else 0) + tally (λ k. passes (suc k)) (length one)
    first true e more = at_most (color.0 == shade.0)
      where
        at_most : (t : Bool) → (if t then 0 else 1) + differing one other ≤ 1 + tally (λ k. passes (suc k)) (length one)
        at_most true = omega arith
        at_most false = omega arith
    first false e more =
        let alike : shade ≡ color = same 0 (omega arith) e in
        rw (eq-eqb color.0 shade.0 (ap (λ (c : Argb). c.0) (sym alike))) (omega arith)

tally_less : (one other : ℕ → Bool) (n : ℕ) → ((k : ℕ) → k < n → one k ≡ true → other k ≡ true) → tally one n ≤ tally other n
tally_less one other zero fewer = omega arith
tally_less one other (suc n) fewer =
    first (one 0) (other 0) (fewer 0 (omega arith)) (tally_less (λ k. one (suc k)) (λ k. other (suc k)) n (λ k less e. fewer (suc k) (omega arith) e))
  where
    first : (s t : Bool) → (s ≡ true → t ≡ true) → tally (λ k. one (suc k)) n ≤ tally (λ k. other (suc k)) n
        → (if s then 1 else 0) + tally (λ k. one (suc k)) n ≤ (if t then 1 else 0) + tally (λ k. other (suc k)) n
    first true true on more = omega arith
    first true false on more = absurd (let f : false ≡ true = on refl in cc)
    first false true on more = omega arith
    first false false on more = omega arith

tally_none : (n : ℕ) → tally (λ k. false) n ≡ 0
tally_none zero = refl
tally_none (suc n) = let none = tally_none n in omega arith

-- the first numbers, and then the others
tally_parts : (m n total : ℕ) (one rest passes : ℕ → Bool) → total ≡ m + n → ((k : ℕ) → k < m → passes k ≡ true → one k ≡ true)
    → ((k : ℕ) → k < n → passes (m + k) ≡ true → rest k ≡ true) → tally passes total ≤ tally one m + tally rest n
tally_parts zero n total one rest passes is first second =
    let all : tally passes n ≤ tally rest n = tally_less passes rest n (λ k less e. second k less (subst (λ (j : ℕ). passes j ≡ true) (let p : k ≡ zero + k = omega arith in p) e)) in
    let size : total ≡ n = omega arith in
    rw size (omega arith)
tally_parts (suc m) n zero one rest passes is first second = absurd (omega arith)
tally_parts (suc m) n (suc total) one rest passes is first second =
    step (passes 0) (one 0) (first 0 (omega arith))
    (tally_parts m n total (λ k. one (suc k)) rest (λ k. passes (suc k)) (omega arith) (λ k less e. first (suc k) (omega arith) e)
    (λ k less e. second k less (subst (λ (j : ℕ). passes j ≡ true) (let p : suc (m + k) ≡ suc m + k = omega arith in p) e)))
  where
    step : (s t : Bool) → (s ≡ true → t ≡ true) → tally (λ k. passes (suc k)) total ≤ tally (λ k. one (suc k)) m + tally rest n
        → (if s then 1 else 0) + tally (λ k. passes (suc k)) total ≤ ((if t then 1 else 0) + tally (λ k. one (suc k)) m) + tally rest n
    step true true on more = omega arith
    step true false on more = absurd (let f : false ≡ true = on refl in cc)
    step false true on more = omega arith
    step false false on more = omega arith

-- what passes lies in these columns of these rows
tally_rows : (width : ℕ) (columns : ℕ → Bool) (height : ℕ) (rows passes : ℕ → Bool) (total : ℕ) → total ≡ height * width
    → ((x y : ℕ) → x < width → y < height → passes (y * width + x) ≡ true → (columns x ≡ true) × (rows y ≡ true)) → tally passes total ≤ tally columns width * tally rows height
tally_rows width columns zero rows passes total is each =
    let size : total ≡ 0 = omega arith in
    rw size (omega arith)
tally_rows width columns (suc height) rows passes total is each =
    sum (rows 0) refl
    (tally_parts width (height * width) total (λ x. if rows 0 then columns x else false) (λ k. passes (width + k)) passes (is ∙ suc-mul height width ∙ swap (height * width) width) here (λ k less e. e))
    (tally_rows width columns height (λ y. rows (suc y)) (λ k. passes (width + k)) (height * width) refl later)
  where
    swap : (a b : ℕ) → a + b ≡ b + a
    swap a b = omega arith

    here : (x : ℕ) → x < width → passes x ≡ true → (if rows 0 then columns x else false) ≡ true
    here x column e =
        let both = each x 0 column (omega arith) (subst (λ (j : ℕ). passes j ≡ true) (let p : x ≡ 0 * width + x = omega arith in p) e) in
        rw (both.1) both.0

    later : (x y : ℕ) → x < width → y < height → passes (width + (y * width + x)) ≡ true → (columns x ≡ true) × (rows (suc y) ≡ true)
    later x y column row e =
        each x (suc y) column (omega arith) (subst (λ (j : ℕ). passes j ≡ true) (let p : width + (y * width + x) ≡ suc y * width + x = let m = suc-mul y width in omega arith in p) e)

    sum : (t : Bool) → rows 0 ≡ t → tally passes total ≤ tally (λ x. if rows 0 then columns x else false) width + tally (λ k. passes (width + k)) (height * width)
        → tally (λ k. passes (width + k)) (height * width) ≤ tally columns width * tally (λ y. rows (suc y)) height
        → tally passes total ≤ tally columns width * ((if rows 0 then 1 else 0) + tally (λ y. rows (suc y)) height)
    sum true e parts rest =
        let parts : tally passes total ≤ tally columns width + tally (λ k. passes (width + k)) (height * width) = rw e at parts in
        let more = mul-suc (tally columns width) (tally (λ y. rows (suc y)) height) in
        rw e (omega arith)
    sum false e parts rest =
        let parts : tally passes total ≤ tally (λ x. false) width + tally (λ k. passes (width + k)) (height * width) = rw e at parts in
        let none = tally_none width in
        rw e (omega arith)

at_most : (t : Bool) → (if t then 1 else 0) ≤ 1
at_most true = omega arith
at_most false = omega arith

before : (low high : ℕ) → is_between (suc low) high 0 ≡ false
before low high = grind (arith, nat_tests)

-- numbers between two
tally_between : (low high n : ℕ) → tally (is_between low high) n ≤ high - low
tally_between low high zero = omega arith
tally_between low high (suc n) = edges low high (tally_less (λ k. is_between low high (suc k)) (is_between (low - 1) (high - 1)) n (λ k less e. shift low high k e)) (tally_between (low - 1) (high - 1) n)
  where
    shift : (low high k : ℕ) → is_between low high (suc k) ≡ true → is_between (low - 1) (high - 1) k ≡ true
    shift low high k e = grind (arith, nat_tests)

    edges : (low high : ℕ) → tally (λ k. is_between low high (suc k)) n ≤ tally (is_between (low - 1) (high - 1)) n → tally (is_between (low - 1) (high - 1)) n ≤ (high - 1) - (low - 1)
        → (if is_between low high 0 then 1 else 0) + tally (λ k. is_between low high (suc k)) n ≤ high - low
    edges zero zero fewer most = omega arith
    edges zero (suc high) fewer most = let one = at_most (is_between 0 (suc high) 0) in omega arith
    edges (suc low) high fewer most = rw (before low high) (omega arith)

-- the points of a picture that a rectangle holds are in its columns and rows
holds_between : (width height x y : ℕ) (rect : Rect) → x < width → y < height → holds rect (pos x) (pos y) ≡ true
    → (is_between (edge_within width rect.left) (edge_within width rect.right) x ≡ true) × (is_between (edge_within height rect.top) (edge_within height rect.bottom) y ≡ true)
holds_between width height x y rect column row e =
    and_parts (is_between (edge_within width rect.left) (edge_within width rect.right) x) (is_between (edge_within height rect.top) (edge_within height rect.bottom) y)
    (rw (edge_test width x rect.left column, edge_test width x rect.right column, edge_test height y rect.top row, edge_test height y rect.bottom row) e)

column_back : (width x y : ℕ) → x < width → (y * width + x) % width ≡ x
column_back width x y column = mod-eq-sub-div-mul (y * width + x) width ∙ ap (λ (q : ℕ). (y * width + x) - q * width) (div-mul-add y width x column) ∙ (let e : (y * width + x) - y * width ≡ x = omega arith in e)

-- how many points of a picture a rectangle holds
tally_held : (width height : ℕ) (rect : Rect) → tally (λ k. holds rect (pos (k % width)) (pos (k / width))) (width * height) ≤ area_within width height rect
unfolding cut_of
tally_held width height rect =
    let across = tally_between (edge_within width rect.left) (edge_within width rect.right) width in
    let down = tally_between (edge_within height rect.top) (edge_within height rect.bottom) height in
    let all = tally_rows width (is_between (edge_within width rect.left) (edge_within width rect.right)) height (is_between (edge_within height rect.top) (edge_within height rect.bottom))
    (λ k. holds rect (pos (k % width)) (pos (k / width))) (width * height) (mul_comm width height) each in
    let most = mul-le-mul across down in
    omega arith
  where
    each : (x y : ℕ) → x < width → y < height → holds rect (pos ((y * width + x) % width)) (pos ((y * width + x) / width)) ≡ true
        → (is_between (edge_within width rect.left) (edge_within width rect.right) x ≡ true) × (is_between (edge_within height rect.top) (edge_within height rect.bottom) y ≡ true)
    each x y column row e = holds_between width height x y rect column row (rw (column_back width x y column, div-mul-add y width x column) at e)

-- a picture was painted in a rectangle
pub differing_most : (old new : Raster) (rect : Rect) (paint : Painter) → IsRaster old → IsRaster new → IsPainted paint rect old new → differing old.pixels new.pixels ≤ area_in old rect
differing_most old new rect paint was is painted =
    let size = was.size in
    let few = differing_few old.pixels new.pixels (λ k. holds rect (pos (k % old.width)) (pos (k / old.width)))
    (was.size ∙ sym (is.size ∙ rw (painted.width, painted.height) refl)) (λ k less out. same k (omega (arith, size, less)) out) in
    let held = tally_held old.width old.height rect in
    let few : differing old.pixels new.pixels ≤ tally (λ k. holds rect (pos (k % old.width)) (pos (k / old.width))) (old.width * old.height) =
    subst (λ (n : ℕ). differing old.pixels new.pixels ≤ tally (λ k. holds rect (pos (k % old.width)) (pos (k / old.width))) n) was.size few in
    omega (arith, few, held)
  where
    same : (k : ℕ) → k < old.width * old.height → holds rect (pos (k % old.width)) (pos (k / old.width)) ≡ false → slice_index_or new.pixels k BLACK ≡ slice_index_or old.pixels k BLACK
    same k inside out =
        let wide = positive old.width old.height k inside in
        let row : k / old.width < old.height = (div-lt_iff_lt-mul wide).1 (let e = mul_comm old.width old.height in omega arith) in
        let column : k % old.width < old.width = let w = wide in omega arith in
        let place : k / old.width * old.width + k % old.width ≡ k = let d = div-add-mod k old.width in let e = mul_comm old.width (k / old.width) in omega arith in
        let point = painted.colors (k % old.width) (k / old.width) column row in
        let kept : color_at new (k % old.width) (k / old.width) ≡ color_at old (k % old.width) (k / old.width) = rw out at point in
        subst (λ (j : ℕ). slice_index_or new.pixels j BLACK ≡ slice_index_or old.pixels j BLACK) place (subst (λ (w : ℕ). slice_index_or new.pixels (k / old.width * w + k % old.width) BLACK ≡ color_at old (k % old.width) (k / old.width)) painted.width kept)
