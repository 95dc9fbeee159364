-- The pixels of a column of a cell that are seen in a clip and in a picture.
use Rattle.std.proofs.Common.{◌≡◌, ℕ, ◌+◌, ◌-◌, ◌*◌, ◌/◌, ◌%◌, ◌<◌, ◌≤◌, ◌^◌, min, ℤ, pos, negsuc, ◌≤ℤ◌, ◌<ℤ◌, ◌+ℤ◌, ◌-ℤ◌, Bool, true, false, nat_lt, if◌then◌else◌, refl, sym, ◌∙◌, ap, arith}
use Rattle.std.proofs.lemmas.Bool.{and_parts, and_from, false_from_ne_true, not-true}
use Rattle.std.specs.Int.{int_max, int_min}
use Rattle.std.specs.Prelude.{◌&&◌, ◌==◌, not, int_lt}
use Rattle.std.proofs.lemmas.Bool.Decides.{nat_tests}
use Rattle.std.proofs.lemmas.Int.{ints}
use Rattle.std.proofs.lemmas.Nat.{mul-le, pow-add}
use Rattle.std.proofs.Math.Nat.{div-div-eq-div-mul}
use Rattle.geom_core.specs.Color.{blend_of}
use Rattle.geom_core.specs.Rects.{holds}
use Rattle.geom_core.specs.declared.color.Argb.{Argb}
use Rattle.geom_core.specs.declared.geometry.Rect.{Rect}
use Rattle.pixel_raster.proofs.CutLaws.{edge_test}
use Rattle.pixel_raster.proofs.TestLaws.{same_test}
use Rattle.pixel_raster.specs.Cuts.{edge_within}
use Rattle.pixel_raster.specs.Raster.{Raster, color_at}
use Rattle.pixel_raster.specs.Strips.{InksStrip, is_set, set_bits}
use Rattle.pixel_raster.specs.declared.strip.Strip.{Strip}
use Rattle.pixel_raster.proofs.StripLaws.{set_bits-bound}
use Rattle.seen_parts.specs.declared.frame.Canvas.{Canvas}
use Rattle.view_model.specs.Glyphs.{has_bit}
use Rattle.view_model.specs.declared.work.Work.{Work}
use Rattle.tree_painter.specs.Areas.{edge_at}
use Rattle.tree_painter.specs.Inks.{column_ink, in_column}
use Rattle.tree_painter.specs.Painted.{IsCounted, PaintedIn}

edge_fits : (limit : ℕ) (edge : ℤ) → edge_within limit edge ≤ limit
unfolding edge_within
edge_fits limit edge = omega arith

-- a place between the edges of a clip, and from one point on and before another
pub record IsSpanned (low high from to : ℤ) (place : ℕ) : Type 0 where
  pub lower : low ≤ℤ pos place
  pub upper : pos place <ℤ high
  pub begin : from ≤ℤ pos place
  pub end : pos place <ℤ to

spanned : (low high from to at : ℤ) → int_lt at (int_max low (int_min high from)) ≡ false → int_lt at (int_max low (int_min high to)) ≡ true
    → (low ≤ℤ at) × ((at <ℤ high) × ((from ≤ℤ at) × (at <ℤ to)))
spanned low high from to at a b = (grind (arith, ints), (grind (arith, ints), (grind (arith, ints), grind (arith, ints))))

begun : (low high from at : ℤ) → low ≤ℤ at → from ≤ℤ at → int_lt at (int_max low (int_min high from)) ≡ false
begun low high from at a b = grind (arith, ints)

unended : (low high to at : ℤ) → at <ℤ high → at <ℤ to → int_lt at (int_max low (int_min high to)) ≡ true
unended low high to at a b = grind (arith, ints)

of_lt : (m n : ℕ) → nat_lt m n ≡ true → m < n
of_lt m n h = grind (arith, nat_tests)

of_ge : (m n : ℕ) → nat_lt m n ≡ false → n ≤ m
of_ge m n h = grind (arith, nat_tests)

to_lt : (m n : ℕ) → m < n → nat_lt m n ≡ true
to_lt m n h = grind (arith, nat_tests)

to_ge : (m n : ℕ) → n ≤ m → nat_lt m n ≡ false
to_ge m n h = grind (arith, nat_tests)

module _ (limit : ℕ) (low high from to : ℤ) where
  pub in_span : (place : ℕ) → edge_at limit low high from ≤ place → place < edge_at limit low high to → IsSpanned low high from to place
  unfolding edge_at
  in_span place a b =
      let fits = edge_fits limit (int_max low (int_min high to)) in
      let inside : place < limit = omega arith in
      let first = sym (edge_test limit place (int_max low (int_min high from)) inside) ∙ to_ge place _ a in
      let last = sym (edge_test limit place (int_max low (int_min high to)) inside) ∙ to_lt place _ b in
      let all = spanned low high from to (pos place) first last in
      record { lower = all.0; upper = all.1.0; begin = all.1.1.0; end = all.1.1.1 }

  pub span_in : (place : ℕ) → place < limit → IsSpanned low high from to place → (edge_at limit low high from ≤ place) × (place < edge_at limit low high to)
  unfolding edge_at
  span_in place inside is =
      let first = edge_test limit place (int_max low (int_min high from)) inside ∙ begun low high from (pos place) is.lower is.begin in
      let last = edge_test limit place (int_max low (int_min high to)) inside ∙ unended low high to (pos place) is.upper is.end in
      (of_ge place _ first, of_lt place _ last)

-- a set pixel of a column of a cell
record IsInked (bits : ℕ) (x y : ℤ) (row : ℕ) : Type 0 where
  across : x ≡ pos 0
  down : y ≡ pos row
  high : row < 8
  set : has_bit bits row ≡ true

of_tests : (a b c d : Bool) → (a && (b && (c && d))) ≡ true → (a ≡ true) × ((c ≡ true) × (d ≡ true))
of_tests true true true d h = (refl, (refl, h))
of_tests true true false d h = absurd (cc)
of_tests true false c d h = absurd (cc)
of_tests false b c d h = absurd (cc)

eq_of : (x c : ℕ) → (x == c) ≡ true → x ≡ c
eq_of x c h = grind (arith, nat_tests)

inked_of : (bits : ℕ) (x y : ℤ) → in_column bits 0 x y ≡ true → (row : ℕ) × IsInked bits x y row
inked_of bits (pos x) (pos y) h =
    let tests = of_tests (x == 0) (not (nat_lt y 0)) (nat_lt y 8) (has_bit bits y) h in
    let column : x ≡ 0 = eq_of x 0 tests.0 in
    (y, record { across = ap pos column; down = refl; high = of_lt y 8 tests.1.0; set = tests.1.1 })
inked_of bits (pos x) (negsuc y) h = absurd (cc)
inked_of bits (negsuc x) y h = absurd (cc)

of_inked : (bits row : ℕ) (x y : ℤ) → IsInked bits x y row → in_column bits 0 x y ≡ true
of_inked bits row x y is = rw (is.across, is.down, to_ge row 0 (omega arith), to_lt row 8 is.high, is.set) refl

-- the bits from one on
shifted_bit : (bits k j : ℕ) → has_bit (bits / 2 ^ k) j ≡ has_bit bits (k + j)
shifted_bit bits k j = ap (λ (n : ℕ). n % 2 == 1) (div-div-eq-div-mul bits (2 ^ k) (2 ^ j) ∙ ap (λ (n : ℕ). bits / n) (sym (pow-add 2 k j)))

holds_of : (rect : Rect) (x y : ℤ) → holds rect x y ≡ true → (rect.left ≤ℤ x) × ((x <ℤ rect.right) × ((rect.top ≤ℤ y) × (y <ℤ rect.bottom)))
holds_of rect x y h = (grind (arith, ints), (grind (arith, ints), (grind (arith, ints), grind (arith, ints))))

of_holds : (rect : Rect) (x y : ℤ) → rect.left ≤ℤ x → x <ℤ rect.right → rect.top ≤ℤ y → y <ℤ rect.bottom → holds rect x y ≡ true
of_holds rect x y a b c d = grind (arith, ints)

split_if : (a b : Bool) (p u : Argb) → (if a && b then p else u) ≡ (if a then (if b then p else u) else u)
split_if true b p u = refl
split_if false b p u = refl

-- the columns and the rows of a column of a cell at the origin of a canvas, within the clip and a picture of this size
module _ (width : ℕ) (canvas : Canvas) (left right : ℕ)
    (left_is : left ≡ edge_at width canvas.clip.left canvas.clip.right canvas.left)
    (right_is : right ≡ edge_at width canvas.clip.left canvas.clip.right (canvas.left +ℤ pos 1)) where
  pub column_spanned : (x : ℕ) → left ≤ x → x < right → IsSpanned canvas.clip.left canvas.clip.right canvas.left (canvas.left +ℤ pos 1) x
  column_spanned x a b = in_span width canvas.clip.left canvas.clip.right canvas.left (canvas.left +ℤ pos 1) x (omega (arith, left_is, a)) (omega (arith, right_is, b))

module _ (height : ℕ) (canvas : Canvas) (top bottom : ℕ)
    (top_is : top ≡ edge_at height canvas.clip.top canvas.clip.bottom canvas.top)
    (bottom_is : bottom ≡ edge_at height canvas.clip.top canvas.clip.bottom (canvas.top +ℤ pos 8)) where
  pub row_spanned : (y : ℕ) → top ≤ y → y < bottom → IsSpanned canvas.clip.top canvas.clip.bottom canvas.top (canvas.top +ℤ pos 8) y
  row_spanned y a b = in_span height canvas.clip.top canvas.clip.bottom canvas.top (canvas.top +ℤ pos 8) y (omega (arith, top_is, a)) (omega (arith, bottom_is, b))

  -- the last of the rows
  pub last_spanned : top < bottom → pos (bottom - 1) <ℤ (canvas.top +ℤ pos 8)
  last_spanned lt = (row_spanned (bottom - 1) (omega arith) (omega arith)).end

-- a column of a cell, and its edges
module _ (bits width height : ℕ) (canvas : Canvas) (left right top bottom : ℕ)
    (left_is : left ≡ edge_at width canvas.clip.left canvas.clip.right canvas.left)
    (right_is : right ≡ edge_at width canvas.clip.left canvas.clip.right (canvas.left +ℤ pos 1))
    (top_is : top ≡ edge_at height canvas.clip.top canvas.clip.bottom canvas.top)
    (bottom_is : bottom ≡ edge_at height canvas.clip.top canvas.clip.bottom (canvas.top +ℤ pos 8)) where
  abbrev inked_at : ℕ → ℕ → Bool
  inked_at x y = holds canvas.clip (pos x) (pos y) && in_column bits 0 (pos x -ℤ canvas.left) (pos y -ℤ canvas.top)

  record IsSeen (x y row : ℕ) : Type 0 where
    at : pos x ≡ canvas.left
    column : (left ≤ x) × (x < right)
    down : pos y ≡ canvas.top +ℤ pos row
    rows : (top ≤ y) × (y < bottom)
    set : has_bit bits row ≡ true

  seen_of : (x y : ℕ) → x < width → y < height → inked_at x y ≡ true → (row : ℕ) × IsSeen x y row
  seen_of x y xw yh is =
      let tests = and_parts _ _ is in
      let h = holds_of canvas.clip (pos x) (pos y) tests.0 in
      let i = inked_of bits (pos x -ℤ canvas.left) (pos y -ℤ canvas.top) tests.1 in
      let across = i.1.across in
      let down = i.1.down in
      let high = i.1.high in
      let at : pos x ≡ canvas.left = omega (arith, ints, across) in
      let beneath : pos y ≡ canvas.top +ℤ pos i.0 = omega (arith, ints, down) in
      let columns = span_in width canvas.clip.left canvas.clip.right canvas.left (canvas.left +ℤ pos 1) x xw
      (record { lower = h.0; upper = h.1.0; begin = omega (arith, ints, at); end = omega (arith, ints, at) }) in
      let rows = span_in height canvas.clip.top canvas.clip.bottom canvas.top (canvas.top +ℤ pos 8) y yh
      (record { lower = h.1.1.0; upper = h.1.1.1; begin = omega (arith, ints, beneath); end = omega (arith, ints, beneath, high) }) in
      (i.0, record { at = at; column = (omega (arith, left_is, columns.0), omega (arith, right_is, columns.1)); down = beneath; rows = (omega (arith, top_is, rows.0), omega (arith, bottom_is, rows.1)); set = i.1.set })

  unseen : (x y : ℕ) → x < width → y < height → ((left < right) → (top < bottom) → ⊥) → inked_at x y ≡ false
  unseen x y xw yh none = false_from_ne_true (inked_at x y) (λ is.
      let s = seen_of x y xw yh is in
      let column = s.1.column in
      let rows = s.1.rows in
      none (omega (arith, column.0, column.1)) (omega (arith, rows.0, rows.1)))

  module _ (skip : ℕ) (across : left < right) (skip_is : canvas.top +ℤ pos skip ≡ pos top) where
    abbrev strip : Strip
    strip = record { column = left; top = top; bottom = bottom }

    -- the pixels that are inked are those that are set in the strip
    same_pixels : (x y : ℕ) → x < width → y < height → inked_at x y ≡ is_set strip (bits / 2 ^ skip) x y
    same_pixels x y xw yh = same_test _ _
        (λ is.
        let s = seen_of x y xw yh is in
        let first = column_spanned width canvas left right left_is right_is left (omega arith) across in
        let from = first.begin in
        let to = first.end in
        let at = s.1.at in
        let down = s.1.down in
        let rows = s.1.rows in
        let column : x ≡ left = omega (arith, ints, from, to, at) in
        let row : s.0 ≡ skip + (y - top) = omega (arith, ints, down, skip_is, rows.0) in
        and_from _ _ (is_eq x left column)
        (and_from _ _ (and_from _ _ (ap not (to_ge y top rows.0)) (to_lt y bottom rows.1))
        (shifted_bit bits skip (y - top) ∙ ap (λ (n : ℕ). has_bit bits n) (sym row) ∙ s.1.set)))
        (λ is.
        let tests = and_parts _ _ is in
        let lower = and_parts _ _ tests.1 in
        let between = and_parts _ _ lower.0 in
        let column : x ≡ left = eq_of x left tests.0 in
        let above = of_ge y top (not-true (nat_lt y top) between.0) in
        let below = of_lt y bottom between.1 in
        let c = column_spanned width canvas left right left_is right_is x (omega (arith, column)) (omega (arith, column, across)) in
        let r = row_spanned height canvas top bottom top_is bottom_is y above below in
        let from = c.begin in
        let to = c.end in
        let end = r.end in
        let set : has_bit bits (skip + (y - top)) ≡ true = sym (shifted_bit bits skip (y - top)) ∙ lower.1 in
        and_from _ _ (of_holds canvas.clip (pos x) (pos y) c.lower c.upper r.lower r.upper)
        (of_inked bits (skip + (y - top)) (pos x -ℤ canvas.left) (pos y -ℤ canvas.top)
        (record { across = omega (arith, ints, from, to); down = omega (arith, ints, skip_is, above); high = omega (arith, ints, skip_is, above, end); set = set })))
      where
        is_eq : (x c : ℕ) → x ≡ c → (x == c) ≡ true
        is_eq x c h = grind (arith, nat_tests)

module _ (bits : ℕ) (canvas : Canvas) (ink : Argb) (old : Raster) (left right top bottom : ℕ)
    (left_is : left ≡ edge_at old.width canvas.clip.left canvas.clip.right canvas.left)
    (right_is : right ≡ edge_at old.width canvas.clip.left canvas.clip.right (canvas.left +ℤ pos 1))
    (top_is : top ≡ edge_at old.height canvas.clip.top canvas.clip.bottom canvas.top)
    (bottom_is : bottom ≡ edge_at old.height canvas.clip.top canvas.clip.bottom (canvas.top +ℤ pos 8)) where
  -- a column of which nothing is seen
  pub column_unseen : ((left < right) → (top < bottom) → ⊥) → PaintedIn canvas (column_ink ink bits 0) old old
  column_unseen none = record {
    width = refl;
    height = refl;
    colors = λ x y xw yh.
        ap (λ (t : Bool). if t then blend_of ink (color_at old x y) else color_at old x y)
        (sym (unseen bits old.width old.height canvas left right top bottom left_is right_is top_is bottom_is x y xw yh none))
        ∙ split_if (holds canvas.clip (pos x) (pos y)) (in_column bits 0 (pos x -ℤ canvas.left) (pos y -ℤ canvas.top)) (blend_of ink (color_at old x y)) (color_at old x y);
  }

  pub column_inked : (skip : ℕ) (new : Raster) → left < right → canvas.top +ℤ pos skip ≡ pos top
      → InksStrip (record { column = left; top = top; bottom = bottom }) (bits / 2 ^ skip) ink old new → PaintedIn canvas (column_ink ink bits 0) old new
  column_inked skip new across skip_is inks = record {
    width = inks.width;
    height = inks.height;
    colors = λ x y xw yh.
        inks.colors x y xw yh
        ∙ ap (λ (t : Bool). if t then blend_of ink (color_at old x y) else color_at old x y)
        (sym (same_pixels bits old.width old.height canvas left right top bottom left_is right_is top_is bottom_is skip across skip_is x y xw yh))
        ∙ split_if (holds canvas.clip (pos x) (pos y)) (in_column bits 0 (pos x -ℤ canvas.left) (pos y -ℤ canvas.top)) (blend_of ink (color_at old x y)) (color_at old x y);
  }

-- its set pixels are at most those between its edges
pub counted_strip : (left right : ℕ) (strip : Strip) (bits : ℕ) (color : Argb) (old new : Raster) (before after : Work) → left < right → InksStrip strip bits color old new
    → after ≡ record before { painted = min (before.painted + set_bits bits (strip.bottom - strip.top)) (2 ^ 64 - 1) } → before.painted ≤ after.painted
    → IsCounted ((right - left) * (strip.bottom - strip.top)) old new before after
counted_strip left right strip bits color old new before after across inks count grew =
    let painted : after.painted ≡ min (before.painted + set_bits bits (strip.bottom - strip.top)) (2 ^ 64 - 1) = ap (λ (w : Work). w.painted) count in
    let few = set_bits-bound bits (strip.bottom - strip.top) in
    let wide : 1 * (strip.bottom - strip.top) ≤ (right - left) * (strip.bottom - strip.top) = mul-le 1 (strip.bottom - strip.top) (right - left) (strip.bottom - strip.top) (omega arith) (omega arith) in
    let filled = inks.filled in
    let filled_grew = inks.grew in
    record {
      grew = grew;
      filled_grew = inks.grew;
      bound = omega arith;
      alike = λ p q. omega arith;
      measured = ap (λ (w : Work). w.measured) count;
    }
