-- Painters of ink, piece by piece.
use Rattle.std.proofs.Common.{◌≡◌, ℕ, ◌+◌, ◌-◌, ◌*◌, ◌/◌, ◌%◌, ◌^◌, ◌<◌, ◌≤◌, ℤ, pos, negsuc, ◌-ℤ◌, ◌+ℤ◌, ◌≤ℤ◌, ◌<ℤ◌, Bool, true, false, nat_lt, if◌then◌else◌, List, [], length, inl, inr, Option, Some, None, refl, sym, ap, ◌∙◌, arith}
use Rattle.std.specs.Prelude.{◌&&◌, ◌==◌, ◌⊎◌, not, slice_get}
use Rattle.std.proofs.lemmas.Int.{ints}
use Rattle.std.proofs.lemmas.Bool.{cases_Bool, cases_order, not-true}
use Rattle.std.proofs.lemmas.Bool.Decides.{nat_tests}
use Rattle.std.proofs.lemmas.Option.{slice_get_past}
use Rattle.std.proofs.Math.Nat.{zero-div}
use Rattle.geom_core.specs.Color.{blend_of}
use Rattle.geom_core.specs.Rects.{holds}
use Rattle.geom_core.specs.declared.color.Argb.{Argb}
use Rattle.geom_core.specs.declared.geometry.Rect.{Rect}
use Rattle.view_model.specs.CellText.{cell_in, cell_of, lines_for}
use Rattle.view_model.specs.Glyphs.{glyph_of, has_bit}
use Rattle.view_model.specs.Painting.{cell_pixel}
use Rattle.tree_painter.specs.Inks.{column_ink, in_column, line_ink, text_ink}

lt_of : (y end : ℕ) → nat_lt y end ≡ true → y < end
lt_of y end h = grind (arith, nat_tests)

ge_of : (y row : ℕ) → nat_lt y row ≡ false → row ≤ y
ge_of y row h = grind (arith, nat_tests)

lt_test : (y end : ℕ) → y < end → nat_lt y end ≡ true
lt_test y end h = grind (arith, nat_tests)

ge_test : (y row : ℕ) → row ≤ y → nat_lt y row ≡ false
ge_test y row h = grind (arith, nat_tests)

-- a column of pixels of a line, in the line's coordinates
column_here : (bits c x y : ℕ) → in_column bits 0 (pos x -ℤ pos c) (pos y) ≡ ((x == c) && (nat_lt y 8 && has_bit bits y))
column_here bits c x y = by_order (cases_order x c)
  where
    all_rows : not (nat_lt y 0) ≡ true
    all_rows = grind (arith, nat_tests)

    by_order : ((x ≡ c) ⊎ ((x < c) ⊎ (c < x))) → in_column bits 0 (pos x -ℤ pos c) (pos y) ≡ ((x == c) && (nat_lt y 8 && has_bit bits y))
    by_order (inr (inl lt)) =
        let at : pos x -ℤ pos c ≡ negsuc (c - x - 1) = omega (arith, ints) in
        let other : (x == c) ≡ false = grind (arith, nat_tests) in
        rw (at, other) refl
    by_order (inl is) =
        let at : pos x -ℤ pos c ≡ pos 0 = omega (arith, ints) in
        let same : (x == c) ≡ true = grind (arith, nat_tests) in
        rw (at, same, all_rows) refl
    by_order (inr (inr gt)) =
        let at : pos x -ℤ pos c ≡ pos (x - c) = omega (arith, ints) in
        let other : (x == c) ≡ false = grind (arith, nat_tests) in
        let beyond : (x - c == 0) ≡ false = grind (arith, nat_tests) in
        rw (at, other, beyond) refl

column_beside : (bits c x y : ℕ) (u : Argb) (ink : Argb) → column_ink ink bits 0 (pos x -ℤ pos c) (pos y) u ≡ (if (x == c) && (nat_lt y 8 && has_bit bits y) then blend_of ink u else u)
column_beside bits c x y u ink = ap (λ (t : Bool). if t then blend_of ink u else u) (column_here bits c x y)

-- a pixel of a line: what its first column inks, and what is left right of that
line_pixel : (z p r b d : Bool) (ink : Argb → Argb) (u : Argb) → (z ≡ true → p ≡ true) → (z ≡ true → r ≡ false) → (z ≡ false → p ≡ r) → (z ≡ true → b ≡ d)
    → (if p && b then ink u else u) ≡ (if r && b then ink (if z && d then ink u else u) else (if z && d then ink u else u))
line_pixel true true true b d ink u f g h k = absurd (let e = g refl in cc)
line_pixel true true false true true ink u f g h k = refl
line_pixel true true false true false ink u f g h k = absurd (let e = k refl in cc)
line_pixel true true false false true ink u f g h k = absurd (let e = k refl in cc)
line_pixel true true false false false ink u f g h k = refl
line_pixel true false r b d ink u f g h k = absurd (let e = f refl in cc)
line_pixel false true true b d ink u f g h k = refl
line_pixel false true false b d ink u f g h k = absurd (let e = h refl in cc)
line_pixel false false true b d ink u f g h k = absurd (let e = h refl in cc)
line_pixel false false false b d ink u f g h k = refl

eq_of : (x c : ℕ) → (x == c) ≡ true → x ≡ c
eq_of x c h = grind (arith, nat_tests)

pub line_parts : (ink : Argb) (line : List ℕ) (c character : ℕ) → slice_get line (c / 6) ≡ Some character → (x y : ℤ) (u : Argb)
    → line_ink ink line c x y u ≡ line_ink ink line (c + 1) x y (column_ink ink (glyph_of character (c % 6)) 0 (x -ℤ pos c) y u)
line_parts ink line c character at (pos x) (pos y) u =
    let bits = glyph_of character (c % 6) in
    line_pixel (x == c) (not (nat_lt x c)) (not (nat_lt x (c + 1))) (nat_lt y 8 && cell_pixel (slice_get line (x / 6)) (x % 6) y) (nat_lt y 8 && has_bit bits y) (blend_of ink) u
    (λ z. let e = eq_of x c z in ap not (ge_test x c (omega arith)))
    (λ z. let e = eq_of x c z in ap not (lt_test x (c + 1) (omega arith)))
    (λ z. grind (arith, nat_tests))
    (λ z. let e = eq_of x c z in ap (λ (k : ℕ). nat_lt y 8 && cell_pixel (slice_get line (k / 6)) (k % 6) y) e ∙ ap (λ (o : Option ℕ). nat_lt y 8 && cell_pixel o (c % 6) y) at)
    ∙ ap (λ (v : Argb). if not (nat_lt x (c + 1)) && (nat_lt y 8 && cell_pixel (slice_get line (x / 6)) (x % 6) y) then blend_of ink v else v) (sym (column_beside bits c x y u ink))
line_parts ink line c character at (pos x) (negsuc y) u = beside (pos x -ℤ pos c)
  where
    beside : (z : ℤ) → u ≡ column_ink ink (glyph_of character (c % 6)) 0 z (negsuc y) u
    beside (pos k) = refl
    beside (negsuc k) = refl
line_parts ink line c character at (negsuc x) y u =
    let left : negsuc x -ℤ pos c ≡ negsuc (x + c) = omega (arith, ints) in
    rw left refl

-- columns left of those that are left to ink are not seen
pub line_from : (ink : Argb) (line : List ℕ) (c : ℕ) (x y : ℤ) (u : Argb) → ((k : ℕ) → x ≡ pos k → c ≤ k) → line_ink ink line c x y u ≡ line_ink ink line 0 x y u
line_from ink line c (pos x) (pos y) u seen =
    let a : nat_lt x c ≡ false = ge_test x c (seen x refl) in
    let b : nat_lt x 0 ≡ false = ge_test x 0 (omega arith) in
    rw (a, b) refl
line_from ink line c (pos x) (negsuc y) u seen = refl
line_from ink line c (negsuc x) y u seen = refl

no_ink : (p e b : Bool) (v u : Argb) → (p ≡ true → b ≡ false) → (if p && (e && b) then v else u) ≡ u
no_ink true true true v u h = absurd (let k = h refl in cc)
no_ink true true false v u h = refl
no_ink true false b v u h = refl
no_ink false e b v u h = refl

-- nor are those right of the edge of the clip, and beyond the line there are none
pub line_over : (ink : Argb) (line : List ℕ) (c : ℕ) (x y : ℤ) (u : Argb) → ((k : ℕ) → x ≡ pos k → c ≤ k → length line ≤ k / 6) → line_ink ink line c x y u ≡ u
line_over ink line c (pos x) (pos y) u past =
    no_ink (not (nat_lt x c)) (nat_lt y 8) (cell_pixel (slice_get line (x / 6)) (x % 6) y) (blend_of ink u) u
    (λ h. ap (λ (o : Option ℕ). cell_pixel o (x % 6) y) (slice_get_past line (x / 6) (past x refl (ge_of x c (not-true (nat_lt x c) h)))))
line_over ink line c (pos x) (negsuc y) u past = refl
line_over ink line c (negsuc x) y u past = refl

-- a line is not seen where it ends above a point
pub line_above : (ink : Argb) (line : List ℕ) (c : ℕ) (x y : ℤ) (u : Argb) → pos 8 ≤ℤ y → line_ink ink line c x y u ≡ u
line_above ink line c (pos x) (pos y) u low =
    let below : nat_lt y 8 ≡ false = ge_test y 8 (omega (arith, ints)) in
    none (not (nat_lt x c)) (nat_lt y 8) (cell_pixel (slice_get line (x / 6)) (x % 6) y) below
  where
    none : (p e b : Bool) → e ≡ false → (if p && (e && b) then blend_of ink u else u) ≡ u
    none p true b h = absurd (cc)
    none true false b h = refl
    none false false b h = refl
line_above ink line c (pos x) (negsuc y) u low = refl
line_above ink line c (negsuc x) y u low = refl

-- nothing of a text is above its corner
pub text_above : (ink : Argb) (n : ℕ) (text : List ℕ) (x y : ℤ) (u : Argb) → y <ℤ pos 0 → text_ink ink n text x y u ≡ u
text_above ink n text (pos x) (pos y) u above = absurd (omega (arith, ints))
text_above ink n text (pos x) (negsuc y) u above = refl
text_above ink n text (negsuc x) y u above = refl

-- a text: its first line, and then the rest of it in lines below
pub text_parts : (ink : Argb) (n : ℕ) (text line rest : List ℕ) → ((place : ℕ) → cell_of n text 0 place ≡ slice_get line place)
    → ((l place : ℕ) → cell_of n text (l + 1) place ≡ cell_of n rest l place) → (x y : ℤ) (u : Argb)
    → text_ink ink n text x y u ≡ text_ink ink n rest x (y -ℤ pos 8) (line_ink ink line 0 x y u)
text_parts ink n text line rest first later (pos x) (pos y) u = by_row (cases_Bool (nat_lt y 8))
  where
    from_left : not (nat_lt x 0) ≡ true
    from_left = ap not (ge_test x 0 (omega arith))

    by_row : ((nat_lt y 8 ≡ true) ⊎ (nat_lt y 8 ≡ false)) → text_ink ink n text (pos x) (pos y) u ≡ text_ink ink n rest (pos x) (pos y -ℤ pos 8) (line_ink ink line 0 (pos x) (pos y) u)
    by_row (inl above) =
        let lt = lt_of y 8 above in
        let row : y / 8 ≡ 0 = omega arith in
        let same : y % 8 ≡ y = omega arith in
        let back : pos y -ℤ pos 8 ≡ negsuc (7 - y) = omega (arith, ints) in
        rw (row, same, back, above, from_left, first (x / 6)) refl
    by_row (inr beneath) =
        let ge = ge_of y 8 beneath in
        let row : y / 8 ≡ (y - 8) / 8 + 1 = omega arith in
        let same : y % 8 ≡ (y - 8) % 8 = omega arith in
        let back : pos y -ℤ pos 8 ≡ pos (y - 8) = omega (arith, ints) in
        rw (row, same, back, beneath, from_left, later ((y - 8) / 8) (x / 6)) refl
text_parts ink n text line rest first later (pos x) (negsuc y) u =
    sym (text_above ink n rest (pos x) (negsuc y -ℤ pos 8) u (omega (arith, ints)))
text_parts ink n text line rest first later (negsuc x) y u = refl

-- a text without a character has no ink
pub text_none : (ink : Argb) (n : ℕ) (x y : ℤ) (u : Argb) → text_ink ink n [] x y u ≡ u
unfolding cell_in
text_none ink n (pos x) (pos y) u =
    ap (λ (o : Option ℕ). if cell_pixel o (x % 6) (y % 8) then blend_of ink u else u)
    (none (nat_lt (y / 8) (lines_for n 0)) (nat_lt (x / 6) n) (slice_get_past [] (y / 8 * n + x / 6) (omega arith)))
  where
    none : (t s : Bool) {found : Option ℕ} → found ≡ None → (if t then (if s then found else None) else None) ≡ None
    none true true e = e
    none true false e = refl
    none false s e = refl
text_none ink n (pos x) (negsuc y) u = refl
text_none ink n (negsuc x) y u = refl

-- what the test of a rectangle shows
pub holds_left : (rect : Rect) (x y : ℤ) → holds rect x y ≡ true → rect.left ≤ℤ x
holds_left rect x y h = grind (arith, ints)

pub holds_right : (rect : Rect) (x y : ℤ) → holds rect x y ≡ true → x <ℤ rect.right
holds_right rect x y h = grind (arith, ints)

pub holds_top : (rect : Rect) (x y : ℤ) → holds rect x y ≡ true → rect.top ≤ℤ y
holds_top rect x y h = grind (arith, ints)

pub column_away : (ink : Argb) (bits row c : ℕ) (left x y : ℤ) (u : Argb) → column_ink ink bits row (x -ℤ (left +ℤ pos c)) y u ≡ column_ink ink bits row (x -ℤ left -ℤ pos c) y u
column_away ink bits row c left x y u = let e : x -ℤ (left +ℤ pos c) ≡ x -ℤ left -ℤ pos c = omega (arith, ints) in ap (λ (z : ℤ). column_ink ink bits row z y u) e

pub text_away : (ink : Argb) (n : ℕ) (text : List ℕ) (top x y : ℤ) (u : Argb) → text_ink ink n text x (y -ℤ (top +ℤ pos 8)) u ≡ text_ink ink n text x (y -ℤ top -ℤ pos 8) u
text_away ink n text top x y u = let e : y -ℤ (top +ℤ pos 8) ≡ y -ℤ top -ℤ pos 8 = omega (arith, ints) in ap (λ (z : ℤ). text_ink ink n text x z u) e

no_bit : (row : ℕ) → has_bit 0 row ≡ false
no_bit row = ap (λ (n : ℕ). n % 2 == 1) (zero-div (2 ^ row))

-- a column without a set bit has no ink
pub column_clear : (ink : Argb) (bits : ℕ) → bits ≡ 0 → (x y : ℤ) (u : Argb) → column_ink ink bits 0 x y u ≡ u
column_clear ink bits none (pos x) (pos y) u = rw (none, no_bit y) (unset (x == 0) (not (nat_lt y 0)) (nat_lt y 8))
  where
    unset : (p q r : Bool) → (if p && (q && (r && false)) then blend_of ink u else u) ≡ u
    unset true true true = refl
    unset true true false = refl
    unset true false r = refl
    unset false q r = refl
column_clear ink bits none (pos x) (negsuc y) u = refl
column_clear ink bits none (negsuc x) y u = refl
