-- The cells of a text from the middle of a segment on.
use Rattle.std.proofs.Common.{◌≡◌, ◌≢◌, ℕ, ◌+◌, ◌-◌, ◌<◌, ◌≤◌, List, [], ◌∷◌, ◌++◌, true, false, Option, length, take, drop, get_or, refl, ap, sym, ◌∙◌, arith}
use Rattle.std.specs.Prelude.{◌==◌, nat_lt}
use Rattle.std.proofs.lemmas.Bool.Decides.{nat_tests}
use Rattle.std.proofs.lemmas.List.{drop_more, get_or-drop, length-drop, take_more}
use Rattle.view_model.specs.CellText.{cell_below, lines_for, newline}
use Rattle.cell_text.proofs.SegmentLaws.{segments_after}

-- the cell of a text from `end` on, in a segment that began at `begin`
abbrev pub cell_from : ℕ → List ℕ → ℕ → ℕ → ℕ → ℕ → Option ℕ
cell_from n text begin end line place = cell_below n (segments_after (take (end - begin) (drop begin text)) (drop end text)) line place

segments-newline : (begun : List ℕ) (c : ℕ) (text : List ℕ) → c ≡ newline → segments_after begun (c ∷ text) ≡ begun ∷ segments_after [] text
segments-newline begun c text is = let test : (c == newline) ≡ true = grind (arith, nat_tests) in rw test refl

segments-other : (begun : List ℕ) (c : ℕ) (text : List ℕ) → c ≢ newline → segments_after begun (c ∷ text) ≡ segments_after (begun ++ c ∷ []) text
segments-other begun c text other = let test : (c == newline) ≡ false = grind (arith, nat_tests) in rw test refl

cell_below-later : (n : ℕ) (segment : List ℕ) (more : List (List ℕ)) (line place : ℕ) → lines_for n (length segment) ≤ line
    → cell_below n (segment ∷ more) line place ≡ cell_below n more (line - lines_for n (length segment)) place
cell_below-later n segment more line place later = let test : nat_lt line (lines_for n (length segment)) ≡ false = grind (arith, nat_tests) in rw test refl

-- a newline at `end`: the segment is whole, and the next begins after it
pub cell_from-newline : (n : ℕ) (text : List ℕ) (begin end line place c : ℕ) → end < length text → c ≡ get_or text end c → c ≡ newline
    → cell_from n text begin end line place ≡ cell_below n (take (end - begin) (drop begin text) ∷ segments_after [] (drop (end + 1) text)) line place
cell_from-newline n text begin end line place c within here is =
    rw (drop_more text end c within, sym here, segments-newline (take (end - begin) (drop begin text)) c (drop (end + 1) text) is) refl

pub cell_from-later : (n : ℕ) (text : List ℕ) (begin end line place c lines : ℕ) → end < length text → c ≡ get_or text end c → c ≡ newline
    → lines ≡ lines_for n (length (take (end - begin) (drop begin text))) → lines ≤ line
    → cell_from n text (end + 1) (end + 1) (line - lines) place ≡ cell_from n text begin end line place
cell_from-later n text begin end line place c lines within here is many later =
    let none : end + 1 - (end + 1) ≡ 0 = omega arith in
    let following : lines_for n (length (take (end - begin) (drop begin text))) ≤ line = omega (arith, many, later) in
    rw (
      cell_from-newline n text begin end line place c within here is,
      cell_below-later n (take (end - begin) (drop begin text)) (segments_after [] (drop (end + 1) text)) line place following,
      none,
      many,
    ) refl

-- another character at `end`: the segment goes on
longer : (begin end : ℕ) (text : List ℕ) (c : ℕ) → begin ≤ end → end < length text → c ≡ get_or text end c
    → take (end + 1 - begin) (drop begin text) ≡ take (end - begin) (drop begin text) ++ c ∷ []
longer begin end text c order within here =
    let one_more : end + 1 - begin ≡ end - begin + 1 = omega arith in
    let room : end - begin < length (drop begin text) = omega (arith, length-drop begin text) in
    let place : begin + (end - begin) ≡ end = omega arith in
    let at : get_or (drop begin text) (end - begin) c ≡ c = get_or-drop begin text (end - begin) c ∙ ap (λ (k : ℕ). get_or text k c) place ∙ sym here in
    rw one_more (take_more (drop begin text) (end - begin) c room ∙ ap (λ (d : ℕ). take (end - begin) (drop begin text) ++ d ∷ []) at)

pub cell_from-other : (n : ℕ) (text : List ℕ) (begin end line place c : ℕ) → begin ≤ end → end < length text → c ≡ get_or text end c → c ≢ newline
    → cell_from n text begin (end + 1) line place ≡ cell_from n text begin end line place
cell_from-other n text begin end line place c order within here other =
    rw (
      longer begin end text c order within here,
      drop_more text end c within,
      sym here,
      segments-other (take (end - begin) (drop begin text)) c (drop (end + 1) text) other,
    ) refl
