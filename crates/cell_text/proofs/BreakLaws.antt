-- The first line of a text, and what comes after it.
use Rattle.std.proofs.Common.{◌≡◌, ◌≢◌, ℕ, zero, suc, ◌+◌, ◌-◌, ◌*◌, ◌/◌, ◌%◌, ◌<◌, ◌≤◌, min, Bool, true, false, List, [], ◌∷◌, ◌++◌, length, take, drop, get_or, Option, Some, None, if◌then◌else◌, refl, ap, sym, ◌∙◌, arith, length-append, inl, inr}
use Rattle.std.specs.Prelude.{◌==◌, ◌⊎◌, nat_lt, slice_get}
use Rattle.std.proofs.lemmas.Bool.{cases_Bool}
use Rattle.std.proofs.lemmas.Bool.Decides.{nat_tests}
use Rattle.std.proofs.lemmas.List.{take-append-drop, get_or-take, length-take-le, get_or_append_left, get_or-append-add, drop_more, drop_all, length-drop}
use Rattle.std.proofs.Math.Nat.{add-div_left, add-mod_left}
use Rattle.std.proofs.lemmas.Grind.{div_ceil_times}
use Rattle.std.proofs.lemmas.Option.{slice_get-get_or, slice_get_past}
use Rattle.view_model.specs.CellText.{cell_below, cell_in, cell_of, in_front, lines_for, newline, segments_of}
use Rattle.cell_text.proofs.SegmentLaws.{append_nothing, in_front-in_front, in_front-nothing}

-- no character of these is a newline
abbrev pub IsPlain : List ℕ → Type 0
IsPlain line = (k : ℕ) → k < length line → get_or line k newline ≢ newline

-- characters without a newline join the first segment of what follows
pub segments-plain : (line text : List ℕ) → IsPlain line → segments_of (line ++ text) ≡ in_front line (segments_of text)
segments-plain [] text plain = sym (in_front-nothing text)
segments-plain (c ∷ line) text plain =
    let other : c ≢ newline = plain zero (omega arith) in
    let test : (c == newline) ≡ false = grind (arith, nat_tests) in
    rw (test, segments-plain line text (λ k lt. plain (suc k) (omega arith))) (in_front-in_front (c ∷ []) line (segments_of text))

slice_get-left : (xs ys : List ℕ) (k : ℕ) → k < length xs → slice_get (xs ++ ys) k ≡ slice_get xs k
slice_get-left xs ys k lt =
    let more = length-append xs ys in
    slice_get-get_or (xs ++ ys) k 0 (omega arith) ∙ ap (λ (c : ℕ). Some c) (get_or_append_left xs ys 0 k lt) ∙ sym (slice_get-get_or xs k 0 lt)

slice_get-right : (xs ys : List ℕ) (k : ℕ) → slice_get (xs ++ ys) (length xs + k) ≡ slice_get ys k
slice_get-right xs ys k = by_test (cases_Bool (nat_lt k (length ys)))
  where
    by_test : ((nat_lt k (length ys) ≡ true) ⊎ (nat_lt k (length ys) ≡ false)) → slice_get (xs ++ ys) (length xs + k) ≡ slice_get ys k
    by_test (inl within) =
        let lt : k < length ys = grind (arith, nat_tests) in
        let more = length-append xs ys in
        slice_get-get_or (xs ++ ys) (length xs + k) 0 (omega arith) ∙ ap (λ (c : ℕ). Some c) (get_or-append-add xs ys k 0) ∙ sym (slice_get-get_or ys k 0 lt)
    by_test (inr past) =
        let ge : length ys ≤ k = grind (arith, nat_tests) in
        let more = length-append xs ys in
        slice_get_past (xs ++ ys) (length xs + k) (omega arith) ∙ sym (slice_get_past ys k ge)

-- a line more if n more characters come before others, and one line if there are at most n
some_of : (s n k : ℕ) → 0 < k → k ≤ s * n → 0 < s
some_of zero n k more le = absurd (omega arith)
some_of (suc s) n k more le = omega arith

one_of : (s n k : ℕ) → k ≤ n → s * n < k + n → s ≤ 1
one_of zero n k few lt = omega arith
one_of (suc zero) n k few lt = omega arith
one_of (suc (suc s)) n k few lt = absurd (omega arith)

lines_for-more : (n k : ℕ) → 0 < n → 0 < k → lines_for n (n + k) ≡ 1 + lines_for n k
unfolding lines_for
lines_for-more n k some more =
    let bounds = div_ceil_times k n some in
    let few : 0 < k / n + min 1 (k % n) = some_of (k / n + min 1 (k % n)) n k more bounds.0 in
    rw (add-div_left k some, add-mod_left n k) (omega arith)

lines_for-one : (n k : ℕ) → 0 < n → k ≤ n → lines_for n k ≡ 1
unfolding lines_for
lines_for-one n k some few =
    let bounds = div_ceil_times k n some in
    let one : k / n + min 1 (k % n) ≤ 1 = one_of (k / n + min 1 (k % n)) n k few bounds.1 in
    omega arith

lines_for-some : (n k : ℕ) → 0 < lines_for n k
unfolding lines_for
lines_for-some n k = omega arith

-- the cells of a segment that these characters begin, and of what is below it
module _ (n : ℕ) (line seg : List ℕ) (others : List (List ℕ)) (some : 0 < n) (short : length line ≤ n) (full : length line < n → seg ≡ []) where
  head_first : (place : ℕ) → cell_below n ((line ++ seg) ∷ others) 0 place ≡ slice_get line place
  unfolding cell_in
  head_first place =
      let many = lines_for-some n (length (line ++ seg)) in
      let here : nat_lt 0 (lines_for n (length (line ++ seg))) ≡ true = grind (arith, nat_tests) in
      let at : 0 * n + place ≡ place = omega arith in
      rw (here, at) (by_test (cases_Bool (nat_lt place n)) (cases_Bool (nat_lt place (length line))))
    where
      by_test : ((nat_lt place n ≡ true) ⊎ (nat_lt place n ≡ false)) → ((nat_lt place (length line) ≡ true) ⊎ (nat_lt place (length line) ≡ false))
          → (if nat_lt place n then slice_get (line ++ seg) place else None) ≡ slice_get line place
      by_test (inl in_line) (inl within) = rw in_line (slice_get-left line seg place (grind (arith, nat_tests)))
      by_test (inl in_line) (inr past) =
          let lt : length line < n = grind (arith, nat_tests) in
          rw (in_line, full lt) (ap (λ (l : List ℕ). slice_get l place) (append_nothing line))
      by_test (inr beyond) within =
          let ge : length line ≤ place = grind (arith, nat_tests) in
          rw beyond (sym (slice_get_past line place ge))

  rest_whole : seg ≡ [] → (l place : ℕ) → cell_below n ((line ++ seg) ∷ others) (l + 1) place ≡ cell_below n others l place
  rest_whole none l place =
      let whole : line ++ seg ≡ line = rw none (append_nothing line) in
      let one : lines_for n (length (line ++ seg)) ≡ 1 = rw whole (lines_for-one n (length line) some short) in
      let later : nat_lt (l + 1) 1 ≡ false = grind (arith, nat_tests) in
      let left : l + 1 - 1 ≡ l = omega arith in
      rw (one, later, left) refl

  rest_part : length line ≡ n → 0 < length seg → (l place : ℕ) → cell_below n ((line ++ seg) ∷ others) (l + 1) place ≡ cell_below n (seg ∷ others) l place
  unfolding cell_in
  rest_part whole more l place =
      let size : length (line ++ seg) ≡ n + length seg = length-append line seg ∙ ap (λ (k : ℕ). k + length seg) whole in
      let count : lines_for n (length (line ++ seg)) ≡ 1 + lines_for n (length seg) = rw size (lines_for-more n (length seg) some more) in
      let test : nat_lt (l + 1) (1 + lines_for n (length seg)) ≡ nat_lt l (lines_for n (length seg)) = grind (arith, nat_tests) in
      let left : l + 1 - (1 + lines_for n (length seg)) ≡ l - lines_for n (length seg) = omega arith in
      let at : (l + 1) * n + place ≡ length line + (l * n + place) = omega (arith, whole) in
      rw (count, test, left, at, slice_get-right line seg (l * n + place)) refl

-- what comes after a line that isn't full is a newline
abbrev pub EndsLine : ℕ → List ℕ → List ℕ → Type 0
EndsLine n line [] = Unit {0}
EndsLine n line (c ∷ text) = length line < n → c ≡ newline

-- a text always has a segment
module _ (n : ℕ) (line : List ℕ) (some : 0 < n) (short : length line ≤ n) (plain : IsPlain line) where
  pub first-line : (text : List ℕ) → EndsLine n line text → (place : ℕ) → cell_of n (line ++ text) 0 place ≡ slice_get line place
  first-line [] ends place = rw (segments-plain line [] plain) (head_first n line [] [] some short (λ lt. refl) place)
  first-line (c ∷ text) ends place = by_char (cases_Bool (c == newline))
    where
      by_segments : (segments : List (List ℕ)) → ((length line < n) → ⊥) → cell_below n (in_front line (in_front (c ∷ []) segments)) 0 place ≡ slice_get line place
      by_segments [] isnt = head_first n line (c ∷ []) [] some short (λ lt. absurd (isnt lt)) place
      by_segments (segment ∷ more) isnt = head_first n line (c ∷ segment) more some short (λ lt. absurd (isnt lt)) place

      by_char : (((c == newline) ≡ true) ⊎ ((c == newline) ≡ false)) → cell_of n (line ++ c ∷ text) 0 place ≡ slice_get line place
      by_char (inl is) = rw (segments-plain line (c ∷ text) plain, is) (head_first n line [] (segments_of text) some short (λ lt. refl) place)
      by_char (inr isnt) = rw (segments-plain line (c ∷ text) plain, isnt) (by_segments (segments_of text) (λ lt. let e : c ≡ newline = ends lt in grind (arith, nat_tests)))

  rest-last : (l place : ℕ) → cell_of n (line ++ []) (l + 1) place ≡ cell_of n [] l place
  unfolding cell_in
  rest-last l place =
      rw (segments-plain line [] plain) (rest_whole n line [] [] some short (λ lt. refl) refl l place)
      ∙ sym (by_tests (nat_lt l (lines_for n 0)) (nat_lt place n) (slice_get_past [] (l * n + place) (omega arith)))
    where
      by_tests : (t s : Bool) {found : Option ℕ} → found ≡ None → (if t then (if s then found else None) else None) ≡ None
      by_tests true true e = e
      by_tests true false e = refl
      by_tests false s e = refl

  rest-newline : (c : ℕ) (text : List ℕ) → c ≡ newline → (l place : ℕ) → cell_of n (line ++ c ∷ text) (l + 1) place ≡ cell_of n text l place
  rest-newline c text is l place =
      let test : (c == newline) ≡ true = grind (arith, nat_tests) in
      rw (segments-plain line (c ∷ text) plain, test) (rest_whole n line [] (segments_of text) some short (λ lt. refl) refl l place)

  rest-other : (c : ℕ) (text : List ℕ) → c ≢ newline → length line ≡ n → (l place : ℕ) → cell_of n (line ++ c ∷ text) (l + 1) place ≡ cell_of n (c ∷ text) l place
  rest-other c text other whole l place =
      let test : (c == newline) ≡ false = grind (arith, nat_tests) in
      rw (segments-plain line (c ∷ text) plain, test) (by_segments (segments_of text))
    where
      by_segments : (segments : List (List ℕ)) → cell_below n (in_front line (in_front (c ∷ []) segments)) (l + 1) place ≡ cell_below n (in_front (c ∷ []) segments) l place
      by_segments [] = rest_part n line (c ∷ []) [] some short (λ lt. absurd (omega arith)) whole (omega arith) l place
      by_segments (segment ∷ more) = rest_part n line (c ∷ segment) more some short (λ lt. absurd (omega arith)) whole (omega arith) l place

-- the same of a text that is cut at the end of its first line
module _ (n end : ℕ) (text : List ℕ) (some : 0 < n) (short : end ≤ n) (within : end ≤ length text)
    (plain : (k : ℕ) → k < end → get_or text k newline ≢ newline) (full : end < n → end < length text → get_or text end newline ≡ newline) where
  line_size : length (take end text) ≡ end
  line_size = length-take-le end text within

  line_plain : IsPlain (take end text)
  line_plain k lt is = let less : k < end = omega (arith, line_size) in plain k less (sym (get_or-take end text k newline less) ∙ is)

  line_short : length (take end text) ≤ n
  line_short = omega (arith, line_size)

  ends : (rest : List ℕ) → drop end text ≡ rest → EndsLine n (take end text) rest
  ends [] is = tt
  ends (c ∷ more) is = λ lt.
      let size : length (drop end text) ≡ suc (length more) = ap length is in
      let before : end < length text = omega (arith, length-drop end text) in
      let at : drop end text ≡ get_or text end newline ∷ drop (end + 1) text = drop_more text end newline before in
      let same : c ≡ get_or text end newline = ap (λ (l : List ℕ). get_or l 0 newline) (sym is ∙ at) in
      same ∙ full (omega (arith, line_size)) before

  whole : take end text ++ drop end text ≡ text
  whole = take-append-drop end text

  pub first_cell : (place : ℕ) → cell_of n text 0 place ≡ slice_get (take end text) place
  first_cell place =
      ap (λ (t : List ℕ). cell_of n t 0 place) (sym whole) ∙ first-line n (take end text) some line_short line_plain (drop end text) (ends (drop end text) refl) place

  pub next-last : length text ≤ end → (l place : ℕ) → cell_of n text (l + 1) place ≡ cell_of n (drop end text) l place
  next-last past l place =
      let none : drop end text ≡ [] = drop_all end text past in
      ap (λ (t : List ℕ). cell_of n t (l + 1) place) (sym whole)
      ∙ rw none (rest-last n (take end text) some line_short line_plain l place)

  pub next-newline : end < length text → get_or text end newline ≡ newline → (l place : ℕ) → cell_of n text (l + 1) place ≡ cell_of n (drop (end + 1) text) l place
  next-newline before is l place =
      ap (λ (t : List ℕ). cell_of n t (l + 1) place) (sym whole ∙ ap (λ (t : List ℕ). take end text ++ t) (drop_more text end newline before))
      ∙ rest-newline n (take end text) some line_short line_plain (get_or text end newline) (drop (end + 1) text) is l place

  pub next-other : end < length text → get_or text end newline ≢ newline → (l place : ℕ) → cell_of n text (l + 1) place ≡ cell_of n (drop end text) l place
  next-other before isnt l place =
      let following = drop_more text end newline before in
      let full_line : length (take end text) ≡ n = by_size (cases_Bool (nat_lt end n)) in
      ap (λ (t : List ℕ). cell_of n t (l + 1) place) (sym whole ∙ ap (λ (t : List ℕ). take end text ++ t) following)
      ∙ rest-other n (take end text) some line_short line_plain (get_or text end newline) (drop (end + 1) text) isnt full_line l place
      ∙ ap (λ (t : List ℕ). cell_of n t l place) (sym following)
    where
      by_size : ((nat_lt end n ≡ true) ⊎ (nat_lt end n ≡ false)) → length (take end text) ≡ n
      by_size (inl less) = let lt : end < n = grind (arith, nat_tests) in absurd (isnt (full lt before))
      by_size (inr no_less) = let ge : n ≤ end = grind (arith, nat_tests) in omega (arith, line_size, short)
