-- Bytes that are cut into lines.
use Rattle.std.proofs.Common.{◌≡◌, ℕ, ◌+◌, ◌≤◌, ◌<◌, true, false, refl, ap, sym, ◌∙◌, inl, inr, List, [], ◌∷◌, ◌++◌, length, take, arith, append_assoc, length-append}
use Rattle.std.specs.List.{fold, position_or_len}
use Rattle.std.specs.Prelude.{suc}
use Rattle.std.proofs.lemmas.Bool.{cases_Bool}
use Rattle.std.proofs.lemmas.List.{append-nil}
use Rattle.std.proofs.lemmas.List.Sums.{fold-append}
use Rattle.script_lines.specs.cutting.Lines.{Line, Cut, cut_of, cut_step, is_line_feed, last_line, last_of, line_of}

step_feed : (cut : Cut) (b : ℕ) → is_line_feed b ≡ true → cut_step cut b ≡ record { lines = cut.lines ++ line_of cut.rest ∷ []; rest = [] }
step_feed cut b e = rw e refl

step_other : (cut : Cut) (b : ℕ) → is_line_feed b ≡ false → cut_step cut b ≡ record { lines = cut.lines; rest = cut.rest ++ b ∷ [] }
step_other cut b e = rw e refl

-- lines before a cut stay before it
step_onto : (before : List Line) (cut : Cut) (b : ℕ)
    → cut_step (record { lines = before ++ cut.lines; rest = cut.rest }) b ≡ record { lines = before ++ (cut_step cut b).lines; rest = (cut_step cut b).rest }
step_onto before cut b = elim (cases_Bool (is_line_feed b)) [
  | inl e ↦ step_feed _ b e ∙ ap (λ (l : List Line). record { lines = l; rest = [] }) (append_assoc before cut.lines (line_of cut.rest ∷ [])) ∙ ap (λ (c : Cut). record { lines = before ++ c.lines; rest = c.rest }) (sym (step_feed cut b e))
  | inr e ↦ step_other _ b e ∙ ap (λ (c : Cut). record { lines = before ++ c.lines; rest = c.rest }) (sym (step_other cut b e))
]

fold_onto : (before : List Line) (cut : Cut) (bytes : List ℕ)
    → fold cut_step (record { lines = before ++ cut.lines; rest = cut.rest }) bytes ≡ record { lines = before ++ (fold cut_step cut bytes).lines; rest = (fold cut_step cut bytes).rest }
fold_onto before cut [] = refl
fold_onto before cut (b ∷ bs) = ap (λ c. fold cut_step c bs) (step_onto before cut b) ∙ fold_onto before (cut_step cut b) bs

-- the beginning of a line is cut further
abbrev pub cut_following : List ℕ → List ℕ → Cut
cut_following rest bytes = fold cut_step (record { lines = []; rest = rest }) bytes

-- more bytes only append lines
pub cut-append : (a b : List ℕ) → cut_of (a ++ b) ≡ record { lines = (cut_of a).lines ++ (cut_following (cut_of a).rest b).lines; rest = (cut_following (cut_of a).rest b).rest }
cut-append a b =
    fold-append cut_step _ a b
    ∙ ap (λ (l : List Line). fold cut_step (record { lines = l; rest = (cut_of a).rest }) b) (sym (append-nil (cut_of a).lines))
    ∙ fold_onto (cut_of a).lines (record { lines = []; rest = (cut_of a).rest }) b

pub cut_lines-append : (a b : List ℕ) → (more : List Line) × ((cut_of (a ++ b)).lines ≡ (cut_of a).lines ++ more)
cut_lines-append a b = ((cut_following (cut_of a).rest b).lines, ap (λ c. c.lines) (cut-append a b))

one_add : (n : ℕ) → 1 + n ≡ suc n
one_add n = omega arith

pub add_one : (n : ℕ) → n + 1 ≡ suc n
add_one n = omega arith

place_feed : (b : ℕ) (bs : List ℕ) → is_line_feed b ≡ true → position_or_len is_line_feed (b ∷ bs) ≡ 0
place_feed b bs e = rw e refl

pub place_other : (b : ℕ) (bs : List ℕ) → is_line_feed b ≡ false → position_or_len is_line_feed (b ∷ bs) ≡ suc (position_or_len is_line_feed bs)
place_other b bs e = (let q : position_or_len is_line_feed (b ∷ bs) ≡ 1 + position_or_len is_line_feed bs = rw e refl in q) ∙ one_add (position_or_len is_line_feed bs)

-- bytes without a line feed are appended to the rest
pub after_none : (held bytes : List ℕ) → position_or_len is_line_feed bytes ≡ length bytes → cut_following held bytes ≡ record { lines = []; rest = held ++ bytes }
after_none held [] h = ap (λ (r : List ℕ). record { lines = []; rest = r }) (sym (append-nil held))
after_none held (b ∷ bs) h = elim (cases_Bool (is_line_feed b)) [
  | inl e ↦ absurd (let q = place_feed b bs e in omega (arith, q, h))
  | inr e ↦ (
      let q = place_other b bs e in
      ap (λ c. fold cut_step c bs) (step_other (record { lines = []; rest = held }) b e)
      ∙ after_none (held ++ b ∷ []) bs (omega (arith, q, h))
      ∙ ap (λ (r : List ℕ). record { lines = []; rest = r }) (append_assoc held (b ∷ []) bs))
]

-- the first line feed ends the line
pub after_feed : (held bytes : List ℕ) (at : ℕ) → at ≡ position_or_len is_line_feed bytes → at < length bytes
    → cut_following held (take (suc at) bytes) ≡ record { lines = line_of (held ++ take at bytes) ∷ []; rest = [] }
after_feed held [] at p h = absurd (omega (arith, h))
after_feed held (b ∷ bs) at p h = elim (cases_Bool (is_line_feed b)) [
  | inl e ↦ (
      let z : at ≡ 0 = p ∙ place_feed b bs e in
      ap (λ n. cut_following held (take (suc n) (b ∷ bs))) z
      ∙ step_feed (record { lines = []; rest = held }) b e
      ∙ ap (λ (l : List ℕ). record { lines = line_of l ∷ []; rest = [] }) (sym (append-nil held) ∙ ap (λ n. held ++ take n (b ∷ bs)) (sym z)))
  | inr e ↦ (
      let z : at ≡ suc (position_or_len is_line_feed bs) = p ∙ place_other b bs e in
      ap (λ n. cut_following held (take (suc n) (b ∷ bs))) z
      ∙ ap (λ c. fold cut_step c (take (suc (position_or_len is_line_feed bs)) bs)) (step_other (record { lines = []; rest = held }) b e)
      ∙ after_feed (held ++ b ∷ []) bs (position_or_len is_line_feed bs) refl (omega (arith, z, h))
      ∙ ap (λ (l : List ℕ). record { lines = line_of l ∷ []; rest = [] }) (append_assoc held (b ∷ []) (take (position_or_len is_line_feed bs) bs) ∙ ap (λ n. held ++ take n (b ∷ bs)) (sym z)))
]

pub last_of-some : (rest : List ℕ) → 0 < length rest → last_of rest ≡ last_line rest ∷ []
last_of-some [] h = absurd (omega (arith, h))
last_of-some (b ∷ bs) h = refl

-- a script has no more lines than bytes
counted : (cut : Cut) (bytes : List ℕ) → length (fold cut_step cut bytes).lines + length (fold cut_step cut bytes).rest ≤ length cut.lines + length cut.rest + length bytes
counted cut [] = omega arith
counted cut (b ∷ bs) =
    let h = counted (cut_step cut b) bs in
    let k : length (cut_step cut b).lines + length (cut_step cut b).rest ≤ length cut.lines + length cut.rest + 1 = elim (cases_Bool (is_line_feed b)) [
      | inl e ↦ rw (step_feed cut b e) (omega (arith, length-append cut.lines (line_of cut.rest ∷ [])))
      | inr e ↦ rw (step_other cut b e) (omega (arith, length-append cut.rest (b ∷ [])))
    ] in
    omega (arith, h, k)

pub cut_lines-length : (bytes : List ℕ) → length (cut_of bytes).lines ≤ length bytes
cut_lines-length bytes = omega (arith, counted (record { lines = []; rest = [] }) bytes)
