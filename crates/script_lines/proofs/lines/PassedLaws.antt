-- Lines that are passed over.
use Rattle.std.proofs.Common.{◌≡◌, ℕ, suc, ◌+◌, ◌-◌, ◌<◌, ◌≤◌, true, false, refl, ap, sym, ◌∙◌, inl, inr, List, [], ◌∷◌, ◌++◌, length, take, drop, arith, length-append, length-take}
use Rattle.std.specs.List.{list_all, position_or_len}
use Rattle.std.specs.Prelude.{◌==◌, nat_lt, slice_index}
use Rattle.std.proofs.lemmas.Bool.{cases_Bool}
use Rattle.std.proofs.lemmas.Bool.Decides.{nat_tests}
use Rattle.std.proofs.lemmas.List.Folds.{list_all-append}
use Rattle.script_lines.specs.cutting.Lines.{ArePassedOver, Cut, Line, Text, cut_of, is_idle, is_line_feed, line_of, max_line, without_return}
use Rattle.script_lines.specs.cutting.LineBuffer.{LineBuffer, IsAfter, held_of}
use Rattle.script_lines.proofs.lines.LineLaws.{after_feed, cut-append, cut_following, place_other}

-- an empty line
pub empty_passed : (bytes : List ℕ) → 0 < length bytes → slice_index bytes 0 ≡ 10 → ArePassedOver (take 1 bytes) 1
unfolding line_of without_return
empty_passed [] h e = absurd (omega (arith, h))
empty_passed (b ∷ bytes) h e = rw e (record { rest = refl; idle = refl; counted = refl })

-- a line that begins with `#`

some_bytes : (b : ℕ) (bytes : List ℕ) → nat_lt 0 (length (b ∷ bytes)) ≡ true
some_bytes b bytes = grind (arith, nat_tests)

hash_stays : (bytes : List ℕ) → (more : List ℕ) × (without_return (35 ∷ bytes) ≡ 35 ∷ more)
unfolding without_return
hash_stays [] = ([], refl)
hash_stays (b ∷ bytes) =
    let less : length (35 ∷ b ∷ bytes) - 1 ≡ suc (length bytes) = omega arith in
    elim (cases_Bool (slice_index (35 ∷ b ∷ bytes) (length (35 ∷ b ∷ bytes) - 1) == 13)) [
      | inl e ↦ (take (length bytes) (b ∷ bytes), rw (e, some_bytes 35 (b ∷ bytes), less) refl)
      | inr e ↦ (b ∷ bytes, rw (e, some_bytes 35 (b ∷ bytes)) refl)
    ]

hash_idle : (more : List ℕ) → list_all is_idle (Text (35 ∷ more) ∷ []) ≡ true
hash_idle more = rw (some_bytes 35 more) refl

hash_line : (bytes : List ℕ) → length (35 ∷ bytes) ≤ max_line → (more : List ℕ) × (line_of (35 ∷ bytes) ≡ Text (35 ∷ more))
unfolding line_of
hash_line bytes h =
    let short : nat_lt max_line (length (35 ∷ bytes)) ≡ false = grind (arith, nat_tests) in
    ((hash_stays bytes).0, rw short (ap Text (hash_stays bytes).1))

hash_passed : (bytes : List ℕ) (place : ℕ) → place ≡ position_or_len is_line_feed bytes → place < length bytes → suc place ≤ max_line → ArePassedOver (take (suc (suc place)) (35 ∷ bytes)) 1
hash_passed bytes place p h most =
    let cut : cut_of (take (suc (suc place)) (35 ∷ bytes)) ≡ record { lines = line_of (35 ∷ take place bytes) ∷ []; rest = [] } =
    after_feed [] (35 ∷ bytes) (suc place) (ap suc p ∙ sym (place_other 35 bytes refl)) (omega (arith, h)) in
    let line = hash_line (take place bytes) (omega (arith, most, length-take place bytes)) in
    let cut_line = cut ∙ ap (λ (l : Line). record { lines = l ∷ []; rest = [] }) line.1 in
    record {
      rest = ap (λ (c : Cut). c.rest) cut_line;
      idle = ap (λ (c : Cut). list_all is_idle c.lines) cut_line ∙ hash_idle line.0;
      counted = ap (λ (c : Cut). length c.lines) cut_line;
    }

pub comment_passed : (bytes : List ℕ) (place : ℕ) → 0 < length bytes → slice_index bytes 0 ≡ 35 → place ≡ position_or_len is_line_feed (drop 1 bytes) → place + 1 < length bytes → place + 1 ≤ max_line
    → ArePassedOver (take (place + 2) bytes) 1
comment_passed [] place some e p h most = absurd (omega (arith, some))
comment_passed (b ∷ bytes) place some e p h most =
    let two : place + 2 ≡ suc (suc place) = omega arith in
    rw (two, e) (hash_passed bytes place p (omega (arith, h)) (omega (arith, most)))

-- bytes after which no line has begun
cut-whole : (before bytes : List ℕ) → (cut_of before).rest ≡ [] → cut_of (before ++ bytes) ≡ record { lines = (cut_of before).lines ++ (cut_of bytes).lines; rest = (cut_of bytes).rest }
cut-whole before bytes e =
    cut-append before bytes ∙ ap (λ (r : List ℕ). record { lines = (cut_of before).lines ++ (cut_following r bytes).lines; rest = (cut_following r bytes).rest }) e

-- one line more
pub one_more_passed : (front more all : List ℕ) (count : ℕ) → ArePassedOver front count → ArePassedOver more 1 → all ≡ front ++ more → ArePassedOver all (count + 1)
one_more_passed front more all count old new e =
    let cut : cut_of all ≡ record { lines = (cut_of front).lines ++ (cut_of more).lines; rest = (cut_of more).rest } = ap cut_of e ∙ cut-whole front more old.rest in
    record {
      rest = ap (λ (c : Cut). c.rest) cut ∙ new.rest;
      idle = ap (λ (c : Cut). list_all is_idle c.lines) cut ∙ list_all-append is_idle (cut_of front).lines (cut_of more).lines ∙ rw (old.idle, new.idle) refl;
      counted = ap (λ (c : Cut). length c.lines) cut ∙ length-append (cut_of front).lines (cut_of more).lines ∙ rw (old.counted, new.counted) refl;
    }

nothing_held : (rest : List ℕ) → [] ≡ held_of rest → rest ≡ []
nothing_held [] e = refl
nothing_held (b ∷ bytes) e =
    let none : 0 ≡ length (held_of (b ∷ bytes)) = ap length e in
    absurd (omega (arith, none, length-take (max_line + 1) (b ∷ bytes)))

-- where no line has begun, the lines of these bytes come after those before

pub passed-lines : (held : LineBuffer) (before front : List ℕ) → held.begun ≡ [] → IsAfter held before → (cut_of (before ++ front)).lines ≡ (cut_of before).lines ++ (cut_of front).lines
passed-lines held before front e s = ap (λ (c : Cut). c.lines) (cut-whole before front (nothing_held _ (sym e ∙ s.begun)))

pub passed-reached : (held : LineBuffer) (before front : List ℕ) (count : ℕ) → held.begun ≡ [] → IsAfter held before → ArePassedOver front count → IsAfter held (before ++ front)
passed-reached held before front count e s passed = record {
  begun = e ∙ sym (ap (λ (c : Cut). held_of c.rest) (cut-whole before front (nothing_held _ (sym e ∙ s.begun))) ∙ ap held_of passed.rest);
}
