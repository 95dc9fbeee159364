-- A text whose escapes are resolved is no longer than it was.
use Rattle.std.proofs.Common.{◌≤◌, ℕ, List, [], ◌∷◌, length, arith, inl, inr}
use Rattle.std.specs.Str.{IsUtf8, chars}
use Rattle.std.proofs.lemmas.Bool.{cases_Bool}
use Rattle.std.proofs.lemmas.Str.{encodes-chars, length-le-encodes}
use Rattle.line_words.specs.words.Escapes.{is_backslash, unescaped}

length-unescaped : (text : List ℕ) → length (unescaped text) ≤ length text
length-unescaped [] = omega arith
length-unescaped (c ∷ []) = omega arith
length-unescaped (c ∷ d ∷ text) =
    let shorter = length-unescaped text in
    let rest = length-unescaped (d ∷ text) in
    elim (cases_Bool (is_backslash c)) [
      | inl e ↦ rw e (omega (arith, shorter))
      | inr e ↦ rw e (omega (arith, rest))
    ]

pub few_characters : (bytes : List ℕ) → IsUtf8 bytes → length (unescaped (chars bytes)) ≤ length bytes
few_characters bytes valid =
    let encoded = length-le-encodes (chars bytes) in
    let all = rw (encodes-chars bytes valid) at encoded in
    omega (arith, length-unescaped (chars bytes), all)
