-- The text that a line gives a view, its escapes resolved: what its bytes are.
use Rattle.std.proofs.Common.{◌≡◌, ◌≤◌, ℕ, Bool, true, false, List, [], ◌∷◌, ◌++◌, length, length-append, refl, arith, inl, inr}
use Rattle.std.specs.Prelude.{◌==◌, if◌then◌else◌}
use Rattle.std.specs.Str.{IsUtf8, chars}
use lib.Utf8.{scalar, scalars, encode, encodes}
use Rattle.std.proofs.lemmas.Bool.{and_parts, cases_Bool}
use Rattle.std.proofs.lemmas.Str.{chars-encodes, encodes-chars, length-le-encodes, scalars-chars}
use Rattle.line_words.specs.words.Escapes.{is_backslash, meant_by, unescaped}

some_bytes : (d : ℕ) → 1 ≤ length (encode d)
some_bytes d = let h = length-le-encodes (d ∷ []) in omega (arith, h, length-append (encode d) [])

length-meant_by : (v : Bool) (d : ℕ) → v ≡ (d == 110) → length (encode (if v then 10 else d)) ≤ length (encode d)
unfolding encode
length-meant_by true d is = some_bytes d
length-meant_by false d is = omega arith

length-encodes-unescaped : (cs : List ℕ) → length (encodes (unescaped cs)) ≤ length (encodes cs)
length-encodes-unescaped [] = omega arith
length-encodes-unescaped (c ∷ []) = omega arith
length-encodes-unescaped (c ∷ d ∷ text) =
    let shorter = length-encodes-unescaped text in
    let rest = length-encodes-unescaped (d ∷ text) in
    elim (cases_Bool (is_backslash c)) [
      | inl e ↦ rw e (omega (arith, shorter, length-meant_by (d == 110) d refl, length-append (encode (meant_by d)) (encodes (unescaped text)), length-append (encode c) (encode d ++ encodes text), length-append (encode d) (encodes text)))
      | inr e ↦ rw e (omega (arith, rest, length-append (encode c) (encodes (unescaped (d ∷ text))), length-append (encode c) (encodes (d ∷ text))))
    ]

scalar-meant_by : (v : Bool) (d : ℕ) → scalar d ≡ true → scalar (if v then 10 else d) ≡ true
scalar-meant_by true d h = refl
scalar-meant_by false d h = h

scalars-unescaped : (cs : List ℕ) → scalars cs ≡ true → scalars (unescaped cs) ≡ true
scalars-unescaped [] h = refl
scalars-unescaped (c ∷ []) h = h
scalars-unescaped (c ∷ d ∷ text) h =
    let first = and_parts (scalar c) (scalars (d ∷ text)) h in
    let second = and_parts (scalar d) (scalars text) first.1 in
    let rest = scalars-unescaped text second.1 in
    let all = scalars-unescaped (d ∷ text) first.1 in
    elim (cases_Bool (is_backslash c)) [
      | inl e ↦ rw (e, scalar-meant_by (d == 110) d second.0, rest) refl
      | inr e ↦ rw (e, first.0, all) refl
    ]

pub chars_of-resolved : (text : List ℕ) → IsUtf8 text → chars (encodes (unescaped (chars text))) ≡ unescaped (chars text)
chars_of-resolved text valid = chars-encodes (unescaped (chars text)) (scalars-unescaped (chars text) (scalars-chars text valid))

pub length-resolved : (text : List ℕ) → IsUtf8 text → length (encodes (unescaped (chars text))) ≤ length text
length-resolved text valid =
    let shorter = length-encodes-unescaped (chars text) in
    let all = rw (encodes-chars text valid) at shorter in
    all
