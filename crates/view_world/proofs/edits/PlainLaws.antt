-- A text without a backslash means what is written.
use Rattle.std.proofs.Common.{◌≡◌, ℕ, Bool, true, false, List, [], ◌∷◌, refl, ap, sym, ◌∙◌, inl, inr, arith}
use Rattle.std.specs.Prelude.{◌==◌, not}
use Rattle.std.specs.List.{list_all}
use Rattle.std.specs.Str.{IsUtf8, chars}
use lib.Utf8.{encode, encodes}
use Rattle.std.proofs.lemmas.Bool.{and_parts, cases_Bool}
use Rattle.std.proofs.lemmas.Bool.Decides.{nat_tests}
use Rattle.std.proofs.lemmas.List.Folds.{list_all-append}
use Rattle.std.proofs.lemmas.Str.{encodes-chars}
use Rattle.line_words.specs.words.Escapes.{is_backslash, unescaped}

abbrev is_plain : ℕ → Bool
is_plain b = not (is_backslash b)

equal : (a b : ℕ) → (a == b) ≡ true → a ≡ b
equal a b h = grind (arith, nat_tests)

parts : (c : ℕ) (text : List ℕ) → list_all is_plain (encodes (c ∷ text)) ≡ true → (list_all is_plain (encode c) ≡ true) × (list_all is_plain (encodes text) ≡ true)
parts c text h = and_parts (list_all is_plain (encode c)) (list_all is_plain (encodes text)) (sym (list_all-append is_plain (encode c) (encodes text)) ∙ h)

no_backslash : list_all is_plain (encode 92) ≡ false
unfolding encode
no_backslash = refl

characters-plain : (text : List ℕ) → list_all is_plain (encodes text) ≡ true → unescaped text ≡ text
characters-plain [] h = refl
characters-plain (c ∷ []) h = refl
characters-plain (c ∷ d ∷ text) h =
    let apart = parts c (d ∷ text) h in
    elim (cases_Bool (is_backslash c)) [
      | inl e ↦ absurd (let bad = rw (equal c 92 e) at apart.0 in cc (bad, no_backslash))
      | inr e ↦ rw e (ap (λ (more : List ℕ). c ∷ more) (characters-plain (d ∷ text) apart.1))
    ]

pub plain_text : (text : List ℕ) → IsUtf8 text → list_all (λ b. not (is_backslash b)) text ≡ true → unescaped (chars text) ≡ chars text
plain_text text valid h = characters-plain (chars text) (ap (list_all is_plain) (encodes-chars text valid) ∙ h)
