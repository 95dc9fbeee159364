-- The characters of a text whose escapes are resolved, one after another.
use Rattle.std.proofs.Common.{◌≡◌, ◌≢◌, ℕ, false, refl, ap, ◌∙◌, List, [], ◌∷◌, ◌++◌, length, arith, true, sym, inl, inr}
use Rattle.std.proofs.lemmas.Bool.{cases_Bool}
use Rattle.std.proofs.lemmas.Bool.Decides.{nat_tests}
use Rattle.std.specs.Prelude.{◌==◌, encode_utf8}
use Rattle.std.specs.Str.{IsUtf8, chars}
use Rattle.std.proofs.lemmas.Str.{IsUtf8-past_char, chars_past_char}
use Rattle.line_words.proofs.spelled.SpelledNumbers.{differs}
use Rattle.line_words.specs.words.Escapes.{escaped, meant_by, unescaped}

unescaped-plain : (c : ℕ) (cs : List ℕ) → (c == 92) ≡ false → unescaped (c ∷ cs) ≡ c ∷ unescaped cs
unescaped-plain c [] e = refl
unescaped-plain c (d ∷ cs) e = rw e refl

equal : (a b : ℕ) → (a == b) ≡ true → a ≡ b
equal a b h = grind (arith, nat_tests)

-- a character that is no backslash
pub plain_first : (text more : List ℕ) (c : ℕ) → IsUtf8 text → text ≡ encode_utf8 c ++ more → c ≢ 92 → unescaped (chars text) ≡ c ∷ unescaped (chars more)
plain_first text more c utf8 e plain = ap unescaped (chars_past_char text more c utf8 e) ∙ unescaped-plain c (chars more) (differs c 92 plain)

-- an escape
pub escape_first : (text after more : List ℕ) (d : ℕ) → IsUtf8 text → text ≡ encode_utf8 92 ++ after → after ≡ encode_utf8 d ++ more → unescaped (chars text) ≡ meant_by d ∷ unescaped (chars more)
escape_first text after more d utf8 e f =
    ap unescaped (chars_past_char text after 92 utf8 e ∙ ap (λ cs. 92 ∷ cs) (chars_past_char after more d (IsUtf8-past_char text after 92 utf8 e) f))

-- a backslash at the end
pub backslash_last : (text after : List ℕ) → IsUtf8 text → text ≡ encode_utf8 92 ++ after → length after ≡ 0 → unescaped (chars text) ≡ 92 ∷ unescaped (chars after)
unfolding chars
backslash_last text [] utf8 e none = ap unescaped (chars_past_char text [] 92 utf8 e)
backslash_last text (b ∷ bs) utf8 e none = absurd (omega (arith, none))

-- characters are those of the text that has them as escapes
pub unescaped-escaped : (cs : List ℕ) → unescaped (escaped cs) ≡ cs
unescaped-escaped [] = refl
unescaped-escaped (c ∷ cs) = elim (cases_Bool (c == 10)) [
  | inl e ↦ rw e (ap (λ more. 10 ∷ more) (unescaped-escaped cs) ∙ ap (λ b. b ∷ cs) (sym (equal c 10 e)))
  | inr e ↦ elim (cases_Bool (c == 92)) [
    | inl f ↦ rw (e, f) (ap (λ more. 92 ∷ more) (unescaped-escaped cs) ∙ ap (λ b. b ∷ cs) (sym (equal c 92 f)))
    | inr f ↦ rw (e, f) (unescaped-plain c (escaped cs) f ∙ ap (λ more. c ∷ more) (unescaped-escaped cs))
  ]
]
