-- Lines that have no command.
use Rattle.std.proofs.Common.{◌≡◌, ℕ, ◌<◌, Bool, true, false, refl, ap, ◌∙◌, inl, inr, List, [], ◌∷◌, length, arith}
use Rattle.std.specs.Prelude.{◌==◌, ◌&&◌, ◌||◌, nat_lt, slice_index, Err}
use Rattle.std.specs.List.{list_all}
use Rattle.std.specs.Str.{is_utf8}
use Rattle.std.proofs.lemmas.Bool.{cases_Bool}
use Rattle.script_lines.specs.reading.Commands.{command_in, command_of}
use Rattle.script_lines.specs.cutting.Lines.{is_passed_over}
use Rattle.line_words.specs.words.Words.{is_space, after_word, first_word, ◌>>=◌, word_in, words}
use Rattle.script_lines.specs.reading.Verbs.{act_named, change_named, verb_named}
use Rattle.line_words.specs.declared.fault.LineFault.TheVariants.{Syntax}
use Rattle.line_words.proofs.texts.WordLaws.{words_some, words-spaces, first_word-mark}

-- a line without words
no_words : (line : List ℕ) → words line ≡ [] → command_of line ≡ Err Syntax
unfolding command_of
no_words line e = elim (cases_Bool (is_utf8 line)) [
  | inl t ↦ rw (t, e) refl
  | inr f ↦ rw f refl
]

or-right : (a b : Bool) → a ≡ false → (a || b) ≡ true → b ≡ true
or-right true b e h = absurd (cc)
or-right false b e h = h

-- no first word begins with the mark of a comment
command_in-mark : (word rest : List ℕ) → command_in (35 ∷ word) rest ≡ Err Syntax
unfolding command_in verb_named act_named change_named
command_in-mark word rest = refl

comment : (bs : List ℕ) → command_of (35 ∷ bs) ≡ Err Syntax
unfolding command_of
comment bs = elim (cases_Bool (is_utf8 (35 ∷ bs))) [
  | inl t ↦ rw t (
      let mark = first_word-mark bs in
      let some : 0 < length (first_word (35 ∷ bs)) = omega (arith, ap length mark) in
      ap (λ ws. word_in ws >>= λ head. command_in head.0 (after_word (35 ∷ bs))) (words_some (35 ∷ bs) some ∙ ap (λ w. w ∷ words (after_word (35 ∷ bs))) mark)
      ∙ command_in-mark _ _)
  | inr f ↦ rw f refl
]

marked : (line : List ℕ) → (nat_lt 0 (length line) && slice_index line 0 == 35) ≡ true → command_of line ≡ Err Syntax
marked [] h = absurd (cc)
marked (b ∷ bs) h = let e : b ≡ 35 = grind (arith) in ap (λ b. command_of (b ∷ bs)) e ∙ comment bs

-- a line that is passed over
pub passed_over : (line : List ℕ) → is_passed_over line ≡ true → command_of line ≡ Err Syntax
passed_over line h = elim (cases_Bool (list_all is_space line)) [
  | inl e ↦ no_words line (words-spaces line e)
  | inr e ↦ marked line (or-right (list_all is_space line) _ e h)
]
