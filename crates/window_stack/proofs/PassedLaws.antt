-- A line that is passed over asks for nothing.
use Rattle.std.proofs.Common.{◌≡◌, ℕ, ◌<◌, List, [], ◌∷◌, length, true, refl, ap, ◌∙◌, arith, inl, inr}
use Rattle.std.proofs.lemmas.Bool.{cases_Bool}
use Rattle.std.specs.List.{list_all}
use Rattle.std.specs.Prelude.{◌==◌, ◌&&◌, nat_lt, slice_index, Err}
use Rattle.std.specs.Str.{is_utf8}
use Rattle.script_lines.specs.cutting.Lines.{is_passed_over}
use Rattle.line_words.specs.words.Words.{is_space}
use Rattle.line_words.specs.words.Words.{◌>>=◌, after_word, first_word, word_in, words}
use Rattle.line_words.specs.declared.fault.LineFault.TheVariants.{Syntax}
use Rattle.line_words.proofs.texts.WordLaws.{first_word-mark, words-spaces}
use Rattle.line_words.proofs.texts.WordLaws.{words_some}
use Rattle.window_stack.specs.StackLines.{stack_line_by, stack_line_of}

-- a line without words
no_words : (line : List ℕ) → words line ≡ [] → stack_line_of line ≡ Err Syntax
unfolding stack_line_of
no_words line e = elim (cases_Bool (is_utf8 line)) [
  | inl t ↦ rw (t, e) refl
  | inr f ↦ rw f refl
]

-- no first word begins with the mark of a comment
stack_line_by-mark : (word rest : List ℕ) → stack_line_by (35 ∷ word) rest ≡ Err Syntax
unfolding stack_line_by
stack_line_by-mark word rest = refl

comment : (bs : List ℕ) → stack_line_of (35 ∷ bs) ≡ Err Syntax
unfolding stack_line_of
comment bs = elim (cases_Bool (is_utf8 (35 ∷ bs))) [
  | inl t ↦ rw t (
      let mark = first_word-mark bs in
      let some : 0 < length (first_word (35 ∷ bs)) = omega (arith, ap length mark) in
      ap (λ ws. word_in ws >>= λ head. stack_line_by head.0 (after_word (35 ∷ bs))) (words_some (35 ∷ bs) some ∙ ap (λ w. w ∷ words (after_word (35 ∷ bs))) mark)
      ∙ stack_line_by-mark _ _)
  | inr f ↦ rw f refl
]

marked : (line : List ℕ) → (nat_lt 0 (length line) && slice_index line 0 == 35) ≡ true → stack_line_of line ≡ Err Syntax
marked [] h = absurd (cc)
marked (b ∷ bs) h = let e : b ≡ 35 = grind arith in ap (λ b. stack_line_of (b ∷ bs)) e ∙ comment bs

pub passed_over : (line : List ℕ) → is_passed_over line ≡ true → stack_line_of line ≡ Err Syntax
passed_over line h = elim (cases_Bool (list_all is_space line)) [
  | inl e ↦ no_words line (words-spaces line e)
  | inr e ↦ marked line (rw e at h)
]
