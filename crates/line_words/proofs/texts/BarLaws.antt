-- Words that bars separate.
use Rattle.std.proofs.Common.{◌≡◌, ℕ, ◌+◌, ◌-◌, ◌<◌, ◌≤◌, Bool, refl, ap, sym, ◌∙◌, inl, inr, List, [], ◌∷◌, length, take, drop, arith, length-drop}
use Rattle.std.specs.Prelude.{fold, Ok, Err}
use Rattle.std.specs.List.{slice_split, onto_first, position_or_len}
use Rattle.std.proofs.lemmas.Bool.{cases_Bool, cases_lt}
use Rattle.std.proofs.lemmas.List.{take_all}
use Rattle.std.proofs.lemmas.List.Splits.{slice_split_first}
use Rattle.view_model.specs.declared.placing.Gravity.{Gravity}
use Rattle.line_words.specs.words.Gravities.{is_bar, with_word, word_step, with_words}
use Rattle.line_words.specs.declared.fault.LineFault.{LineFault}

split_whole : {X : Type 0} (p : X → Bool) (xs : List X) → position_or_len p xs ≡ length xs → slice_split p xs ≡ xs ∷ []
split_whole p [] h = refl
split_whole p (x ∷ xs) h = elim (cases_Bool (p x)) [
  | inl e ↦ absurd (let q : position_or_len p (x ∷ xs) ≡ 0 = rw e refl in omega (arith, q, h))
  | inr e ↦ (
      let q : position_or_len p (x ∷ xs) ≡ 1 + position_or_len p xs = rw e refl in
      (let r : slice_split p (x ∷ xs) ≡ onto_first x (slice_split p xs) = rw e refl in r) ∙ ap (onto_first x) (split_whole p xs (omega (arith, q, h))))
]

pub after_fault : (fault : LineFault) (words : List (List ℕ)) → fold word_step (Err fault) words ≡ Err fault
after_fault fault [] = refl
after_fault fault (word ∷ words) = after_fault fault words

one_word : (g : Gravity) (words : List ℕ) (len : ℕ) → len ≡ position_or_len is_bar words → len < length words
    → with_words g words ≡ fold word_step (with_word g (take len words)) (slice_split is_bar (drop (len + 1) words))
unfolding with_words
one_word g words len e h =
    ap (fold word_step (Ok g)) (slice_split_first is_bar words 0 (omega (arith, e, h)))
    ∙ ap (λ n. fold word_step (with_word g (take n words)) (slice_split is_bar (drop (n + 1) words))) (sym e)

-- the last word
pub words_end : (g : Gravity) (words : List ℕ) (len : ℕ) → len ≡ position_or_len is_bar words → len ≡ length words → with_words g words ≡ with_word g (take len words)
unfolding with_words
words_end g words len e h =
    ap (fold word_step (Ok g)) (split_whole is_bar words (sym e ∙ h))
    ∙ ap (with_word g) (sym (take_all len words (omega (arith, h))))

-- a word and those after its bar
pub words_go : (g more : Gravity) (words : List ℕ) (len : ℕ) → len ≡ position_or_len is_bar words → len < length words → with_word g (take len words) ≡ Ok more
    → with_words g words ≡ with_words more (drop (len + 1) words)
unfolding with_words
words_go g more words len e h k = one_word g words len e h ∙ ap (λ r. fold word_step r (slice_split is_bar (drop (len + 1) words))) k

-- a word that is a fault
pub words_stop : (g : Gravity) (words : List ℕ) (len : ℕ) (fault : LineFault) → len ≡ position_or_len is_bar words → len ≤ length words → with_word g (take len words) ≡ Err fault
    → with_words g words ≡ Err fault
words_stop g words len fault e h k = elim (cases_lt len (length words)) [
  | inl l ↦ one_word g words len e l ∙ ap (λ r. fold word_step r (slice_split is_bar (drop (len + 1) words))) k ∙ after_fault fault (slice_split is_bar (drop (len + 1) words))
  | inr l ↦ words_end g words len e (omega (arith, h, l)) ∙ k
]

-- the same for a slice after the bar
pub words_go_on : (g more : Gravity) (words : List ℕ) (len : ℕ) → len ≡ position_or_len is_bar words → len < length words → with_word g (take len words) ≡ Ok more
    → with_words more (take (length words - (len + 1)) (drop (len + 1) words)) ≡ with_words g words
words_go_on g more words len e h k =
    ap (with_words more) (take_all (length words - (len + 1)) (drop (len + 1) words) (omega (arith, length-drop (len + 1) words))) ∙ sym (words_go g more words len e h k)
