-- What comes after the first word, and where words may be parted.
use Rattle.std.proofs.Common.{◌≡◌, ℕ, ◌+◌, ◌-◌, ◌<◌, ◌≤◌, true, refl, ap, sym, ◌∙◌, inl, inr, List, [], ◌∷◌, length, drop, drop-drop, arith, length-drop, length-take, Bool, ◌++◌}
use Rattle.std.specs.Prelude.{Ok, filter}
use Rattle.std.specs.List.{prefix_len, onto_first, slice_split}
use Rattle.std.proofs.lemmas.Bool.{cases_lt, cases_Bool}
use Rattle.std.proofs.lemmas.List.{drop_all, append-nil}
use Rattle.line_words.specs.words.Words.{is_space, after_spaces, after_word, first_word, in_word, word_in, words, is_word}
use Rattle.line_words.proofs.texts.WordLaws.{words_none, one_add, word_space}
use Rattle.std.proofs.lemmas.List.Elements.{filter-append}
use Rattle.std.proofs.lemmas.List.Splits.{length-slice_split, slice_split-cons_no, slice_split-cons_yes}

-- what comes after a word is shorter than all from that word on
pub shorter : (bytes w : List ℕ) (ws : List (List ℕ)) → word_in (words bytes) ≡ Ok (w, ws) → length (after_word bytes) < length bytes
unfolding first_word after_word
shorter bytes w ws h = elim (cases_lt 0 (length (first_word bytes))) [
  | inl some ↦ (
      let p = prefix_len in_word (after_spaces bytes) in
      omega (arith, some, length-take p (after_spaces bytes), length-drop p (after_spaces bytes), length-drop (prefix_len is_space bytes) bytes))
  | inr none ↦ absurd (let e = words_none bytes (omega (arith, none)) in cc)
]

dropped_again : (xs : List ℕ) (n : ℕ) → drop (length xs - length (drop n xs)) xs ≡ drop n xs
dropped_again xs n = elim (cases_lt n (length xs)) [
  | inl less ↦ ap (λ k. drop k xs) (let e : length xs - length (drop n xs) ≡ n = omega (arith, length-drop n xs, less) in e)
  | inr more ↦ (
      let most : length xs ≤ length xs - length (drop n xs) = omega (arith, length-drop n xs, more) in
      drop_all (length xs - length (drop n xs)) xs most ∙ sym (drop_all n xs (omega (arith, more))))
]

dropped_twice : (bytes : List ℕ) (at q p : ℕ) → drop p (drop q (drop at bytes)) ≡ drop (at + (q + p)) bytes
dropped_twice bytes at q p = drop-drop p q (drop at bytes) ∙ drop-drop (q + p) at bytes

-- the place after a word
pub following : (bytes : List ℕ) (at : ℕ) → drop (length bytes - length (after_word (drop at bytes))) bytes ≡ after_word (drop at bytes)
unfolding after_word
following bytes at =
    let q = prefix_len is_space (drop at bytes) in
    let p = prefix_len in_word (after_spaces (drop at bytes)) in
    let e : after_word (drop at bytes) ≡ drop (at + (q + p)) bytes = dropped_twice bytes at q p in
    ap (λ rest. drop (length bytes - length rest) bytes) e ∙ dropped_again bytes (at + (q + p)) ∙ sym e

onto_first-append : {X : Type 0} (x : X) (parts more : List (List X)) → 0 < length parts → onto_first x (parts ++ more) ≡ onto_first x parts ++ more
onto_first-append x [] more h = absurd (omega (arith, h))
onto_first-append x (part ∷ parts) more h = refl

slice_split-append : {X : Type 0} (p : X → Bool) (xs : List X) (y : X) (ys : List X) → p y ≡ true → slice_split p (xs ++ y ∷ ys) ≡ slice_split p xs ++ slice_split p ys
slice_split-append p [] y ys e = slice_split-cons_yes p y ys e
slice_split-append p (x ∷ xs) y ys e = elim (cases_Bool (p x)) [
  | inl t ↦ (
      slice_split-cons_yes p x (xs ++ y ∷ ys) t ∙ ap (λ (parts : List (List _)). [] ∷ parts) (slice_split-append p xs y ys e)
      ∙ ap (λ parts. parts ++ slice_split p ys) (sym (slice_split-cons_yes p x xs t)))
  | inr f ↦ (
      slice_split-cons_no p x (xs ++ y ∷ ys) f ∙ ap (onto_first x) (slice_split-append p xs y ys e)
      ∙ onto_first-append x (slice_split p xs) (slice_split p ys) (omega (arith, length-slice_split p xs))
      ∙ ap (λ parts. parts ++ slice_split p ys) (sym (slice_split-cons_no p x xs f)))
]

words-space : (xs ys : List ℕ) (b : ℕ) → is_space b ≡ true → words (xs ++ b ∷ ys) ≡ words xs ++ words ys
unfolding words
words-space xs ys b e = ap (filter is_word) (slice_split-append is_space xs b ys e) ∙ filter-append is_word (slice_split is_space xs) (slice_split is_space ys)

pub words_nil : words [] ≡ []
unfolding words
words_nil = refl

-- where a word does not go on, words are separated
pub words-append : (xs ys : List ℕ) → prefix_len in_word ys ≡ 0 → words (xs ++ ys) ≡ words xs ++ words ys
words-append xs [] h = ap words (append-nil xs) ∙ sym (append-nil (words xs)) ∙ ap (λ ws. words xs ++ ws) (sym words_nil)
words-append xs (b ∷ ys) h = elim (cases_Bool (is_space b)) [
  | inl e ↦ words-space xs ys b e ∙ ap (λ ws. words xs ++ ws) (sym (word_space b ys e))
  | inr e ↦ absurd (let q : prefix_len in_word (b ∷ ys) ≡ 1 + prefix_len in_word ys = rw e refl in omega (arith, q, h))
]

word_ended : (s : List ℕ) → prefix_len in_word (drop (prefix_len in_word s) s) ≡ 0
word_ended [] = refl
word_ended (b ∷ bs) = elim (cases_Bool (is_space b)) [
  | inl e ↦ (let z : prefix_len in_word (b ∷ bs) ≡ 0 = rw e refl in ap (λ n. prefix_len in_word (drop n (b ∷ bs))) z ∙ z)
  | inr e ↦ (
      let q : prefix_len in_word (b ∷ bs) ≡ 1 + prefix_len in_word bs = rw e refl in
      ap (λ n. prefix_len in_word (drop n (b ∷ bs))) (q ∙ one_add (prefix_len in_word bs)) ∙ word_ended bs)
]

-- a word does not go on after it
pub after_word-ended : (bytes : List ℕ) → prefix_len in_word (after_word bytes) ≡ 0
unfolding after_word
after_word-ended bytes = word_ended (after_spaces bytes)
