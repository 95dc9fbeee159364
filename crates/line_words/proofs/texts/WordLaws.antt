-- The first word of a line, and the words after it.
use Rattle.std.proofs.Common.{◌≡◌, ℕ, ◌+◌, ◌<◌, true, false, refl, ap, sym, ◌∙◌, inl, inr, List, [], ◌∷◌, length, take, drop, arith}
use Rattle.std.specs.Prelude.{◌==◌, nat_lt, filter, suc}
use Rattle.std.specs.List.{slice_split, prefix_len, onto_first, list_all}
use Rattle.std.proofs.lemmas.Bool.{cases_Bool}
use Rattle.std.proofs.lemmas.Bool.Decides.{nat_tests}
use Rattle.line_words.specs.words.Words.{words, first_word, after_word, after_spaces, in_word, is_word, is_space}
use Rattle.line_words.proofs.texts.BothLaws.{and-left, and-right}

pub one_add : (n : ℕ) → 1 + n ≡ suc n
one_add n = omega arith

pub word_space : (b : ℕ) (bs : List ℕ) → (b == 32) ≡ true → words (b ∷ bs) ≡ words bs
unfolding words
word_space b bs e = rw e refl

pub spaces_more : (b : ℕ) (bs : List ℕ) → (b == 32) ≡ true → after_spaces (b ∷ bs) ≡ after_spaces bs
spaces_more b bs e = ap (λ n. drop n (b ∷ bs)) (let q : prefix_len is_space (b ∷ bs) ≡ 1 + prefix_len is_space bs = rw e refl in q ∙ one_add (prefix_len is_space bs))

pub spaces_done : (b : ℕ) (bs : List ℕ) → (b == 32) ≡ false → after_spaces (b ∷ bs) ≡ b ∷ bs
spaces_done b bs e = ap (λ n. drop n (b ∷ bs)) (let q : prefix_len is_space (b ∷ bs) ≡ 0 = rw e refl in q)

words_spaces : (bytes : List ℕ) → words (after_spaces bytes) ≡ words bytes
words_spaces [] = refl
words_spaces (b ∷ bs) = elim (cases_Bool (b == 32)) [
  | inl e ↦ ap words (spaces_more b bs e) ∙ words_spaces bs ∙ sym (word_space b bs e)
  | inr e ↦ ap words (spaces_done b bs e)
]

-- bytes are their first word, and after it other words
record Begins (s : List ℕ) : Type 0 where
  tail : List (List ℕ)
  split : slice_split is_space s ≡ take (prefix_len in_word s) s ∷ tail
  rest : filter is_word tail ≡ words (drop (prefix_len in_word s) s)

begins_space : (b : ℕ) (bs : List ℕ) → (b == 32) ≡ true → Begins (b ∷ bs)
unfolding words
begins_space b bs e =
    let z : prefix_len in_word (b ∷ bs) ≡ 0 = rw e refl in
    record {
      tail = slice_split is_space bs;
      split = (let q : slice_split is_space (b ∷ bs) ≡ [] ∷ slice_split is_space bs = rw e refl in q) ∙ ap (λ n. take n (b ∷ bs) ∷ slice_split is_space bs) (sym z);
      rest = sym (word_space b bs e) ∙ ap (λ n. words (drop n (b ∷ bs))) (sym z);
    }

begins_more : (b : ℕ) (bs : List ℕ) → (b == 32) ≡ false → Begins bs → Begins (b ∷ bs)
begins_more b bs e i =
    let z : prefix_len in_word (b ∷ bs) ≡ suc (prefix_len in_word bs) = (let q : prefix_len in_word (b ∷ bs) ≡ 1 + prefix_len in_word bs = rw e refl in q) ∙ one_add (prefix_len in_word bs) in
    record {
      tail = i.tail;
      split = (let q : slice_split is_space (b ∷ bs) ≡ onto_first b (slice_split is_space bs) = rw e refl in q) ∙ ap (onto_first b) i.split ∙ ap (λ n. take n (b ∷ bs) ∷ i.tail) (sym z);
      rest = i.rest ∙ ap (λ n. words (drop n (b ∷ bs))) (sym z);
    }

begins : (s : List ℕ) → Begins s
unfolding words
begins [] = record { tail = []; split = refl; rest = refl }
begins (b ∷ bs) = elim (cases_Bool (b == 32)) [ inl e ↦ begins_space b bs e | inr e ↦ begins_more b bs e (begins bs) ]

pub filter_some : (w : List ℕ) (ws : List (List ℕ)) → 0 < length w → filter is_word (w ∷ ws) ≡ w ∷ filter is_word ws
filter_some w ws h = let t : nat_lt 0 (length w) ≡ true = grind (arith, nat_tests) in rw t refl

words_at : (s : List ℕ) → words s ≡ filter is_word (take (prefix_len in_word s) s ∷ (begins s).tail)
unfolding words
words_at s = ap (filter is_word) (begins s).split

-- bytes that begin with no word and no space are none
none_left : (s : List ℕ) → prefix_len is_space s ≡ 0 → length (take (prefix_len in_word s) s) ≡ 0 → s ≡ []
none_left [] h k = refl
none_left (b ∷ bs) h k = elim (cases_Bool (b == 32)) [
  | inl e ↦ absurd (let q : prefix_len is_space (b ∷ bs) ≡ 1 + prefix_len is_space bs = rw e refl in omega (arith, q, h))
  | inr e ↦ absurd (let q : prefix_len in_word (b ∷ bs) ≡ 1 + prefix_len in_word bs = rw e refl in let r = q ∙ one_add (prefix_len in_word bs) in let t = ap (λ n. length (take n (b ∷ bs))) r in omega (arith, t, k))
]

spaces_gone : (bytes : List ℕ) → prefix_len is_space (after_spaces bytes) ≡ 0
spaces_gone [] = refl
spaces_gone (b ∷ bs) = elim (cases_Bool (b == 32)) [
  | inl e ↦ ap (prefix_len is_space) (spaces_more b bs e) ∙ spaces_gone bs
  | inr e ↦ ap (prefix_len is_space) (spaces_done b bs e) ∙ (let q : prefix_len is_space (b ∷ bs) ≡ 0 = rw e refl in q)
]

pub words_none : (bytes : List ℕ) → length (first_word bytes) ≡ 0 → words bytes ≡ []
unfolding first_word words
words_none bytes h = sym (words_spaces bytes) ∙ ap words (none_left (after_spaces bytes) (spaces_gone bytes) h)

pub words_some : (bytes : List ℕ) → 0 < length (first_word bytes) → words bytes ≡ first_word bytes ∷ words (after_word bytes)
unfolding first_word after_word
words_some bytes h =
    let s = after_spaces bytes in
    sym (words_spaces bytes) ∙ words_at s ∙ filter_some (take (prefix_len in_word s) s) (begins s).tail h ∙ ap (λ ws. take (prefix_len in_word s) s ∷ ws) (begins s).rest

pub words-spaces : (line : List ℕ) → list_all is_space line ≡ true → words line ≡ []
unfolding words
words-spaces [] h = refl
words-spaces (b ∷ bs) h = word_space b bs (and-left (is_space b) (list_all is_space bs) h) ∙ words-spaces bs (and-right (is_space b) (list_all is_space bs) h)

pub first_word-mark : (bs : List ℕ) → first_word (35 ∷ bs) ≡ 35 ∷ take (prefix_len in_word bs) bs
unfolding first_word
first_word-mark bs = ap (λ n. take n (35 ∷ bs)) (one_add (prefix_len in_word bs))
