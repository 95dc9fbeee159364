-- No part of a line is longer than the line.
use Rattle.std.proofs.Common.{ℕ, ◌≤◌, inl, inr, List, length, drop, arith, length-drop, length-take}
use Rattle.std.specs.Prelude.{nat_lt, IfOk}
use Rattle.std.specs.List.{prefix_len}
use Rattle.std.specs.Str.{is_utf8}
use Rattle.std.proofs.lemmas.Bool.{cases_lt}
use Rattle.line_words.specs.words.Escapes.{escaped_text_of, has_escapes, rest_of}
use Rattle.line_words.specs.words.Words.{is_space, after_spaces, after_word, first_word, in_word, text_of, word_in, words}
use Rattle.line_words.proofs.texts.OkLaws.{if_either}
use Rattle.line_words.proofs.texts.WordLaws.{words_none, words_some}

-- what follows a word is no longer
pub after_word-short : (bytes : List ℕ) → length (after_word bytes) ≤ length bytes
unfolding after_word
after_word-short bytes =
    omega (arith, length-drop (prefix_len is_space bytes) bytes, length-drop (prefix_len in_word (after_spaces bytes)) (after_spaces bytes))

pub rest_of-short : (rest : List ℕ) → IfOk (rest_of rest) (λ text. length text ≤ length rest)
unfolding rest_of escaped_text_of text_of
rest_of-short rest =
    let P = λ (text : List ℕ). length text ≤ length rest in
    if_either P (nat_lt 0 (length rest)) _ _ (if_either P (has_escapes (drop 1 rest)) _ _ (if_either P (is_utf8 (drop 1 rest)) _ _ (omega (arith, length-drop 1 rest)) tt) tt) tt

first_word-short : (bytes : List ℕ) → length (first_word bytes) ≤ length bytes
unfolding first_word
first_word-short bytes =
    omega (arith, length-take (prefix_len in_word (after_spaces bytes)) (after_spaces bytes), length-drop (prefix_len is_space bytes) bytes)

-- the first of the words has at most n bytes
abbrev pub FirstShort : ℕ → List (List ℕ) → Type 0
FirstShort n words = IfOk (word_in words) (λ first. length first.0 ≤ n)

pub words-first_short : (bytes : List ℕ) → FirstShort (length bytes) (words bytes)
words-first_short bytes = elim (cases_lt 0 (length (first_word bytes))) [
  | inl some ↦ rw (words_some bytes some) (first_word-short bytes)
  | inr none ↦ rw (words_none bytes (omega (arith, none))) tt
]
