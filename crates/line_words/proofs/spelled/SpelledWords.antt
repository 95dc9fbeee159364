-- The words of a text that was made of words.
use Rattle.std.proofs.Common.{◌≡◌, ℕ, ◌+◌, ◌<◌, true, false, refl, ap, ◌∙◌, inl, inr, List, [], ◌∷◌, ◌++◌, length, drop, arith}
use Rattle.std.specs.Prelude.{◌&&◌, filter, nat_lt}
use Rattle.std.specs.Char.{is_ascii_graphic}
use Rattle.std.specs.List.{All, join_with_byte, list_all, prefix_len, slice_split}
use Rattle.std.specs.Str.{IsAscii, IsUtf8, is_utf8}
use Rattle.std.proofs.Math.Seq.{take-append_seam, drop-append_seam}
use Rattle.std.proofs.lemmas.Bool.{cases_lt}
use Rattle.std.proofs.lemmas.Bool.Decides.{nat_tests}
use Rattle.std.proofs.lemmas.List.Splits.{slice_split_at, slice_split_none}
use Rattle.std.proofs.lemmas.List.Sums.{AllPass-from_list_all}
use Rattle.std.proofs.lemmas.Str.{IsAscii-append, IsUtf8-append, IsUtf8-from_ascii, is_utf8-from_IsUtf8}
use Rattle.std.proofs.lemmas.Str.Ascii.{IsAscii-cons, IsAscii-nil}
use Rattle.line_words.specs.words.Words.{is_space, after_spaces, after_word, first_word, in_word, is_word, words}
use Rattle.line_words.proofs.texts.BothLaws.{and-left, and-right}
use Rattle.line_words.proofs.texts.WordLaws.{filter_some, one_add, spaces_done, spaces_more, word_space, words_none, words_some}

-- a word of printable ASCII bytes
pub record IsWord (word : List ℕ) : Type 0 where
  pub some : 0 < length word
  pub graphic : list_all is_ascii_graphic word ≡ true

pub word_by : (word : List ℕ) → (nat_lt 0 (length word) && list_all is_ascii_graphic word) ≡ true → IsWord word
word_by word h = record {
  some = (let k = and-left (nat_lt 0 (length word)) (list_all is_ascii_graphic word) h in grind (arith, nat_tests));
  graphic = and-right (nat_lt 0 (length word)) (list_all is_ascii_graphic word) h;
}

abbrev pub AreWords : List (List ℕ) → Type 0
AreWords [] = Unit {0}
AreWords (word ∷ words) = IsWord word × AreWords words

graphic_no_space : (b : ℕ) → is_ascii_graphic b ≡ true → is_space b ≡ false
graphic_no_space b h = grind (arith, nat_tests)

graphic_ascii : (b : ℕ) → is_ascii_graphic b ≡ true → b < 128
graphic_ascii b h = grind (arith, nat_tests)

no_space : (word : List ℕ) → list_all is_ascii_graphic word ≡ true → All (λ b. is_space b ≡ false) word
no_space word h = λ k d short. graphic_no_space _ (AllPass-from_list_all is_ascii_graphic word h k d short)

pub ascii : (word : List ℕ) → list_all is_ascii_graphic word ≡ true → IsAscii word
ascii [] h = IsAscii-nil
ascii (b ∷ bs) h =
    IsAscii-cons b bs (graphic_ascii b (and-left (is_ascii_graphic b) (list_all is_ascii_graphic bs) h)) (ascii bs (and-right (is_ascii_graphic b) (list_all is_ascii_graphic bs) h))

ascii_joined : (ws : List (List ℕ)) → AreWords ws → IsAscii (join_with_byte 32 ws)
ascii_joined [] h = IsAscii-nil
ascii_joined (w ∷ []) h = ascii w h.0.graphic
ascii_joined (w ∷ v ∷ ws) h = IsAscii-append w (32 ∷ join_with_byte 32 (v ∷ ws)) (ascii w h.0.graphic) (IsAscii-cons 32 (join_with_byte 32 (v ∷ ws)) (omega arith) (ascii_joined (v ∷ ws) h.1))

pub joined_text : (ws : List (List ℕ)) → AreWords ws → is_utf8 (join_with_byte 32 ws) ≡ true
joined_text ws h = is_utf8-from_IsUtf8 _ (IsUtf8-from_ascii _ (ascii_joined ws h))

ascii_space : IsAscii (32 ∷ [])
ascii_space = IsAscii-cons 32 [] (omega arith) IsAscii-nil

pub words-joined : (ws : List (List ℕ)) → AreWords ws → words (join_with_byte 32 ws) ≡ ws
unfolding words
words-joined [] h = refl
words-joined (w ∷ []) h = ap (filter is_word) (slice_split_none is_space w (no_space w h.0.graphic)) ∙ filter_some w [] h.0.some
words-joined (w ∷ v ∷ ws) h =
    ap (filter is_word) (slice_split_at is_space w 32 (join_with_byte 32 (v ∷ ws)) (no_space w h.0.graphic) refl)
    ∙ filter_some w (slice_split is_space (join_with_byte 32 (v ∷ ws))) h.0.some
    ∙ ap (λ more. w ∷ more) (words-joined (v ∷ ws) h.1)

-- what comes after the first word of a text that was made of words
pub after_word-joined : (head : List ℕ) (ws : List (List ℕ)) → AreWords (head ∷ ws) → words (after_word (join_with_byte 32 (head ∷ ws))) ≡ ws
after_word-joined head ws h = elim (cases_lt 0 (length (first_word (join_with_byte 32 (head ∷ ws))))) [
  | inl some ↦ cc (words-joined (head ∷ ws) h, words_some (join_with_byte 32 (head ∷ ws)) some)
  | inr none ↦ absurd (cc (words-joined (head ∷ ws) h, words_none (join_with_byte 32 (head ∷ ws)) (omega (arith, none))))
]

-- a word before a space
in_word_first : (word rest : List ℕ) → list_all is_ascii_graphic word ≡ true → prefix_len in_word (word ++ 32 ∷ rest) ≡ length word
in_word_first [] rest h = refl
in_word_first (b ∷ bs) rest h =
    let q : prefix_len in_word (b ∷ (bs ++ 32 ∷ rest)) ≡ 1 + prefix_len in_word (bs ++ 32 ∷ rest) = rw (graphic_no_space b (and-left (is_ascii_graphic b) (list_all is_ascii_graphic bs) h)) refl in
    q ∙ ap (λ n. 1 + n) (in_word_first bs rest (and-right (is_ascii_graphic b) (list_all is_ascii_graphic bs) h)) ∙ one_add (length bs)

no_spaces_first : (word rest : List ℕ) → IsWord word → after_spaces (word ++ rest) ≡ word ++ rest
no_spaces_first [] rest h = absurd (omega (arith, h.some))
no_spaces_first (b ∷ bs) rest h = spaces_done b (bs ++ rest) (graphic_no_space b (and-left (is_ascii_graphic b) (list_all is_ascii_graphic bs) h.graphic))

pub first_word-before : (word rest : List ℕ) → IsWord word → first_word (word ++ 32 ∷ rest) ≡ word
unfolding first_word
first_word-before word rest h =
    rw (no_spaces_first word (32 ∷ rest) h, in_word_first word rest h.graphic) (take-append_seam word (32 ∷ rest))

pub after_word-before : (word rest : List ℕ) → IsWord word → after_word (word ++ 32 ∷ rest) ≡ 32 ∷ rest
unfolding after_word
after_word-before word rest h =
    rw (no_spaces_first word (32 ∷ rest) h, in_word_first word rest h.graphic) (drop-append_seam word (32 ∷ rest))

pub after_word-space : (rest : List ℕ) → after_word (32 ∷ rest) ≡ after_word rest
unfolding after_word
after_word-space rest = ap (λ s. drop (prefix_len in_word s) s) (spaces_more 32 rest refl)

pub words-before : (word rest : List ℕ) → IsWord word → words (word ++ 32 ∷ rest) ≡ word ∷ words rest
words-before word rest h =
    let first = first_word-before word rest h in
    let some : 0 < length (first_word (word ++ 32 ∷ rest)) = omega (arith, h.some, ap length first) in
    words_some (word ++ 32 ∷ rest) some ∙ rw (first, after_word-before word rest h, word_space 32 rest refl) refl

pub utf8_before : (word rest : List ℕ) → IsWord word → IsUtf8 rest → IsUtf8 (word ++ 32 ∷ rest)
utf8_before word rest h utf8 =
    IsUtf8-append word (32 ∷ rest) (IsUtf8-from_ascii word (ascii word h.graphic)) (IsUtf8-append (32 ∷ []) rest (IsUtf8-from_ascii (32 ∷ []) (ascii_space)) utf8)
