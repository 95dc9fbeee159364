-- The texts of states are words of printable bytes.
use Rattle.std.proofs.Common.{◌≡◌, ℕ, true, refl, List, length, arith}
use Rattle.std.specs.Prelude.{nat_lt, Ok}
use Rattle.std.proofs.lemmas.Bool.Decides.{nat_tests}
use Rattle.std.proofs.lemmas.Str.{IsUtf8-from_ascii, is_utf8-from_IsUtf8}
use Rattle.script_lines.specs.reading.States.{is_state_text, state_text_of}
use Rattle.line_words.specs.words.Words.{text_of}
use Rattle.line_words.proofs.texts.BothLaws.{and-left, and-right}
use Rattle.line_words.proofs.spelled.SpelledNames.{all_graphic}
use Rattle.line_words.proofs.spelled.SpelledWords.{IsWord, ascii}

pub state_word : (word : List ℕ) → is_state_text word ≡ true → IsWord word
unfolding is_state_text
state_word word h =
    let most = and-left _ _ h in
    let some : nat_lt 0 (length word) ≡ true = and-left _ _ most in
    record { some = grind (arith, nat_tests); graphic = all_graphic word (and-right _ _ h) }

-- the text of a state is a text
pub state_text : (word : List ℕ) → is_state_text word ≡ true → text_of word ≡ Ok word
unfolding text_of
state_text word h = rw (is_utf8-from_IsUtf8 word (IsUtf8-from_ascii word (ascii word (state_word word h).graphic))) refl

pub state_text_of-text : (word : List ℕ) → is_state_text word ≡ true → state_text_of word ≡ Ok word
unfolding state_text_of
state_text_of-text word h = rw h refl
