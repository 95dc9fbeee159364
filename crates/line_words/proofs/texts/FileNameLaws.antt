-- The names of files are texts of printable bytes.
use Rattle.std.proofs.Common.{◌≡◌, ℕ, true, refl, List, [], ◌∷◌, length, arith}
use Rattle.std.specs.Prelude.{nat_lt, Ok}
use Rattle.std.specs.Char.{is_ascii_graphic}
use Rattle.std.specs.List.{list_all}
use Rattle.std.proofs.lemmas.Bool.Decides.{nat_tests}
use Rattle.std.proofs.lemmas.Str.{IsUtf8-from_ascii, is_utf8-from_IsUtf8}
use Rattle.line_words.specs.words.FileNames.{is_file_name, is_file_name_byte}
use Rattle.line_words.specs.words.Words.{text_of}
use Rattle.line_words.proofs.texts.BothLaws.{and-left, and-right}
use Rattle.line_words.proofs.spelled.SpelledWords.{IsWord, ascii}

name_byte_graphic : (b : ℕ) → is_file_name_byte b ≡ true → is_ascii_graphic b ≡ true
name_byte_graphic b h = grind (arith, nat_tests)

name_graphic : (bs : List ℕ) → list_all is_file_name_byte bs ≡ true → list_all is_ascii_graphic bs ≡ true
name_graphic [] h = refl
name_graphic (b ∷ bs) h =
    rw (name_byte_graphic b (and-left (is_file_name_byte b) (list_all is_file_name_byte bs) h)) (name_graphic bs (and-right (is_file_name_byte b) (list_all is_file_name_byte bs) h))

pub file_name_word : (name : List ℕ) → is_file_name name ≡ true → IsWord name
unfolding is_file_name
file_name_word name h =
    let most = and-left _ _ h in
    let bytes : list_all is_file_name_byte name ≡ true = and-right _ _ most in
    let some : nat_lt 0 (length name) ≡ true = and-left _ _ (and-left _ _ most) in
    record { some = grind (arith, nat_tests); graphic = name_graphic name bytes }

-- the name of a file is a text
pub file_name_text : (name : List ℕ) → is_file_name name ≡ true → text_of name ≡ Ok name
unfolding text_of
file_name_text name h = rw (is_utf8-from_IsUtf8 name (IsUtf8-from_ascii name (ascii name (file_name_word name h).graphic))) refl
