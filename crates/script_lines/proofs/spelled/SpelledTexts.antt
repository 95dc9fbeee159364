-- Lines that set the text of a view, read from their texts.
use Rattle.std.proofs.Common.{◌≡◌, ℕ, true, refl, List, [], ◌∷◌, ◌++◌, length, arith}
use Rattle.std.specs.Prelude.{codes, IsTrue, nat_lt, Ok}
use Rattle.std.specs.List.{join_with_byte}
use Rattle.std.specs.Str.{is_utf8}
use Rattle.std.proofs.lemmas.Bool.Decides.{nat_tests}
use Rattle.std.proofs.lemmas.Str.{IsUtf8-from_is_utf8, is_utf8-from_IsUtf8}
use Rattle.script_lines.specs.reading.Commands.{command_by, command_in, command_of, set_text_of}
use Rattle.script_lines.specs.declared.verbs.Verb.TheVariants as verb
use Rattle.line_words.specs.words.Escapes.{escaped_text_of, has_escapes, rest_of}
use Rattle.script_lines.specs.commands.PlainCommands.{SetText}
use Rattle.line_words.specs.Spelled.{HasText, name_text}
use Rattle.line_words.specs.words.Words.{text_of}
use Rattle.line_words.specs.declared.words.naming.Name.{Name}
use Rattle.script_lines.proofs.readings.VerbLaws.{verb_named-word}
use Rattle.line_words.proofs.spelled.SpelledNames.{name_of-text, name_word}
use Rattle.line_words.proofs.spelled.SpelledWords.{IsWord, after_word-before, after_word-space, utf8_before, word_by, words-before}
use Rattle.line_words.proofs.texts.WordLaws.{word_space}

text_word : IsWord (codes "text")
text_word = word_by (codes "text") refl

set_text_before : (view : Name) (text : List ℕ) → IsTrue (has_escapes text) → HasText view → IsTrue (is_utf8 text)
    → set_text_of (32 ∷ (name_text view ++ 32 ∷ text)) ≡ Ok (SetText view text)
unfolding set_text_of rest_of escaped_text_of text_of
set_text_before view text escapes has utf8 =
    let word = name_word view has in
    let space : nat_lt 0 (length (32 ∷ text)) ≡ true = grind (arith, nat_tests) in
    rw (
      word_space 32 (name_text view ++ 32 ∷ text) refl,
      words-before (name_text view) text word,
      name_of-text view has,
      after_word-space (name_text view ++ 32 ∷ text),
      after_word-before (name_text view) text word,
      space,
      escapes,
      utf8,
    ) refl

pub command_of-text : (view : Name) (text : List ℕ) → IsTrue (has_escapes text) → HasText view → IsTrue (is_utf8 text)
    → command_of (join_with_byte 32 (codes "text" ∷ name_text view ∷ text ∷ [])) ≡ Ok (SetText view text)
unfolding command_of command_in command_by
command_of-text view text escapes has utf8 =
    let more : List ℕ = name_text view ++ 32 ∷ text in
    let whole : is_utf8 (codes "text" ++ 32 ∷ more) ≡ true =
    is_utf8-from_IsUtf8 _ (utf8_before (codes "text") more text_word (utf8_before (name_text view) text (name_word view has) (IsUtf8-from_is_utf8 text utf8))) in
    rw (whole, words-before (codes "text") more text_word, after_word-before (codes "text") more text_word, verb_named-word verb.Text) (set_text_before view text escapes has utf8)
