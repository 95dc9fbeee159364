-- What is read of a text that was made of words.
use Rattle.std.proofs.Common.{◌≡◌, ℕ, refl, List, ◌∷◌}
use Rattle.std.specs.List.{join_with_byte}
use Rattle.script_lines.specs.reading.Commands.{command_by, command_in, command_of}
use Rattle.script_lines.specs.reading.Verbs.{line_word}
use Rattle.line_words.specs.words.Words.{after_word, words}
use Rattle.script_lines.specs.declared.verbs.Verb.{Verb}
use Rattle.script_lines.proofs.readings.VerbLaws.{verb_named-word}
use Rattle.line_words.proofs.spelled.SpelledWords.{AreWords, joined_text, words-joined, after_word-joined}

-- a text that was made of words: what is read of it
pub record ReadsWords (line : List ℕ) (verb : Verb) (ws : List (List ℕ)) : Type 0 where
  pub rest : List ℕ
  pub words : words rest ≡ ws
  pub command : command_of line ≡ command_by verb rest

pub command_of-joined : (verb : Verb) (ws : List (List ℕ)) → AreWords (line_word verb ∷ ws) → ReadsWords (join_with_byte 32 (line_word verb ∷ ws)) verb ws
unfolding command_of command_in
command_of-joined verb ws h =
    let line = join_with_byte 32 (line_word verb ∷ ws) in
    record {
      rest = after_word line;
      words = after_word-joined (line_word verb) ws h;
      command = rw (joined_text (line_word verb ∷ ws) h, words-joined (line_word verb ∷ ws) h, verb_named-word verb) refl;
    }
