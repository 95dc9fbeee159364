-- Saved states: the line that saves one, and the line that restores one.
use Rattle.std.specs.Prelude.{ℕ, ◌%◌, ◌==◌, nat_lt, Bool, ◌&&◌, if◌then◌else◌, List, [], ◌∷◌, length, Some, None}
use Rattle.std.specs.Prelude.{Result, Ok, Err}
use Rattle.std.specs.Char.{is_ascii_hexdigit}
use Rattle.std.specs.List.{list_all}
use Rattle.script_lines.specs.commands.PlainCommands.{PlainCommand, Save, Restore}
use Rattle.line_words.specs.words.Words.{◌>>=◌, end_of}
use Rattle.line_words.specs.declared.fault.LineFault.{LineFault}
use Rattle.line_words.specs.declared.fault.LineFault.TheVariants.{Syntax}

-- bytes in hexadecimal digits, two for each: at least one byte
unfoldable pub is_state_text : List ℕ → Bool
is_state_text word = nat_lt 0 (length word) && length word % 2 == 0 && list_all is_ascii_hexdigit word

unfoldable pub state_text_of : List ℕ → Result (List ℕ) LineFault
state_text_of word = if is_state_text word then Ok word else Err Syntax

-- nothing
unfoldable pub save_of : List (List ℕ) → Result PlainCommand LineFault
save_of words = end_of words >>= λ _. Ok Save

-- nothing, for the state that is kept, or `HEX`, a state
unfoldable pub restore_of : List (List ℕ) → Result PlainCommand LineFault
restore_of [] = Ok (Restore None)
restore_of (word ∷ words) = do
  text ← state_text_of word
  _ ← end_of words
  Ok (Restore (Some text))
