-- The names that a layout file may have.
use Rattle.std.specs.Prelude.{ℕ, ◌==◌, nat_le, nat_lt, Bool, ◌&&◌, ◌||◌, not, if◌then◌else◌, List, [], ◌∷◌, length}
use Rattle.std.specs.Prelude.{slice_index, Result, Ok, Err}
use Rattle.std.specs.Char.{is_ascii_alphanumeric}
use Rattle.std.specs.List.{list_all}
use Rattle.line_words.specs.Numbers.{max_file_name}
use Rattle.line_words.specs.words.Words.{◌>>=◌}
use Rattle.line_words.specs.declared.fault.LineFault.{LineFault}
use Rattle.line_words.specs.declared.fault.LineFault.TheVariants.{Syntax}

-- a letter, a digit, `_`, `-` or `.`
abbrev pub is_file_name_byte : ℕ → Bool
is_file_name_byte b = is_ascii_alphanumeric b || b == 95 || b == 45 || b == 46

-- the name of a file: at least one such byte, and as many as it may have, of which the first is no `.`
unfoldable pub is_file_name : List ℕ → Bool
is_file_name name =
    nat_lt 0 (length name) && nat_le (length name) max_file_name && list_all is_file_name_byte name
    && not (slice_index name 0 == 46)

abbrev pub file_name_of : List ℕ → Result (List ℕ) LineFault
file_name_of word = if is_file_name word then Ok word else Err Syntax

-- the name of a file as the first word, and the words after it
abbrev pub file_name_in : List (List ℕ) → Result (List ℕ × List (List ℕ)) LineFault
file_name_in [] = Err Syntax
file_name_in (word ∷ words) = file_name_of word >>= λ name. Ok (name, words)
