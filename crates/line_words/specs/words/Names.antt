-- How a line names a view.
use Rattle.std.specs.Prelude.{ℕ, ◌+◌, ◌*◌, ◌==◌, nat_le, nat_lt, Bool, ◌&&◌, if◌then◌else◌, List, [], ◌∷◌, length, fold}
use Rattle.std.specs.Prelude.{drop, slice_index, codes, Option, Some, None, Result, Ok, Err}
use Rattle.std.specs.Char.{digit_value, is_ascii_hexdigit}
use Rattle.std.specs.List.{list_all}
use Rattle.std.specs.Str.{bytes_eq}
use Rattle.line_words.specs.words.Numbers.{natural_of}
use Rattle.line_words.specs.words.Words.{◌>>=◌, map_ok}
use Rattle.line_words.specs.declared.fault.LineFault.{LineFault}
use Rattle.line_words.specs.declared.fault.LineFault.TheVariants.{Syntax}
use Rattle.line_words.specs.declared.words.naming.Name.{Name}
use Rattle.line_words.specs.declared.words.naming.Name.TheVariants.{Number, Id}

-- the value of a hexadecimal digit; 0 for any other byte
unfoldable pub hex_digit_of : ℕ → ℕ
hex_digit_of b = if is_ascii_hexdigit b then digit_value b else 0

-- the number that hexadecimal digits write
abbrev pub hex_value : List ℕ → ℕ
hex_value digits = fold (λ n d. 16 * n + hex_digit_of d) 0 digits

-- the number of one to eight hexadecimal digits
unfoldable pub hex_of : List ℕ → Option ℕ
hex_of word =
    if nat_lt 0 (length word) && nat_le (length word) 8 && list_all is_ascii_hexdigit word then Some (hex_value word)
    else None

abbrev pub begins_with : ℕ → List ℕ → Bool
begins_with b word = nat_lt 0 (length word) && slice_index word 0 == b

abbrev pub known : {A : Type 0} → Option A → Result A LineFault
known None = Err Syntax
known (Some a) = Ok a

-- `@HEX`, an id
unfoldable pub id_of : List ℕ → Result ℕ LineFault
id_of word = if begins_with 64 word then known (hex_of (drop 1 word)) else Err Syntax

abbrev pub id_in : List (List ℕ) → Result (ℕ × List (List ℕ)) LineFault
id_in [] = Err Syntax
id_in (word ∷ words) = id_of word >>= λ id. Ok (id, words)

-- `vN`, a view by its number, or `@HEX`, the first view with that id
unfoldable pub name_of : List ℕ → Result Name LineFault
name_of word = if begins_with 118 word then map_ok Number (known (natural_of (drop 1 word))) else map_ok Id (id_of word)

abbrev pub name_in : List (List ℕ) → Result (Name × List (List ℕ)) LineFault
name_in [] = Err Syntax
name_in (word ∷ words) = name_of word >>= λ name. Ok (name, words)

-- `root`, no parent, or a view
unfoldable pub parent_of : List ℕ → Result (Option Name) LineFault
parent_of word = if bytes_eq word (codes "root") then Ok None else map_ok Some (name_of word)

abbrev pub parent_in : List (List ℕ) → Result (Option Name × List (List ℕ)) LineFault
parent_in [] = Err Syntax
parent_in (word ∷ words) = parent_of word >>= λ parent. Ok (parent, words)
