-- What a line gives a resource, after the resource's id.
use Rattle.std.specs.Prelude.{◌≡◌, ℕ, ◌+◌, ◌*◌, ◌-◌, ◌^◌, ◌==◌, IsTrue, if◌then◌else◌, ℤ, pos, negsuc, List, codes}
use Rattle.std.specs.Prelude.{Result, Ok, Err}
use Rattle.std.specs.Str.{bytes_eq}
use Rattle.line_words.specs.words.Colors.{last_color}
use Rattle.line_words.specs.words.Escapes.{has_escapes, rest_of}
use Rattle.line_words.specs.words.Names.{id_in}
use Rattle.line_words.specs.words.Numbers.{IsWithin, integer_in, within_of}
use Rattle.script_lines.specs.commands.PlainCommands.{PlainCommand, PlainGiven, Res, Color, Dimen, Text}
use Rattle.line_words.specs.words.Words.{◌>>=◌, after_word, map_ok, word_in, end_of, words}
use Rattle.script_lines.specs.Numbers.{max_mantissa, min_mantissa}
use Rattle.script_lines.specs.declared.reading.resources.LengthUnit.{LengthUnit}
use Rattle.script_lines.specs.declared.reading.resources.LengthUnit.TheVariants.{Px, Dp, Sp, Pt, In, Mm}
use Rattle.line_words.specs.declared.fault.LineFault.{LineFault}
use Rattle.line_words.specs.declared.fault.LineFault.TheVariants.{Syntax, Range}

-- `C`
abbrev pub color_given : List (List ℕ) → Result PlainGiven LineFault
color_given words = map_ok Color (last_color words)

unfoldable pub unit_of : List ℕ → Result LengthUnit LineFault
unit_of word =
    if bytes_eq word (codes "px") then Ok Px else (
    if bytes_eq word (codes "dp") then Ok Dp else (
    if bytes_eq word (codes "sp") then Ok Sp else (
    if bytes_eq word (codes "pt") then Ok Pt else (
    if bytes_eq word (codes "in") then Ok In else (
    if bytes_eq word (codes "mm") then Ok Mm else
    Err Syntax)))))

-- the number of a unit in the word of a dimension
abbrev pub unit_number : LengthUnit → ℕ
unit_number Px = 0
unit_number Dp = 1
unit_number Sp = 2
unit_number Pt = 3
unit_number In = 4
unit_number Mm = 5

-- a number in 24 bits, those of a number below 0 counted back from 2^24
abbrev pub in_24_bits : ℤ → ℕ
in_24_bits (pos n) = n
in_24_bits (negsuc n) = 2 ^ 24 - 1 - n

-- the word of a dimension: its number in bits 8 to 31, its unit in the lowest, no radix
unfoldable pub dimen_word : ℤ → LengthUnit → ℕ
dimen_word n unit = in_24_bits n * 256 + unit_number unit

-- `N U`
unfoldable pub dimen_given : List (List ℕ) → Result PlainGiven LineFault
dimen_given words = do
  n ← integer_in words
  u ← word_in n.1
  unit ← unit_of u.0
  _ ← end_of u.1
  n ← within_of min_mantissa max_mantissa n.0
  Ok (Dimen (dimen_word n unit))

-- what is given by its kind and the bytes after that
unfoldable pub given_by : List ℕ → List ℕ → Result PlainGiven LineFault
given_by kind rest =
    if bytes_eq kind (codes "color") then color_given (words rest) else (
    if bytes_eq kind (codes "dimen") then dimen_given (words rest) else (
    if bytes_eq kind (codes "text") then map_ok Text (rest_of rest) else
    Err Syntax))

-- `color C`, `dimen N U` or `text T`
unfoldable pub given_of : List ℕ → Result PlainGiven LineFault
given_of rest = word_in (words rest) >>= λ kind. given_by kind.0 (after_word rest)

-- the id of a resource is not 0
unfoldable pub resource_id : ℕ → Result ℕ LineFault
resource_id id = if id == 0 then Err Range else Ok id

-- `@HEX`, and what that resource is given; all is read before the id is looked at
unfoldable pub res_of : List ℕ → Result PlainCommand LineFault
res_of rest = do
  id ← id_in (words rest)
  value ← given_of (after_word rest)
  id ← resource_id id.0
  Ok (Res id value)

-- the word of a dimension that a line gives: one of a number within its bounds, and of a unit
abbrev pub IsDimenWord : ℕ → Type 0
IsDimenWord word = (n : ℤ) × (unit : LengthUnit) × IsWithin min_mantissa max_mantissa n × (word ≡ dimen_word n unit)

-- the number of a dimension is within its bounds, and a text has escapes that are known
abbrev pub IsGivenInBounds : PlainGiven → Type 0
IsGivenInBounds (Color color) = Unit {0}
IsGivenInBounds (Dimen word) = IsDimenWord word
IsGivenInBounds (Text text) = IsTrue (has_escapes text)
