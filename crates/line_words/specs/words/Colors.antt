-- The colour that a word gives.
use Rattle.std.specs.Prelude.{ℕ, ◌==◌, ◌&&◌, if◌then◌else◌, List, drop, length, Result, Ok, Err}
use Rattle.geom_core.specs.declared.color.Argb.{Argb}
use Rattle.line_words.specs.words.Names.{begins_with, hex_of, known}
use Rattle.line_words.specs.words.Words.{◌>>=◌, end_of, map_ok, word_in}
use Rattle.line_words.specs.declared.fault.LineFault.{LineFault}
use Rattle.line_words.specs.declared.fault.LineFault.TheVariants.{Syntax}

-- `#` and eight hexadecimal digits, alpha first
unfoldable pub color_of : List ℕ → Result Argb LineFault
color_of word =
    if begins_with 35 word && length word == 9 then map_ok (λ n. record { 0 = n }) (known (hex_of (drop 1 word)))
    else Err Syntax

-- `C`, a colour that ends a line
unfoldable pub last_color : List (List ℕ) → Result Argb LineFault
last_color words = do
  c ← word_in words
  color ← color_of c.0
  _ ← end_of c.1
  Ok color
