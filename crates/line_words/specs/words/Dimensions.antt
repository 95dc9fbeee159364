-- The dimensions of a view, as a line gives them.
use Rattle.std.specs.Prelude.{ℕ, if◌then◌else◌, ℤ, pos, negsuc, List, [], ◌∷◌, codes, Result, Ok, Err}
use Rattle.std.specs.Str.{bytes_eq}
use Rattle.line_words.specs.words.Numbers.{IsWithin, integer_of, within_of}
use Rattle.line_words.specs.words.Words.{◌>>=◌, map_ok, end_of}
use Rattle.line_words.specs.declared.words.dimension.Dimension.{Dimension}
use Rattle.line_words.specs.declared.words.dimension.Dimension.TheVariants.{Match, Wrap, Pixels}
use Rattle.line_words.specs.declared.fault.LineFault.{LineFault}
use Rattle.line_words.specs.declared.fault.LineFault.TheVariants.{Syntax}
use Rattle.view_model.specs.Numbers.{max_size}

-- `match`, `wrap` or a number
unfoldable pub dimension_of : List ℕ → Result Dimension LineFault
dimension_of word =
    if bytes_eq word (codes "match") then Ok Match else (
    if bytes_eq word (codes "wrap") then Ok Wrap else
    map_ok Pixels (integer_of word))

abbrev pub dimension_in : List (List ℕ) → Result (Dimension × List (List ℕ)) LineFault
dimension_in [] = Err Syntax
dimension_in (word ∷ words) = dimension_of word >>= λ dimension. Ok (dimension, words)

-- a dimension within its bounds, as facts keep it
abbrev pub extent_of : Dimension → Result ℤ LineFault
extent_of Match = Ok (negsuc 0)
extent_of Wrap = Ok (negsuc 1)
extent_of (Pixels n) = within_of (pos 0) max_size n

-- `W H`, the dimensions of a view; both are read before their bounds are looked at
unfoldable pub extents_of : List (List ℕ) → Result (ℤ × ℤ) LineFault
extents_of words = do
  w ← dimension_in words
  h ← dimension_in w.1
  _ ← end_of h.1
  width ← extent_of w.0
  height ← extent_of h.0
  Ok (width, height)

-- a dimension as facts keep it: -1 is `match`, -2 is `wrap`
abbrev pub IsExtent : ℤ → Type 0
IsExtent n = IsWithin (negsuc 1) max_size n
