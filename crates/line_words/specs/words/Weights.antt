-- A weight, or a sum of weights, as a line gives it.
use Rattle.std.specs.Prelude.{ℕ, ◌+◌, ◌*◌, ℤ, pos, List, [], ◌∷◌, Result, Ok}
use Rattle.view_model.specs.Numbers.{max_weight}
use Rattle.line_words.specs.words.Numbers.{integer_in, natural_within}
use Rattle.line_words.specs.words.Words.{◌>>=◌, end_of}
use Rattle.line_words.specs.declared.fault.LineFault.{LineFault}
use Rattle.line_words.specs.Numbers.{max_parts, max_whole}

-- nothing, which is 0, or the number that ends a line
unfoldable pub last_number : List (List ℕ) → Result ℤ LineFault
last_number [] = Ok (pos 0)
last_number (word ∷ words) = do
  k ← integer_in (word ∷ words)
  _ ← end_of k.1
  Ok k.0

-- `N`, or `N K`: whole ones and 256ths, each within its bounds and both together too, in 256ths
unfoldable pub weight_of : List (List ℕ) → Result ℕ LineFault
weight_of words = do
  n ← integer_in words
  k ← last_number n.1
  whole ← natural_within 0 max_whole n.0
  parts ← natural_within 0 max_parts k
  natural_within 0 max_weight (pos (whole * 256 + parts))
