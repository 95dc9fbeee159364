-- The numbers of a line.
use Rattle.std.specs.Prelude.{ℕ, zero, suc, ◌+◌, ◌*◌, ◌-◌, ◌==◌, nat_le, nat_lt, Bool, ◌&&◌, ◌||◌, not, if◌then◌else◌}
use Rattle.std.specs.Prelude.{ℤ, pos, negsuc, int_le, ◌≤ℤ◌, List, [], ◌∷◌, length, fold, drop, slice_index, Option}
use Rattle.std.specs.Prelude.{Some, None, Result, Ok, Err}
use Rattle.std.specs.Char.{is_ascii_digit}
use Rattle.std.specs.List.{list_all}
use Rattle.line_words.specs.words.Words.{◌>>=◌, end_of}
use Rattle.line_words.specs.declared.fault.LineFault.{LineFault}
use Rattle.line_words.specs.declared.fault.LineFault.TheVariants.{Syntax, Range}

-- the number that digits write
abbrev pub digits_value : List ℕ → ℕ
digits_value digits = fold (λ n d. 10 * n + (d - 48)) 0 digits

-- `0`, or one to ten digits of which the first is not 0
abbrev pub is_natural : List ℕ → Bool
is_natural word =
    nat_lt 0 (length word) && nat_le (length word) 10 && list_all is_ascii_digit word
    && (length word == 1 || not (slice_index word 0 == 48))

unfoldable pub natural_of : List ℕ → Option ℕ
natural_of word = if is_natural word then Some (digits_value word) else None

abbrev pub positive : Option ℕ → Result ℤ LineFault
positive None = Err Syntax
positive (Some n) = Ok (pos n)

-- there is no `-0`
abbrev pub negative : Option ℕ → Result ℤ LineFault
negative None = Err Syntax
negative (Some zero) = Err Syntax
negative (Some (suc n)) = Ok (negsuc n)

-- a number, with a minus sign or without one
unfoldable pub integer_of : List ℕ → Result ℤ LineFault
integer_of word =
    if nat_lt 0 (length word) && slice_index word 0 == 45 then negative (natural_of (drop 1 word))
    else positive (natural_of word)

-- the number of the first word, and the words after it
abbrev pub integer_in : List (List ℕ) → Result (ℤ × List (List ℕ)) LineFault
integer_in [] = Err Syntax
integer_in (word ∷ words) = integer_of word >>= λ n. Ok (n, words)

-- a number within its bounds
unfoldable pub within_of : ℤ → ℤ → ℤ → Result ℤ LineFault
within_of low high n = if int_le low n && int_le n high then Ok n else Err Range

-- a number that is not negative, within its bounds
unfoldable pub natural_within : ℕ → ℕ → ℤ → Result ℕ LineFault
natural_within low high (pos n) = if nat_le low n && nat_le n high then Ok n else Err Range
natural_within low high (negsuc n) = Err Range

-- two numbers, and no words after them; both are read before their bounds are looked at
unfoldable pub pair_of : ℤ → ℤ → List (List ℕ) → Result (ℤ × ℤ) LineFault
pair_of low high words = do
  a ← integer_in words
  b ← integer_in a.1
  _ ← end_of b.1
  first ← within_of low high a.0
  second ← within_of low high b.0
  Ok (first, second)

abbrev pub IsWithin : ℤ → ℤ → ℤ → Type 0
IsWithin low high n = (low ≤ℤ n) × (n ≤ℤ high)
