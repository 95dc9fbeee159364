-- The strings of a pool, each at a place of the pool's chunk; `None` for one that is cut short or no text.
use Rattle.std.specs.Prelude.{ℕ, zero, suc, ◌++◌, ◌+◌, ◌-◌, ◌*◌, not, List, [], ◌∷◌, length, slice_index, slice_range}
use Rattle.std.specs.Prelude.{Option, Some, None, nat_lt, ◌==◌, if◌then◌else◌}
use Rattle.std.specs.Str.{is_utf8, encode_utf8_all}
use Rattle.std.specs.Char.Utf16.{utf16_lossy_chars, has_unpaired_surrogate}
use Rattle.axml_chunks.specs.Numbers.{long_byte, long_unit, number16}

infixl 10 ◌>>=◌
abbrev pub ◌>>=◌ : {A B : Type 0} → Option A → (A → Option B) → Option B
None >>= f = None
(Some x) >>= f = f x

-- a length in one byte, or in two if the first has its high bit set, and the place after it
unfoldable pub utf8_length : List ℕ → ℕ → Option (ℕ × ℕ)
utf8_length chunk i =
    if not (nat_lt i (length chunk)) then None
    else (if nat_lt (slice_index chunk i) long_byte then Some (slice_index chunk i, i + 1)
    else (if not (nat_lt (i + 1) (length chunk)) then None
    else Some ((slice_index chunk i - long_byte) * 256 + slice_index chunk (i + 1), i + 2)))

-- a length in one unit, or in two if the first has its high bit set, and the place after it
unfoldable pub utf16_length : List ℕ → ℕ → Option (ℕ × ℕ)
utf16_length chunk i =
    if nat_lt (length chunk) (i + 2) then None
    else (if nat_lt (number16 chunk i) long_unit then Some (number16 chunk i, i + 2)
    else (if nat_lt (length chunk) (i + 4) then None
    else Some ((number16 chunk i - long_unit) * 65536 + number16 chunk (i + 2), i + 4)))

-- the bytes, if they are a text
unfoldable pub text_of_bytes : List ℕ → Option (List ℕ)
text_of_bytes bytes = if is_utf8 bytes then Some bytes else None

-- the text of n bytes at a place, if a zero follows
unfoldable pub ended_bytes : List ℕ → ℕ → ℕ → Option (List ℕ)
ended_bytes chunk i len =
    if not (nat_lt (i + len) (length chunk)) then None
    else (if not (slice_index chunk (i + len) == 0) then None
    else text_of_bytes (slice_range chunk i (i + len)))

-- the string in UTF-8 at a place: its length in units, which is not compared, that in bytes, the bytes and a zero
unfoldable pub utf8_text : List ℕ → ℕ → Option (List ℕ)
utf8_text chunk i = do
  units ← utf8_length chunk i
  len ← utf8_length chunk units.1
  ended_bytes chunk len.1 len.0

-- n units from a place on
abbrev pub units_at : List ℕ → ℕ → ℕ → List ℕ
units_at chunk i zero = []
units_at chunk i (suc n) = units_at chunk i n ++ number16 chunk (i + 2 * n) ∷ []

-- the text, in UTF-8, of units in which each surrogate has its partner
unfoldable pub text_of_units : List ℕ → Option (List ℕ)
text_of_units units = if has_unpaired_surrogate units then None else Some (encode_utf8_all (utf16_lossy_chars units))

-- the text of n units at a place, if a zero follows
unfoldable pub ended_units : List ℕ → ℕ → ℕ → Option (List ℕ)
ended_units chunk i len =
    if nat_lt (length chunk) (i + 2 * len + 2) then None
    else (if not (number16 chunk (i + 2 * len) == 0) then None
    else text_of_units (units_at chunk i len))

-- the string in UTF-16 at a place: its length in units, the units and a zero
unfoldable pub utf16_text : List ℕ → ℕ → Option (List ℕ)
utf16_text chunk i = do
  len ← utf16_length chunk i
  ended_units chunk len.1 len.0
