-- What a string of a pool is, apart from how it is read. Places count from the start of the pool's chunk.
use Rattle.std.specs.Prelude.{◌≡◌, ℕ, ◌+◌, ◌*◌, ◌<◌, ◌≤◌, ◌⊎◌, Bool, true, false, List, length, map, slice_get}
use Rattle.std.specs.Prelude.{slice_range, Some}
use Rattle.std.specs.Str.{IsUtf8, encode_utf8_all}
use Rattle.std.specs.Char.Utf16.{utf16_chars}
use Rattle.axml_chunks.specs.Numbers.{long_byte, long_unit, number16}
use Rattle.axml_chunks.specs.Strings.{units_at}

-- a length in one byte
pub record IsShortLength (chunk : List ℕ) (i n following : ℕ) : Type 0 where
  pub byte_is : slice_get chunk i ≡ Some n
  pub low : n < long_byte
  pub after_is : following ≡ i + 1

-- a length in two bytes, of which the first has its high bit set
pub record IsLongLength (chunk : List ℕ) (i n following : ℕ) : Type 0 where
  pub high : ℕ
  pub low : ℕ
  pub first_is : slice_get chunk i ≡ Some (long_byte + high)
  pub second_is : slice_get chunk (i + 1) ≡ Some low
  pub n_is : n ≡ high * 256 + low
  pub after_is : following ≡ i + 2

abbrev pub IsByteLength : List ℕ → ℕ → ℕ → ℕ → Type 0
IsByteLength chunk i n following = IsShortLength chunk i n following ⊎ IsLongLength chunk i n following

-- a string in UTF-8: two lengths, the first of which may be any, then the bytes of some characters and a zero
pub record IsUtf8String (chunk : List ℕ) (i : ℕ) (text : List ℕ) : Type 0 where
  pub units : ℕ
  pub length_place : ℕ
  pub place : ℕ
  pub units_is : IsByteLength chunk i units length_place
  pub length_is : IsByteLength chunk length_place (length text) place
  pub zero_is : slice_get chunk (place + length text) ≡ Some 0
  pub bytes_are : slice_range chunk place (place + length text) ≡ text
  pub is_text : IsUtf8 text

-- a length in one unit
pub record IsShortUnitLength (chunk : List ℕ) (i n following : ℕ) : Type 0 where
  pub fits : i + 2 ≤ length chunk
  pub unit_is : n ≡ number16 chunk i
  pub low : n < long_unit
  pub after_is : following ≡ i + 2

-- a length in two units, of which the first has its high bit set
pub record IsLongUnitLength (chunk : List ℕ) (i n following : ℕ) : Type 0 where
  pub high : ℕ
  pub fits : i + 4 ≤ length chunk
  pub first_is : number16 chunk i ≡ long_unit + high
  pub n_is : n ≡ high * 65536 + number16 chunk (i + 2)
  pub after_is : following ≡ i + 4

abbrev pub IsUnitLength : List ℕ → ℕ → ℕ → ℕ → Type 0
IsUnitLength chunk i n following = IsShortUnitLength chunk i n following ⊎ IsLongUnitLength chunk i n following

-- a string in UTF-16: a length, then the units of some characters, each of one unit or a pair, and a zero
pub record IsUtf16String (chunk : List ℕ) (i : ℕ) (text : List ℕ) : Type 0 where
  pub count : ℕ
  pub place : ℕ
  pub chars : List ℕ
  pub length_is : IsUnitLength chunk i count place
  pub fits : place + 2 * count + 2 ≤ length chunk
  pub zero_is : number16 chunk (place + 2 * count) ≡ 0
  pub units_spell : utf16_chars (units_at chunk place count) ≡ map (λ c. Some c) chars
  pub text_is : text ≡ encode_utf8_all chars

-- a string at a place, in one of both encodings
abbrev pub IsString : Bool → List ℕ → ℕ → List ℕ → Type 0
IsString true chunk i text = IsUtf8String chunk i text
IsString false chunk i text = IsUtf16String chunk i text
