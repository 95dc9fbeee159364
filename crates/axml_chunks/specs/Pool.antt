-- The string pool.
use Rattle.std.specs.Prelude.{◌≡◌, ℕ, ◌≤◌, ◌<◌, ◌^◌, ◌+◌, ◌*◌, ◌/◌, ◌%◌, Bool, ◌||◌, List, [], ◌∷◌, ◌++◌, length}
use Rattle.std.specs.Prelude.{slice_range, slice_get, sum_by, Option, Some, None, Result, Ok, Err, nat_lt, ◌==◌}
use Rattle.std.specs.Prelude.{if◌then◌else◌}
use Rattle.axml_chunks.specs.declared.chunk.Chunk.{Chunk}
use Rattle.axml_chunks.specs.declared.fault.Fault.{Fault}
use Rattle.axml_chunks.specs.declared.pool.Header.{Header}
use Rattle.axml_chunks.specs.Faults.{bad_pool, bad_string, too_big}
use Rattle.axml_chunks.specs.Limits.{max_strings, max_text}
use Rattle.axml_chunks.specs.Numbers.{first_offset, flags_offset, number32, pool_head, strings_offset, styles_offset}
use Rattle.axml_chunks.specs.Numbers.{utf8_flag}
use Rattle.axml_chunks.specs.Spelled.{IsString}
use Rattle.axml_chunks.specs.Strings.{utf8_text, utf16_text}
use Rattle.axml_chunks.specs.Steps.{◌>>=◌, upto}

-- the strings of a file, each in UTF-8, and whether the file has them in UTF-8
pub record StringPool : Type 0 where
  pub utf8 : Bool
  pub texts : List (List ℕ)

-- Definitions below that take `chunk` as bytes mean the bytes of the pool's chunk, and `head` is the length of its
-- header.

-- how many strings there are, how many styles, the flag of UTF-8, and where the strings begin
abbrev pub string_count : List ℕ → ℕ
string_count chunk = number32 chunk strings_offset

abbrev pub style_count : List ℕ → ℕ
style_count chunk = number32 chunk styles_offset

abbrev pub is_in_utf8 : List ℕ → Bool
is_in_utf8 chunk = number32 chunk flags_offset / utf8_flag % 2 == 1

abbrev pub strings_start : List ℕ → ℕ
strings_start chunk = number32 chunk first_offset

-- the header of the pool whose chunk is at a place of the file
unfoldable pub header_of : List ℕ → ℕ → ℕ → Result Header Fault
header_of chunk place head =
    if nat_lt head pool_head || nat_lt (length chunk) (head + 4 * (string_count chunk + style_count chunk))
    || nat_lt (length chunk) (strings_start chunk)
    then Err (bad_pool place)
    else (if nat_lt max_strings (string_count chunk) then Err (too_big place)
    else Ok (record { utf8 = is_in_utf8 chunk; count = string_count chunk; first = strings_start chunk }))

-- the offsets of the strings lie in a chunk of this length
pub record IsHeader (len head : ℕ) (header : Header) : Type 0 where
  pub entries : head + 4 * header.count ≤ len
  pub count : header.count ≤ max_strings
  pub first : header.first < 2 ^ 32

-- the string at a place, if it is a text
unfoldable pub string_at : Bool → List ℕ → ℕ → Option (List ℕ)
string_at utf8 chunk i = if utf8 then utf8_text chunk i else utf16_text chunk i

-- string k, whose offset from the first string's place is in the list after the header
abbrev pub text_at : List ℕ → ℕ → Header → ℕ → Option (List ℕ)
text_at chunk head header k = string_at header.utf8 chunk (header.first + number32 chunk (head + 4 * k))

-- the strings so far, and the sum of their lengths
pub record Gathered : Type 0 where
  pub texts : List (List ℕ)
  pub sum : ℕ

-- the strings with one more, whose offset is at a place of the file
unfoldable pub gathered : Gathered → ℕ → Option (List ℕ) → Result Gathered Fault
gathered so_far entry None = Err (bad_string entry)
gathered so_far entry (Some text) =
    if nat_lt max_text (so_far.sum + length text) then Err (too_big entry)
    else Ok (record { texts = so_far.texts ++ text ∷ []; sum = so_far.sum + length text })

abbrev pub one_more : List ℕ → ℕ → ℕ → Header → Gathered → ℕ → Result Gathered Fault
one_more chunk place head header so_far k = gathered so_far (place + head + 4 * k) (text_at chunk head header k)

abbrev pub no_strings : Gathered
no_strings = record { texts = []; sum = 0 }

-- the first n strings
abbrev pub gathered_upto : List ℕ → ℕ → ℕ → Header → ℕ → Result Gathered Fault
gathered_upto chunk place head header n = upto (one_more chunk place head header) no_strings n

unfoldable pub pool_in : List ℕ → ℕ → ℕ → Result StringPool Fault
pool_in chunk place head = do
  header ← header_of chunk place head
  all ← gathered_upto chunk place head header header.count
  Ok (record { utf8 = header.utf8; texts = all.texts })

abbrev pub bytes_of : List ℕ → ℕ → Chunk → List ℕ
bytes_of bytes place chunk = slice_range bytes place (place + chunk.size)

-- the pool of the chunk at a place of the file, or its first fault
abbrev pub pool_of : List ℕ → ℕ → Chunk → Result StringPool Fault
pool_of bytes place chunk = pool_in (bytes_of bytes place chunk) place chunk.head

-- a pool is that of a chunk: the header and the lists of offsets lie in it, and each string is the one at its offset
pub record IsPoolIn (chunk : List ℕ) (head : ℕ) (pool : StringPool) : Type 0 where
  pub header : pool_head ≤ head
  pub lists : head + 4 * (string_count chunk + style_count chunk) ≤ length chunk
  pub start : strings_start chunk ≤ length chunk
  pub utf8_is : pool.utf8 ≡ is_in_utf8 chunk
  pub count_is : length pool.texts ≡ string_count chunk
  pub count : string_count chunk ≤ max_strings
  pub texts : (k : ℕ) (text : List ℕ) → slice_get pool.texts k ≡ Some text
      → IsString pool.utf8 chunk (strings_start chunk + number32 chunk (head + 4 * k)) text
  pub room : sum_by length pool.texts ≤ max_text

abbrev pub IsPool : List ℕ → ℕ → Chunk → StringPool → Type 0
IsPool bytes place chunk pool = IsPoolIn (bytes_of bytes place chunk) chunk.head pool
