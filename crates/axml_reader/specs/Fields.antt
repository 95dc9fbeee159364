-- Fields that name strings, and attributes.
use Rattle.std.specs.Prelude.{ℕ, ◌+◌, ◌*◌, ◌||◌, Bool, false, List, [], ◌∷◌, ◌++◌, slice_index, slice_get, zero, suc}
use Rattle.std.specs.Prelude.{Option, Some, None, Result, Ok, Err, length, nat_lt, ◌==◌, if◌then◌else◌}
use Rattle.std.specs.Str.{bytes_eq}
use Rattle.axml_chunks.specs.declared.fault.Fault.{Fault}
use Rattle.axml_chunks.specs.Faults.{bad_reference}
use Rattle.axml_chunks.specs.Numbers.{number32}
use Rattle.axml_chunks.specs.Pool.{StringPool}
use Rattle.axml_chunks.specs.Steps.{◌>>=◌, upto}
use Rattle.axml_reader.specs.declared.doc.Attr.{Attr}
use Rattle.axml_reader.specs.Numbers.{attr_kind_offset, kind_offset, no_string, raw_offset, second_offset, string_kind}
use Rattle.axml_reader.specs.Numbers.{value_offset, word_offset}

-- how many strings there are; none before a pool was read
abbrev pub strings : Option StringPool → ℕ
strings None = 0
strings (Some pool) = length pool.texts

abbrev pub same_bytes : Option (List ℕ) → Option (List ℕ) → Bool
same_bytes None y = false
same_bytes (Some x) None = false
same_bytes (Some x) (Some y) = bytes_eq x y

-- two string numbers have the same text
unfoldable pub same_text : Option StringPool → ℕ → ℕ → Bool
same_text None a b = false
same_text (Some pool) a b = same_bytes (slice_get pool.texts a) (slice_get pool.texts b)

-- the number at a place means no string, or is below the count of strings
abbrev pub is_reference : ℕ → ℕ → Bool
is_reference count n = n == no_string || nat_lt n count

-- a string number below a count, or none
unfoldable pub reference_at : List ℕ → ℕ → ℕ → Result ℕ Fault
reference_at bytes count place =
    if is_reference count (number32 bytes place) then Ok (number32 bytes place)
    else Err (bad_reference place)

-- a string number below a count
unfoldable pub name_at : List ℕ → ℕ → ℕ → Result ℕ Fault
name_at bytes count place =
    if nat_lt (number32 bytes place) count then Ok (number32 bytes place)
    else Err (bad_reference place)

-- the word of the value at a place, which for a string is its number
unfoldable pub word_at : List ℕ → ℕ → ℕ → Result ℕ Fault
word_at bytes count place =
    if slice_index bytes (place + kind_offset) == string_kind then name_at bytes count (place + word_offset)
    else Ok (number32 bytes (place + word_offset))

-- the attribute at a place
unfoldable pub attr_at : List ℕ → ℕ → ℕ → Result Attr Fault
attr_at bytes count place = do
  ns ← reference_at bytes count place
  name ← name_at bytes count (place + second_offset)
  raw ← reference_at bytes count (place + raw_offset)
  word ← word_at bytes count (place + value_offset)
  Ok (record { ns = ns; name = name; raw = raw; kind = slice_index bytes (place + attr_kind_offset); word = word })

-- attributes, each of `step` bytes from a place on, with the one of number k after those so far
abbrev pub attr_after : List ℕ → ℕ → ℕ → ℕ → List Attr → ℕ → Result (List Attr) Fault
attr_after bytes count place step attrs k = attr_at bytes count (place + k * step) >>= λ attr. Ok (attrs ++ attr ∷ [])

-- the first n of them after others
abbrev pub attrs_upto : List ℕ → ℕ → ℕ → ℕ → List Attr → ℕ → Result (List Attr) Fault
attrs_upto bytes count place step attrs n = upto (attr_after bytes count place step) attrs n

-- the numbers at a place, four bytes each
abbrev pub words_at : List ℕ → ℕ → ℕ → List ℕ
words_at bytes place zero = []
words_at bytes place (suc n) = words_at bytes place n ++ number32 bytes (place + 4 * n) ∷ []
