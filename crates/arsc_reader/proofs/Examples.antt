-- Worked rows: a table of four resources, and files that are broken in one place.
use Rattle.std.proofs.Common.{◌≡◌, ℕ, true, List, [], ◌∷◌, Some, Ok, Err, refl}
use Rattle.std.specs.Prelude.{codes}
use Rattle.std.specs.Str.{is_utf8, chars}
use lib.Utf8.{encode}
use Rattle.axml_chunks.specs.Chunks.{chunk_of}
use Rattle.axml_chunks.specs.Faults.{truncated, bad_chunk, not_table}
use Rattle.axml_chunks.specs.Numbers.{number16, number32}
use Rattle.axml_chunks.specs.Pool.{header_of, string_at, gathered, pool_in}
use Rattle.axml_chunks.specs.Steps.{upto}
use Rattle.axml_chunks.specs.Strings.{utf8_text, utf8_length, ended_bytes, text_of_bytes}
use Rattle.axml_reader.specs.Dump.{escaped}
use Rattle.text_lines.specs.Hex.{hex_text, eight_digits}
use Rattle.text_lines.specs.Joined.{◌⧺◌, texts_of}
use Rattle.arsc_reader.specs.declared.held.Held.TheVariants as held
use Rattle.arsc_reader.specs.Entries.{listing_of, plain_at, entry_at, held_at, entry_after}
use Rattle.arsc_reader.specs.Reading.{listed, type_read, in_package, one_chunk, chunks_from, package_of, package_read, pool_read, in_table}
use Rattle.arsc_reader.specs.Contents.{Contents}
use Rattle.arsc_reader.specs.Lines.{plain_text, value_line, value_lines}
use Rattle.arsc_reader.specs.Table.{whole_of, inside_of, table_of, latest_after, followed, value_of, text_of}

-- a file of seven bytes, one that begins with another chunk, and one whose header has no count of packages
cut_short : table_of (2 ∷ 0 ∷ 12 ∷ 0 ∷ 12 ∷ 0 ∷ 0 ∷ []) ≡ Err (truncated 0)
unfolding table_of
cut_short = refl

no_table : table_of (3 ∷ 0 ∷ 8 ∷ 0 ∷ 8 ∷ 0 ∷ 0 ∷ 0 ∷ []) ≡ Err (not_table 0)
unfolding table_of number16
no_table = refl

short_header : table_of (2 ∷ 0 ∷ 8 ∷ 0 ∷ 8 ∷ 0 ∷ 0 ∷ 0 ∷ []) ≡ Err (bad_chunk 0)
unfolding table_of number16 number32 inside_of whole_of chunk_of
short_header = refl

-- a table with one string, and one type in one package: a dimension, a reference to it, nothing, and the string
four_bytes : List ℕ
four_bytes =
    2 ∷ 0 ∷ 12 ∷ 0 ∷ 192 ∷ 1 ∷ 0 ∷ 0 ∷ 1 ∷ 0 ∷ 0 ∷ 0 ∷ 1 ∷ 0 ∷ 28 ∷ 0 ∷
    40 ∷ 0 ∷ 0 ∷ 0 ∷ 1 ∷ 0 ∷ 0 ∷ 0 ∷ 0 ∷ 0 ∷ 0 ∷ 0 ∷ 0 ∷ 1 ∷ 0 ∷ 0 ∷
    32 ∷ 0 ∷ 0 ∷ 0 ∷ 0 ∷ 0 ∷ 0 ∷ 0 ∷ 0 ∷ 0 ∷ 0 ∷ 0 ∷ 2 ∷ 2 ∷ 72 ∷ 105 ∷
    0 ∷ 0 ∷ 0 ∷ 0 ∷ 0 ∷ 2 ∷ 28 ∷ 1 ∷ 140 ∷ 1 ∷ 0 ∷ 0 ∷ 127 ∷ 0 ∷ 0 ∷ 0 ∷
    0 ∷ 0 ∷ 0 ∷ 0 ∷ 0 ∷ 0 ∷ 0 ∷ 0 ∷ 0 ∷ 0 ∷ 0 ∷ 0 ∷ 0 ∷ 0 ∷ 0 ∷ 0 ∷
    0 ∷ 0 ∷ 0 ∷ 0 ∷ 0 ∷ 0 ∷ 0 ∷ 0 ∷ 0 ∷ 0 ∷ 0 ∷ 0 ∷ 0 ∷ 0 ∷ 0 ∷ 0 ∷
    0 ∷ 0 ∷ 0 ∷ 0 ∷ 0 ∷ 0 ∷ 0 ∷ 0 ∷ 0 ∷ 0 ∷ 0 ∷ 0 ∷ 0 ∷ 0 ∷ 0 ∷ 0 ∷
    0 ∷ 0 ∷ 0 ∷ 0 ∷ 0 ∷ 0 ∷ 0 ∷ 0 ∷ 0 ∷ 0 ∷ 0 ∷ 0 ∷ 0 ∷ 0 ∷ 0 ∷ 0 ∷
    0 ∷ 0 ∷ 0 ∷ 0 ∷ 0 ∷ 0 ∷ 0 ∷ 0 ∷ 0 ∷ 0 ∷ 0 ∷ 0 ∷ 0 ∷ 0 ∷ 0 ∷ 0 ∷
    0 ∷ 0 ∷ 0 ∷ 0 ∷ 0 ∷ 0 ∷ 0 ∷ 0 ∷ 0 ∷ 0 ∷ 0 ∷ 0 ∷ 0 ∷ 0 ∷ 0 ∷ 0 ∷
    0 ∷ 0 ∷ 0 ∷ 0 ∷ 0 ∷ 0 ∷ 0 ∷ 0 ∷ 0 ∷ 0 ∷ 0 ∷ 0 ∷ 0 ∷ 0 ∷ 0 ∷ 0 ∷
    0 ∷ 0 ∷ 0 ∷ 0 ∷ 0 ∷ 0 ∷ 0 ∷ 0 ∷ 0 ∷ 0 ∷ 0 ∷ 0 ∷ 0 ∷ 0 ∷ 0 ∷ 0 ∷
    0 ∷ 0 ∷ 0 ∷ 0 ∷ 0 ∷ 0 ∷ 0 ∷ 0 ∷ 0 ∷ 0 ∷ 0 ∷ 0 ∷ 0 ∷ 0 ∷ 0 ∷ 0 ∷
    0 ∷ 0 ∷ 0 ∷ 0 ∷ 0 ∷ 0 ∷ 0 ∷ 0 ∷ 0 ∷ 0 ∷ 0 ∷ 0 ∷ 0 ∷ 0 ∷ 0 ∷ 0 ∷
    0 ∷ 0 ∷ 0 ∷ 0 ∷ 0 ∷ 0 ∷ 0 ∷ 0 ∷ 0 ∷ 0 ∷ 0 ∷ 0 ∷ 0 ∷ 0 ∷ 0 ∷ 0 ∷
    0 ∷ 0 ∷ 0 ∷ 0 ∷ 0 ∷ 0 ∷ 0 ∷ 0 ∷ 0 ∷ 0 ∷ 0 ∷ 0 ∷ 0 ∷ 0 ∷ 0 ∷ 0 ∷
    0 ∷ 0 ∷ 0 ∷ 0 ∷ 0 ∷ 0 ∷ 0 ∷ 0 ∷ 0 ∷ 0 ∷ 0 ∷ 0 ∷ 0 ∷ 0 ∷ 0 ∷ 0 ∷
    0 ∷ 0 ∷ 0 ∷ 0 ∷ 0 ∷ 0 ∷ 0 ∷ 0 ∷ 0 ∷ 0 ∷ 0 ∷ 0 ∷ 0 ∷ 0 ∷ 0 ∷ 0 ∷
    0 ∷ 0 ∷ 0 ∷ 0 ∷ 0 ∷ 0 ∷ 0 ∷ 0 ∷ 0 ∷ 0 ∷ 0 ∷ 0 ∷ 0 ∷ 0 ∷ 0 ∷ 0 ∷
    0 ∷ 0 ∷ 0 ∷ 0 ∷ 0 ∷ 0 ∷ 0 ∷ 0 ∷ 0 ∷ 0 ∷ 0 ∷ 0 ∷ 0 ∷ 0 ∷ 0 ∷ 0 ∷
    0 ∷ 0 ∷ 0 ∷ 0 ∷ 0 ∷ 0 ∷ 0 ∷ 0 ∷ 0 ∷ 0 ∷ 0 ∷ 0 ∷ 0 ∷ 0 ∷ 0 ∷ 0 ∷
    1 ∷ 2 ∷ 48 ∷ 0 ∷ 112 ∷ 0 ∷ 0 ∷ 0 ∷ 5 ∷ 0 ∷ 0 ∷ 0 ∷ 4 ∷ 0 ∷ 0 ∷ 0 ∷
    64 ∷ 0 ∷ 0 ∷ 0 ∷ 28 ∷ 0 ∷ 0 ∷ 0 ∷ 0 ∷ 0 ∷ 0 ∷ 0 ∷ 0 ∷ 0 ∷ 0 ∷ 0 ∷
    0 ∷ 0 ∷ 0 ∷ 0 ∷ 0 ∷ 0 ∷ 0 ∷ 0 ∷ 0 ∷ 0 ∷ 0 ∷ 0 ∷ 0 ∷ 0 ∷ 0 ∷ 0 ∷
    0 ∷ 0 ∷ 0 ∷ 0 ∷ 16 ∷ 0 ∷ 0 ∷ 0 ∷ 255 ∷ 255 ∷ 255 ∷ 255 ∷ 32 ∷ 0 ∷ 0 ∷ 0 ∷
    8 ∷ 0 ∷ 0 ∷ 0 ∷ 0 ∷ 0 ∷ 0 ∷ 0 ∷ 8 ∷ 0 ∷ 0 ∷ 5 ∷ 1 ∷ 16 ∷ 0 ∷ 0 ∷
    8 ∷ 0 ∷ 0 ∷ 0 ∷ 0 ∷ 0 ∷ 0 ∷ 0 ∷ 8 ∷ 0 ∷ 0 ∷ 1 ∷ 0 ∷ 0 ∷ 5 ∷ 127 ∷
    8 ∷ 0 ∷ 0 ∷ 0 ∷ 0 ∷ 0 ∷ 0 ∷ 0 ∷ 8 ∷ 0 ∷ 0 ∷ 3 ∷ 0 ∷ 0 ∷ 0 ∷ 0 ∷ []

four : Contents
four = record {
  pool = Some (record { utf8 = true; texts = codes "Hi" ∷ [] });
  entries =
      record { id = 0x7f050000; held = held.Plain 0x05 0x1001 }
      ∷ record { id = 0x7f050001; held = held.Plain 0x01 0x7f050000 }
      ∷ record { id = 0x7f050003; held = held.Plain 0x03 0 } ∷ [];
}

four_file : table_of four_bytes ≡ Ok four
unfolding four_bytes four table_of inside_of whole_of chunk_of number16 number32 chunks_from one_chunk in_table pool_read package_read package_of in_package type_read listing_of listed upto entry_after held_at entry_at plain_at header_of string_at gathered utf8_text utf8_length ended_bytes text_of_bytes is_utf8 chars pool_in encode
four_file = refl

first_value : value_of four.entries 0x7f050000 ≡ held.Plain 0x05 0x1001
unfolding four followed latest_after
first_value = refl

through_a_reference : value_of four.entries 0x7f050001 ≡ held.Plain 0x05 0x1001
unfolding four followed latest_after
through_a_reference = refl

no_value : value_of four.entries 0x7f050002 ≡ held.None
unfolding four followed latest_after
no_value = refl

last_value : value_of four.entries 0x7f050003 ≡ held.Plain 0x03 0
unfolding four followed latest_after
last_value = refl

its_text : text_of four.pool 0 ≡ Some (codes "Hi")
unfolding four
its_text = refl

its_lines : value_lines four (0x7f050000 ∷ 0x7f050001 ∷ 0x7f050002 ∷ 0x7f050003 ∷ [])
    ≡ codes "7f050000 dimen 00001001\n7f050001 dimen 00001001\n7f050002 none\n7f050003 text \"Hi\"\n"
unfolding four followed latest_after value_line plain_text hex_text eight_digits texts_of ◌⧺◌ escaped
its_lines = refl

-- of two pairs with one id the last one counts
later_pair : value_of (record { id = 1; held = held.Complex } ∷ record { id = 1; held = held.Plain 0x12 7 } ∷ []) 1 ≡ held.Plain 0x12 7
unfolding followed latest_after
later_pair = refl

-- an id that names itself
in_a_circle : value_of (record { id = 1; held = held.Plain 0x01 1 } ∷ []) 1 ≡ held.None
unfolding followed latest_after
in_a_circle = refl
