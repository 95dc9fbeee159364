-- The numbers of the format of saved states. The code names each of them once; `NumberLaws` says that its numbers are
-- these.
use Rattle.std.specs.Prelude.{ℕ}

-- the letters with which a state begins: `V` and `S`
abbrev pub first_letter : ℕ
first_letter = 86

abbrev pub second_letter : ℕ
second_letter = 83

-- the ids of views are below this
abbrev pub ids_end : ℕ
ids_end = 4294967296

-- the last version; it is the one that is written
abbrev pub last_version : ℕ
last_version = 2

-- the version that has no texts; it is read too
abbrev pub first_version : ℕ
first_version = 1

-- the bytes before the first entry
abbrev pub head_bytes : ℕ
head_bytes = 5

-- the kinds of an entry that has an offset, and of one that has a text
abbrev pub offset_kind : ℕ
offset_kind = 1

abbrev pub text_kind : ℕ
text_kind = 2

-- the bytes of an entry that has an offset
abbrev pub offset_entry_bytes : ℕ
offset_entry_bytes = 9

-- the bytes before the text of an entry that has one
abbrev pub text_entry_bytes : ℕ
text_entry_bytes = 7

-- the greatest offset of an entry, in pixels
abbrev pub max_offset : ℕ
max_offset = 16777215

-- the most bytes of a text
abbrev pub max_text_bytes : ℕ
max_text_bytes = 65535

-- the most entries of a state
abbrev pub max_entries : ℕ
max_entries = 65535
