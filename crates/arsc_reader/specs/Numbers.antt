-- The numbers of resource tables: the kinds of chunks and of values, how many bytes they have and where their fields
-- are, and how much a table may have. The code names kinds and limits once; `NumberLaws` says that its numbers are
-- these.
use Rattle.std.specs.Prelude.{ℕ}

-- the kind of the chunk that holds a table
abbrev pub table_kind : ℕ
table_kind = 2

-- the kinds of the chunks in it: a package, and in that the entries of a type
abbrev pub package_kind : ℕ
package_kind = 0x200

abbrev pub type_kind : ℕ
type_kind = 0x201

-- how many bytes the headers of a table, of a package and of a type have at least
abbrev pub table_head : ℕ
table_head = 12

abbrev pub package_head : ℕ
package_head = 284

abbrev pub type_head : ℕ
type_head = 24

-- where a package has its id
abbrev pub package_offset : ℕ
package_offset = 8

-- where a type has its number, its flags, the count of its entries, the place of the first one, and its configuration,
-- which begins with its own size
abbrev pub number_offset : ℕ
number_offset = 8

abbrev pub flags_offset : ℕ
flags_offset = 9

abbrev pub count_offset : ℕ
count_offset = 12

abbrev pub first_offset : ℕ
first_offset = 16

abbrev pub config_offset : ℕ
config_offset = 20

-- how many bytes an entry has at least, and where its flags are; from this number on they mean another form
abbrev pub least_entry : ℕ
least_entry = 8

abbrev pub entry_flags_offset : ℕ
entry_flags_offset = 2

abbrev pub other_forms : ℕ
other_forms = 8

-- how many bytes a value has, and where its kind and its word are
abbrev pub value_bytes : ℕ
value_bytes = 8

abbrev pub kind_offset : ℕ
kind_offset = 3

abbrev pub word_offset : ℕ
word_offset = 4

-- how many ids a package has, and how many a type
abbrev pub package_ids : ℕ
package_ids = 16777216

abbrev pub type_ids : ℕ
type_ids = 65536

-- the kinds of values: the id of another resource, a dimension, and from the first to the last a colour
abbrev pub reference_kind : ℕ
reference_kind = 1

abbrev pub dimension_kind : ℕ
dimension_kind = 0x05

abbrev pub first_color_kind : ℕ
first_color_kind = 0x1c

abbrev pub last_color_kind : ℕ
last_color_kind = 0x1f

-- the highest id of a package
abbrev pub max_package : ℕ
max_package = 255

-- the most entries of all types of a table together
abbrev pub max_entries : ℕ
max_entries = 262144

-- the highest number that an entry of a type may have
abbrev pub last_entry : ℕ
last_entry = 65535

-- the number in a list of offsets that means no entry
abbrev pub no_entry : ℕ
no_entry = 0xffff_ffff

-- how many references are followed from an id
abbrev pub max_references : ℕ
max_references = 16
