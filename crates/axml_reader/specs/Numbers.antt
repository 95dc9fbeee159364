-- The numbers of layout files: the kinds of chunks and of values, how many bytes they have and where their fields are,
-- and how much a document may have. The code names kinds and limits once; `NumberLaws` says that its numbers are these.
use Rattle.std.specs.Prelude.{ℕ}

-- the kind of the chunk that holds a document
abbrev pub document_kind : ℕ
document_kind = 3

-- the kinds of the chunks in it: a string pool, a resource map, the start and the end of a namespace and of an element,
-- and character data
abbrev pub pool_kind : ℕ
pool_kind = 0x001

abbrev pub map_kind : ℕ
map_kind = 0x180

abbrev pub namespace_start_kind : ℕ
namespace_start_kind = 0x100

abbrev pub namespace_end_kind : ℕ
namespace_end_kind = 0x101

abbrev pub start_kind : ℕ
start_kind = 0x102

abbrev pub end_kind : ℕ
end_kind = 0x103

abbrev pub chars_kind : ℕ
chars_kind = 0x104

-- how many bytes the shortest header of a node has, and where its line is in it
abbrev pub node_head : ℕ
node_head = 16

abbrev pub line_offset : ℕ
line_offset = 8

-- how many bytes the body of a node has at least: of one with two names, of character data, and of an element's start
abbrev pub names_form : ℕ
names_form = 8

abbrev pub chars_form : ℕ
chars_form = 12

abbrev pub start_form : ℕ
start_form = 20

-- where the second name of a body or of an attribute is
abbrev pub second_offset : ℕ
second_offset = 4

-- where an element's start has the place of its first attribute, how many bytes each has, and how many there are
abbrev pub attrs_offset : ℕ
attrs_offset = 8

abbrev pub step_offset : ℕ
step_offset = 10

abbrev pub count_offset : ℕ
count_offset = 12

-- how many bytes an attribute has at least, and where its text and its value are
abbrev pub attr_bytes : ℕ
attr_bytes = 20

abbrev pub raw_offset : ℕ
raw_offset = 8

abbrev pub value_offset : ℕ
value_offset = 12

-- where a value has its kind and its word, and where an attribute and character data have those of theirs
abbrev pub kind_offset : ℕ
kind_offset = 3

abbrev pub word_offset : ℕ
word_offset = 4

abbrev pub attr_kind_offset : ℕ
attr_kind_offset = 15

abbrev pub attr_word_offset : ℕ
attr_word_offset = 16

abbrev pub chars_kind_offset : ℕ
chars_kind_offset = 7

abbrev pub chars_word_offset : ℕ
chars_word_offset = 8

-- the kind of a value that is the number of a string
abbrev pub string_kind : ℕ
string_kind = 3

-- the number that names no string
abbrev pub no_string : ℕ
no_string = 0xffff_ffff

-- the most elements of a document
abbrev pub max_elements : ℕ
max_elements = 4096

-- the most attributes of an element
abbrev pub max_attrs : ℕ
max_attrs = 256
