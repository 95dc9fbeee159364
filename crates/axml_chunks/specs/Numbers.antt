-- Numbers at a place of a file, the lowest byte first; and the numbers of what a file has in it: how many bytes the
-- header of a chunk has, where its fields are, and from where on a length is one of two parts.
use Rattle.std.specs.Prelude.{ℕ, List, drop}
use Rattle.byteorder.specs.Endian.{little_number}

-- the number in the two bytes at a place
unfoldable pub number16 : List ℕ → ℕ → ℕ
number16 bytes place = little_number 2 (drop place bytes)

-- the number in the four bytes at a place
unfoldable pub number32 : List ℕ → ℕ → ℕ
number32 bytes place = little_number 4 (drop place bytes)

-- how many bytes the shortest header of a chunk has
abbrev pub least_head : ℕ
least_head = 8

-- where a chunk has the length of its header and its own length, from its place on
abbrev pub head_offset : ℕ
head_offset = 2

abbrev pub size_offset : ℕ
size_offset = 4

-- how many bytes the shortest header of a string pool has
abbrev pub pool_head : ℕ
pool_head = 28

-- where a pool has the count of its strings, that of its styles, its flags, and the place of the first string
abbrev pub strings_offset : ℕ
strings_offset = 8

abbrev pub styles_offset : ℕ
styles_offset = 12

abbrev pub flags_offset : ℕ
flags_offset = 16

abbrev pub first_offset : ℕ
first_offset = 20

-- the flag of a pool in UTF-8
abbrev pub utf8_flag : ℕ
utf8_flag = 256

-- a length of one byte is below this, and one of one unit below that
abbrev pub long_byte : ℕ
long_byte = 128

abbrev pub long_unit : ℕ
long_unit = 32768
