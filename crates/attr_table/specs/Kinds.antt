-- The types of values, by their numbers.
use Rattle.std.specs.Prelude.{ℕ}

-- nothing
abbrev pub null_kind : ℕ
null_kind = 0x00

-- the word is the id of a resource, or 0
abbrev pub reference_kind : ℕ
reference_kind = 0x01

-- the word names an attribute of a theme
abbrev pub theme_kind : ℕ
theme_kind = 0x02

-- the word is a string number
abbrev pub string_kind : ℕ
string_kind = 0x03

-- a float of 32 bits
abbrev pub float_kind : ℕ
float_kind = 0x04

-- a mantissa and a unit
abbrev pub dimension_kind : ℕ
dimension_kind = 0x05

-- a whole number, written with decimal digits
abbrev pub decimal_kind : ℕ
decimal_kind = 0x10

-- a whole number, written with hexadecimal digits
abbrev pub hexadecimal_kind : ℕ
hexadecimal_kind = 0x11

-- true where the word is not 0
abbrev pub boolean_kind : ℕ
boolean_kind = 0x12

-- the first of the types of colours, and the last: the word has all four channels in each
abbrev pub first_color_kind : ℕ
first_color_kind = 0x1c

abbrev pub last_color_kind : ℕ
last_color_kind = 0x1f
