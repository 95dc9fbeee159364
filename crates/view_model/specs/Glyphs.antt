-- The pixels of characters.
use Rattle.std.specs.Prelude.{ℕ, ◌-◌, ◌/◌, ◌%◌, ◌^◌, ◌==◌, Bool, nat_lt, if◌then◌else◌, List, slice_index_or}
use Rattle.view_model.specs.Font.{font, glyph}
use Rattle.view_model.specs.Numbers.{first_glyph}

-- the columns of every character that the font does not have: a frame
abbrev pub no_glyph : List ℕ
no_glyph = glyph 0x7f 0x41 0x41 0x41 0x7f

-- the columns of a character, from the left
abbrev pub columns_of : ℕ → List ℕ
columns_of c = if nat_lt c first_glyph then no_glyph else slice_index_or font (c - first_glyph) no_glyph

-- a column of a character's cell, as a number whose bits are its pixels: those right of the glyph are empty
unfoldable pub glyph_of : ℕ → ℕ → ℕ
glyph_of c column = slice_index_or (columns_of c) column 0

-- whether a bit is set, the lowest being the bit 0
abbrev pub has_bit : ℕ → ℕ → Bool
has_bit bits k = bits / 2 ^ k % 2 == 1
