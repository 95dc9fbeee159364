-- The bounds of the numbers in words, beside those that views have.
use Rattle.std.specs.Prelude.{ℕ}

-- the most bytes of the name of a file
abbrev pub max_file_name : ℕ
max_file_name = 64

-- the most whole ones of a weight, and the most 256ths beside them
abbrev pub max_whole : ℕ
max_whole = 65535

abbrev pub max_parts : ℕ
max_parts = 255
