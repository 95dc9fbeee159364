-- The limits of files, and the numbers of the refusals of a file.
use Rattle.std.specs.Prelude.{ℕ}

-- the most bytes of a layout file
abbrev pub max_file : ℕ
max_file = 1048576

-- the refusals of a file that is missing, and of one that is too long
abbrev pub missing_file : ℕ
missing_file = 39

abbrev pub long_file : ℕ
long_file = 40

-- the greatest number of a refusal; the first is 1
abbrev pub last_refusal : ℕ
last_refusal = 43
