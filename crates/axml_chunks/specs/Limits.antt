-- The limits of a string pool. The code names each of them once; `LimitLaws` says that its numbers are these.
use Rattle.std.specs.Prelude.{ℕ}

-- the most strings of a pool
abbrev pub max_strings : ℕ
max_strings = 65536

-- the most bytes in UTF-8 of its strings together
abbrev pub max_text : ℕ
max_text = 4194304
