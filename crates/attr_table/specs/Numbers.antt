-- The limits of what attributes take, beside those that views have.
use Rattle.std.specs.Prelude.{ℕ}

-- the greatest weight that is given as a whole number
abbrev pub max_whole_weight : ℕ
max_whole_weight = 65535
