-- Sets of pointers, and the numbers that represent them.
use Rattle.std.specs.Prelude.{ℕ, ◌==◌, Bool}
use Rattle.std.specs.Int.{bit_at}

-- the set that a number represents: the ids at which it has a bit
unfoldable pub has_id : ℕ → ℕ → Bool
has_id ids id = bit_at ids id == 1
