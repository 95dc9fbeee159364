-- The numbers that a load draws, one after the other.
use Rattle.std.specs.Prelude.{ℕ, ◌+◌, ◌*◌, ◌/◌, ◌%◌}

-- the state that a draw sets first
unfoldable pub next_state : ℕ → ℕ
next_state state = (state * 1103515245 + 12345) % 2147483648

-- what is drawn in a state: a number below the limit
unfoldable pub drawn : ℕ → ℕ → ℕ
drawn state limit = state / 256 % limit
