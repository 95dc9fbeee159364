-- A source over bytes in memory that fails at listed calls.
use Rattle.std.specs.Prelude.{ℕ, if◌then◌else◌}
use Rattle.tool_io.specs.BytesLeft.{Left, after_move}
use Rattle.tool_io.specs.Calls.{CallsMade, fails_next, after_call, after_failed}

-- the bytes that are left, and the calls
pub record ListedSource : Type 0 where
  pub left : Left
  pub calls : CallsMade

-- the source after a read into a buffer with this room
abbrev pub after_read : ListedSource → ℕ → ListedSource
after_read source room =
    if fails_next source.calls
    then record source { calls = after_failed (after_call source.calls) }
    else record { left = after_move source.left room; calls = after_call source.calls }
