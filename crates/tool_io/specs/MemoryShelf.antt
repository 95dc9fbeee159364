-- A shelf of files in memory that fails at listed calls.
use Rattle.std.specs.Prelude.{ℕ, List, if◌then◌else◌}
use Rattle.tool_io.specs.Calls.{CallsMade, fails_next, after_call, after_failed}

-- the files by the bytes of their names, and the calls
pub record ListedShelf : Type 0 where
  pub files : List (List ℕ × List ℕ)
  pub calls : CallsMade

-- the shelf after a fetch
abbrev pub after_fetch : ListedShelf → ListedShelf
after_fetch shelf =
    if fails_next shelf.calls
    then record shelf { calls = after_failed (after_call shelf.calls) }
    else record shelf { calls = after_call shelf.calls }
