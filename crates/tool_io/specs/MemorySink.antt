-- A sink that keeps the bytes in memory.
use Rattle.std.specs.Prelude.{ℕ, List, ◌++◌, length, take, min, Bool, if◌then◌else◌}
use Rattle.tool_io.specs.Calls.{CallsMade, after_call, after_failed}

-- the bytes that were written, how many one call moves at most, and the calls
pub record ListedSink : Type 0 where
  pub gone : List ℕ
  pub most : ℕ
  pub calls : CallsMade

-- how many bytes of a piece of this length a write moves if it does not fail
abbrev pub write_count : ListedSink → ℕ → ℕ
write_count sink length = min length sink.most

-- the sink after a write of this piece, which succeeded or failed
abbrev pub after_write : ListedSink → List ℕ → Bool → ListedSink
after_write sink piece succeeded =
    if succeeded
    then record sink { gone = sink.gone ++ take (write_count sink (length piece)) piece; calls = after_call sink.calls }
    else record sink { calls = after_failed (after_call sink.calls) }
