-- Text on its way to a sink.
use Rattle.std.specs.Prelude.{◌≡◌, ℕ, Bool, true, false, List, ◌++◌}
use Rattle.std.specs.Io.KnownBytes.{Appends}
use Rattle.text_lines.specs.Prefix.{AppendsPrefix}
use Rattle.tool_io.specs.Counts.{raised}
use Rattle.tool_io.specs.SinkState.{SinkState}

-- the bytes that are not written yet, and whether a write has failed
pub record BufferedText : Type 0 where
  pub bytes : List ℕ
  pub failed : Bool

-- what was held and a text after it were written, except what is held afterwards, and no call has failed
pub record Moves (old new : SinkState) (before after text : List ℕ) : Type 0 where
  pub written : List ℕ
  pub gone : Appends old.gone new.gone written
  pub whole : written ++ after ≡ before ++ text
  pub count : new.faults ≡ old.faults

-- a prefix of a text was written, and then one call has failed
pub record Breaks (old new : SinkState) (text : List ℕ) : Type 0 where
  pub prefix : AppendsPrefix old.gone new.gone text
  pub count : new.faults ≡ raised old.faults

-- A text was sent, from one moment of a sink and a buffer to a later one. Either it followed what was held, or a write
-- failed and a prefix of both was written, or one had failed before and the sink was not called.
pub record Sends (old new : SinkState) (before after : BufferedText) (text : List ℕ) : Type 0 where
  pub moves : after.failed ≡ false → (before.failed ≡ false) × Moves old new before.bytes after.bytes text
  pub breaks : before.failed ≡ false → after.failed ≡ true → Breaks old new (before.bytes ++ text)
  pub silent : before.failed ≡ true → new ≡ old
