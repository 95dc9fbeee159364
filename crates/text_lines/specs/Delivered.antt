-- How a text was delivered to a sink.
use Rattle.std.specs.Prelude.{◌≡◌, ℕ, List, Result, OnOk, OnErr, is_ok}
use Rattle.std.specs.Io.KnownBytes.{Appends}
use Rattle.text_lines.specs.Prefix.{AppendsPrefix}
use Rattle.tool_io.specs.Counts.{faults_after}
use Rattle.tool_io.specs.SinkState.{SinkState}

-- A text has been delivered. On `Ok` it was written whole and no call has failed. On `Err` a prefix of it was written,
-- and then one call has failed.
pub record Delivered {E : Type 0} (before after : SinkState) (result : Result (Unit {0}) E) (text : List ℕ) : Type 0
  where
    pub whole : OnOk result (Appends before.gone after.gone text)
    pub prefix : OnErr result (AppendsPrefix before.gone after.gone text)
    pub counted : after.faults ≡ faults_after before.faults (is_ok result)
