-- How the print of a file ends with a status.
use Rattle.std.proofs.Common.{ℕ, List, refl, arith}
use Rattle.std.specs.Prelude.{true, Result, Ok, Err}
use Rattle.text_lines.specs.Delivered.{Delivered}
use Rattle.tool_io.specs.SinkState.{SinkState}
use Rattle.tool_replies.specs.Dump.{Dumps, status_of_text}
use Rattle.tool_replies.proofs.EndingLaws.{not_ended, whole_prefix}

-- a text that reports a refused file was delivered, or a front part of it
pub dumps_refusal : {E : Type 0} (page : List ℕ) (old new : SinkState) (outcome : Result (Unit {0}) E) → Delivered old new outcome page → Dumps page true old new (status_of_text 1 outcome)
dumps_refusal page old new (Ok _) reported = record {
  writes = record { whole = λ _. reported.whole; part = whole_prefix old.gone new.gone page reported.whole };
  ended = λ _. refl;
}
dumps_refusal page old new (Err _) reported = record {
  writes = record { whole = λ e. absurd (not_ended 4 (omega arith) e); part = reported.prefix };
  ended = λ e. absurd (not_ended 4 (omega arith) e);
}
