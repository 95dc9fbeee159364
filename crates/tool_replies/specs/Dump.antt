-- What the tool writes of a file: the text of its document, or why it is refused.
use Rattle.std.specs.Prelude.{◌≡◌, ◌==◌, ℕ, nat_lt, Bool, true, false, if◌then◌else◌, List, [], ◌∷◌, length, Option}
use Rattle.std.specs.Prelude.{Some, None, Result, Ok, Err, codes, decimal}
use Rattle.axml_chunks.specs.Causes.{cause_number}
use Rattle.axml_chunks.specs.declared.fault.Fault.{Fault}
use Rattle.axml_reader.specs.Decoding.{decoded}
use Rattle.axml_reader.specs.Document.{Document}
use Rattle.axml_reader.specs.Dump.{dump_text}
use Rattle.text_lines.specs.Joined.{◌⧺◌}
use Rattle.tool_io.specs.Counts.{raised}
use Rattle.tool_io.specs.Fetched.{Files, file_of}
use Rattle.tool_io.specs.SinkState.{SinkState}
use Rattle.tool_replies.specs.Numbers.{long_file, max_file, missing_file}
use Rattle.tool_replies.specs.Refusals.{refused_text}
use Rattle.tool_replies.specs.Endings.{IsComplete, IsOneOf, Writes}

-- a file that is refused, by the number of the refusal
unfoldable pub refused_file_text : ℕ → List ℕ
refused_file_text number = codes "file: " ⧺ refused_text number ⧺ codes "\n"

-- what is wrong with a file, and at which place
unfoldable pub fault_text : Fault → List ℕ
fault_text fault =
    codes "file: " ⧺ refused_text (cause_number fault.cause) ⧺ (codes " at " ⧺ decimal fault.at) ⧺ codes "\n"

-- the text of what was read
abbrev pub decoded_text : Result Document Fault → List ℕ
decoded_text (Ok document) = dump_text document
decoded_text (Err fault) = fault_text fault

abbrev pub is_fault : Result Document Fault → Bool
is_fault (Ok document) = false
is_fault (Err fault) = true

-- the text of a file, if there is one
abbrev pub file_text : Option (List ℕ) → List ℕ
file_text None = refused_file_text missing_file
file_text (Some bytes) =
    if nat_lt max_file (length bytes) then refused_file_text long_file else decoded_text (decoded bytes)

abbrev pub is_refused_file : Option (List ℕ) → Bool
is_refused_file None = true
is_refused_file (Some bytes) = if nat_lt max_file (length bytes) then true else is_fault (decoded bytes)

-- what is written of the file of a name, and whether it is refused
abbrev pub dump_page : Files → List ℕ → List ℕ
dump_page files name = file_text (file_of files name)

abbrev pub refuses_file : Files → List ℕ → Bool
refuses_file files name = is_refused_file (file_of files name)

-- how a print of this text ended with a status
pub record Dumps (page : List ℕ) (refused : Bool) (before after : SinkState) (status : ℕ) : Type 0 where
  pub writes : Writes status before.gone after.gone page
  pub ended : IsComplete status → status ≡ (if refused then 1 else 0)

-- how a call that writes one text left its sink, by its status. `SameSink` says that the sink is as it was.
pub record LeavesSink (before after : SinkState) (status : ℕ) (SameSink : Type 0) : Type 0 where
  pub known : IsOneOf status (0 ∷ 1 ∷ 4 ∷ 5 ∷ [])
  pub nothing_written : status ≡ 5 → SameSink
  pub sink_failed : after.faults ≡ (if status == 4 then raised before.faults else before.faults)

-- the status of a text that was delivered so, or of one that was not
abbrev pub status_of_text : {E : Type 0} → ℕ → Result (Unit {0}) E → ℕ
status_of_text done (Ok u) = done
status_of_text done (Err e) = 4
