-- What the tool writes for a script: the texts of its lines, one after another, from the empty world or from no window.
use Rattle.std.specs.Prelude.{◌≢◌, ℕ, ◌+◌, Bool, nat_lt, if◌then◌else◌, length, List, [], ◌∷◌, ◌++◌, Option, Some, None}
use Rattle.std.specs.Prelude.{◌≤◌, fold, take}
use Rattle.script_lines.specs.cutting.Lines.{Line, Text, LongLine, cut_of, is_passed_over, lines_of}
use Rattle.stack_worlds.specs.PlainStack.{empty_stack}
use Rattle.tool_io.specs.Fetched.{Files}
use Rattle.tool_io.specs.Fetches.{Fetch}
use Rattle.view_model.specs.Refusals.{refusal_numbered}
use Rattle.whole_tool.specs.Carried.{Carried, Alone, Stacked, LineReply, Done, Refused, BytesWant, asked_by_bytes}
use Rattle.whole_tool.specs.Carried.{reply_to_bytes}
use Rattle.whole_tool.specs.Numbers.{long_line}
use Rattle.tool_replies.specs.Refusals.{refused_line}
use Rattle.world_parts.specs.Shelves.{layout_fetch}
use Rattle.world_parts.specs.World.{empty_world}

-- what a line does: too long a line is refused whatever it begins with, and one that is passed over does nothing
unfoldable pub reply_to_line : Files → Carried → Line → LineReply
reply_to_line files carried LongLine = Refused (refusal_numbered long_line)
reply_to_line files carried (Text bytes) =
    if is_passed_over bytes then Done carried [] else reply_to_bytes files carried bytes

-- the name of the file that a line asks the shelf for, unless it is refused before
unfoldable pub asked_by_line : Carried → Line → Option (List ℕ)
asked_by_line carried LongLine = None
asked_by_line carried (Text bytes) = if is_passed_over bytes then None else asked_by_bytes carried bytes

-- a line that asks the shelf for a file
abbrev pub Asks : Carried → Line → Type 0
Asks carried line = asked_by_line carried line ≢ None

-- the lines so far: how many they are, what they made, what was written for them, how many were refused, and what they
-- asked of the shelf
pub record ScriptProgress : Type 0 where
  pub lines : ℕ
  pub carried : Carried
  pub text : List ℕ
  pub refused : ℕ
  pub asked : List Fetch

abbrev pub at_start : Carried → ScriptProgress
at_start start = record { lines = 0; carried = start; text = []; refused = 0; asked = [] }

-- a refused line leaves everything as it was
abbrev pub after_reply : ScriptProgress → LineReply → ScriptProgress
after_reply progress (Done carried text) =
    record progress { lines = progress.lines + 1; carried = carried; text = progress.text ++ text }
after_reply progress (Refused refusal) =
    record progress {
      lines = progress.lines + 1;
      text = progress.text ++ refused_line (progress.lines + 1) refusal;
      refused = progress.refused + 1;
    }

-- a line that asks for a file asks once, with the limit of a layout file, whatever comes of it
abbrev pub after_asked : List Fetch → Option (List ℕ) → List Fetch
after_asked asked None = asked
after_asked asked (Some name) = asked ++ layout_fetch name ∷ []

-- the text of a reply to the next line
abbrev pub reply_text : ScriptProgress → LineReply → List ℕ
reply_text progress (Done carried text) = text
reply_text progress (Refused refusal) = refused_line (progress.lines + 1) refusal

-- the text of the next line
abbrev pub line_text : Files → ScriptProgress → Line → List ℕ
line_text files progress line = reply_text progress (reply_to_line files progress.carried line)

abbrev pub after_line : Files → ScriptProgress → Line → ScriptProgress
after_line files progress line =
    let next = after_reply progress (reply_to_line files progress.carried line) in
    record next { asked = after_asked progress.asked (asked_by_line progress.carried line) }

-- after these lines, from this start
unfoldable pub after_from : Carried → Files → List Line → ScriptProgress
after_from start files lines = fold (after_line files) (at_start start) lines

-- after these lines, from the empty world
abbrev pub after_lines : Files → List Line → ScriptProgress
after_lines files lines = after_from (Alone empty_world) files lines

-- the transcript of a script, with these files at hand
abbrev pub transcript : List ℕ → Files → List ℕ
transcript script files = (after_lines files (lines_of script)).text

-- the page of a script for a stack of windows, from no window
abbrev pub stack_page : List ℕ → Files → List ℕ
stack_page script files = (after_from (Stacked empty_stack) files (lines_of script)).text

-- whether a line of such a script is refused
abbrev pub refuses_in_stack : List ℕ → Files → Bool
refuses_in_stack script files = nat_lt 0 (after_from (Stacked empty_stack) files (lines_of script)).refused

-- whether a line of the script is refused
abbrev pub has_refusal : List ℕ → Files → Bool
has_refusal script files = nat_lt 0 (after_lines files (lines_of script)).refused

-- the most bytes that a script may have
abbrev pub max_script : ℕ
max_script = 16777216

-- a script that is carried out whole
abbrev pub IsShortScript : List ℕ → Type 0
IsShortScript script = length script ≤ max_script

-- the lines of a script that are carried out: all, or if it is too long those whose line feed is among the first bytes
unfoldable pub carried_lines : List ℕ → List Line
carried_lines script =
    if nat_lt max_script (length script) then (cut_of (take max_script script)).lines else lines_of script

-- the transcript of these lines of a script that is too long
abbrev pub cut_transcript : List ℕ → Files → List ℕ
cut_transcript script files = (after_lines files (cut_of (take max_script script)).lines).text

-- a line that may run out of memory
abbrev pub MayWant : Carried → Line → Type 0
MayWant carried LongLine = ⊥
MayWant carried (Text bytes) = BytesWant carried bytes
