-- What the tool writes of a script with a question after it: the texts of the lines, and then which view gets the focus
-- next, or why the question is refused.
use Rattle.std.specs.Prelude.{◌≡◌, ◌⊎◌, ℕ, ◌+◌, ◌<◌, ◌≤◌, Bool, ◌||◌, if◌then◌else◌, List, [], ◌++◌, length, Option}
use Rattle.std.specs.Prelude.{Some, None, Result, Ok, Err, IfOk, is_err, codes, decimal}
use Rattle.std.specs.Io.KnownBytes.{Appends, Consumes, IsAtEnd}
use Rattle.focus_finder.specs.Focus.{next_focus}
use Rattle.focus_finder.specs.declared.side.Side.{Side}
use Rattle.geom_core.specs.declared.geometry.Size.{Size}
use Rattle.script_lines.specs.cutting.Lines.{lines_of}
use Rattle.script_lines.specs.commands.PlainCommands as command
use Rattle.text_lines.specs.Joined.{◌⧺◌}
use Rattle.text_lines.specs.Prefix.{AppendsPrefix}
use Rattle.tool_io.specs.Fetched.{Files}
use Rattle.whole_tool.specs.Carried.{Alone, world_in}
use Rattle.whole_tool.specs.declared.focusing.Question.{Question}
use Rattle.whole_tool.specs.declared.run.Stop.TheVariants as stop
use Rattle.whole_tool.specs.declared.script.End.{End}
use Rattle.whole_tool.specs.declared.script.End.TheVariants as ends
use Rattle.tool_replies.specs.Numbers.{last_refusal}
use Rattle.tool_replies.specs.Refusals.{refused_text}
use Rattle.whole_tool.specs.Script.{Input, RunsTo, WorksTaken}
use Rattle.whole_tool.specs.Tally.{costs_of_script}
use Rattle.whole_tool.specs.Tool.{Given}
use Rattle.tool_replies.specs.Endings.{IsComplete, Writes}
use Rattle.whole_tool.specs.Transcript.{after_lines, carried_lines, cut_transcript, has_refusal, max_script, transcript}
use Rattle.whole_tool.specs.Usage.{Focus}
use Rattle.whole_tool.specs.Works.{HasFetched, Trace, Works, WorksBefore, WorksPart, WorksToFetch, WorksToWrite}
use Rattle.world_parts.specs.Naming.{named}
use Rattle.world_parts.specs.Reply.{Reply, Done, Refused}
use Rattle.view_world.specs.world.Step.{step}
use Rattle.view_world.specs.frames.Watched.{IsWorth}
use Rattle.world_parts.specs.World.{World, empty_world}

-- the view that gets the focus next in a window of this size, from the view of this number
abbrev pub next_in : World → Side → Option Size → Option ℕ → Option ℕ
next_in world side None number = None
next_in world side (Some window) None = None
next_in world side (Some window) (Some number) = next_focus world.tree world.geometry window number side

-- the view that gets the focus next, if there is one, or else the number of the refusal of the question, by what a
-- `bounds` line of the same view is replied
abbrev pub answer_by : World → Question → Reply → Result (Option ℕ) ℕ
answer_by world question (Done after text) =
    Ok (next_in world question.side world.window (named world.tree question.view))
answer_by world question (Refused refusal) = Err refusal.number

abbrev pub answer_of : World → Question → Result (Option ℕ) ℕ
answer_of world question = answer_by world question (step [] world (command.Bounds (Some question.view)))

unfoldable pub found_text : ℕ → List ℕ
found_text number = (codes "focus v" ⧺ decimal number) ⧺ codes "\n"

unfoldable pub refused_question : ℕ → List ℕ
refused_question number = codes "focus: " ⧺ refused_text number ⧺ codes "\n"

-- the line of an answer
abbrev pub answer_text : Result (Option ℕ) ℕ → List ℕ
answer_text (Ok None) = codes "focus none\n"
answer_text (Ok (Some number)) = found_text number
answer_text (Err number) = refused_question number

-- a number that a refusal has
abbrev pub IsNamed : ℕ → Type 0
IsNamed number = (1 ≤ number) × (number ≤ last_refusal)

-- the answer to a question that is asked after a script, with these files at hand
abbrev pub script_answer : List ℕ → Files → Question → Result (Option ℕ) ℕ
script_answer script files question = answer_of (world_in (after_lines files (lines_of script)).carried) question

-- the transcript of a script, and then the answer
abbrev pub focus_page : List ℕ → Files → Question → List ℕ
focus_page script files question = transcript script files ++ answer_text (script_answer script files question)

-- whether a line of the script is refused, or the question
abbrev pub refuses_focus : List ℕ → Files → Question → Bool
refuses_focus script files question = has_refusal script files || is_err (script_answer script files question)

-- a run of this script with these files and then this question
pub record IsFocusOf (call : Given) (script : List ℕ) (files : Files) (question : Question) : Type 0 where
  pub words : call.usage ≡ Focus question
  pub source : call.left ≡ Some script
  pub shelf : call.held ≡ Some files

-- all lines were carried out, and the answer was written after their texts
pub record Answers (files : Files) (script : List ℕ) (question : Question) (first last : Trace) : Type 0 where
  pub short : length script ≤ max_script
  pub gone : Appends first.gone last.gone (focus_page script files question)
  pub worth : IsWorth (costs_of_script script files) first.work last.work
  pub fetched : HasFetched (Alone empty_world) files (lines_of script) first last

-- all lines were carried out, and only a prefix of the answer was written
pub record CutsAnswer (files : Files) (script : List ℕ) (question : Question) (first last : Trace) : Type 0 where
  pub short : length script ≤ max_script
  -- what was written before the answer
  pub between : Option (List ℕ)
  pub gone : Appends first.gone between (transcript script files)
  pub part : AppendsPrefix between last.gone (answer_text (script_answer script files question))
  pub worth : IsWorth (costs_of_script script files) first.work last.work
  pub fetched : HasFetched (Alone empty_world) files (lines_of script) first last

-- how the run of a script with a question after it ended: with the answer, as the run alone would, or by a failed write
-- of the answer
abbrev pub AsksTo : Input → Question → Option (List ℕ) → Trace → Trace → Result Bool End → Type 0
AsksTo input question left first last (Ok refused) =
    Answers input.files input.script question first last
    × (refused ≡ refuses_focus input.script input.files question)
AsksTo input question left first last (Err end) =
    RunsTo (Alone empty_world) input left first last (Err end) ⊎
    ((end ≡ ends.Stopped stop.Sink) × CutsAnswer input.files input.script question first last)

-- the same of a source, from its first bytes to its end
pub record AsksFrom (shelf : Option Files) (question : Question) (before after : Option (List ℕ)) (first last : Trace)
    (outcome : Result Bool End) : Type 0 where
  pub asks : (files : Files) (script : List ℕ) → shelf ≡ Some files → before ≡ Some script
      → AsksTo (record { files = files; script = script }) question after first last outcome
  pub end : IfOk outcome (λ _. IsAtEnd after)
  pub taken : List ℕ
  pub consumed : Consumes before after taken
  pub most : length taken ≤ max_script + 1

-- how the run of a script with a question after it ended with a status, what was written, and what was counted
pub record AsksWith (files : Files) (script : List ℕ) (question : Question) (left : Option (List ℕ))
    (first last : Trace) (status : ℕ) : Type 0 where
  pub writes : length script ≤ max_script → Writes status first.gone last.gone (focus_page script files question)
  -- where the script is too long, no question is answered
  pub cut : max_script < length script → AppendsPrefix first.gone last.gone (cut_transcript script files)
  pub part : WorksPart files first.work last.work (carried_lines script)
  pub ended : IsComplete status
      → Answers files script question first last × (status ≡ (if refuses_focus script files question then 1 else 0))
  pub taken : status ≡ 3 → WorksTaken (Alone empty_world) files script left first last
  pub failed_write : status ≡ 4
      → WorksToWrite (Alone empty_world) files first last (carried_lines script) ⊎ CutsAnswer files script question
      first last
  pub no_memory : status ≡ 5 → WorksBefore (Alone empty_world) files first last (carried_lines script)
  pub failed_fetch : status ≡ 6 → WorksToFetch (Alone empty_world) files first last (carried_lines script)
  pub long : status ≡ 7
      → (max_script < length script) × Works (Alone empty_world) files first last (carried_lines script)
