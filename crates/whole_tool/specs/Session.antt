-- A script whose lines come one at a time.
use Rattle.std.specs.Prelude.{◌≡◌, ℕ, ◌+◌, ◌≤◌, Bool, if◌then◌else◌, List, [], ◌∷◌, ◌++◌, Option}
use Rattle.std.specs.Io.KnownBytes.{Appends}
use Rattle.std.specs.List.{list_any}
use Rattle.script_lines.specs.cutting.Lines.{cut_of, is_line_feed, line_of, lines_of}
use Rattle.tool_io.specs.Fetched.{Files}
use Rattle.whole_tool.specs.Carrier.{IsWatching, carried_of}
use Rattle.whole_tool.specs.Tally.{Watching}
use Rattle.whole_tool.specs.Transcript.{ScriptProgress, after_lines, line_text, transcript}
use Rattle.whole_tool.specs.declared.session.Session.{Session}

-- the most lines that a session takes
abbrev pub max_lines : ℕ
max_lines = 4294967296

abbrev pub has_line_feed : List ℕ → Bool
has_line_feed bytes = list_any is_line_feed bytes

-- a script with one more line
abbrev pub with_line : List ℕ → List ℕ → List ℕ
with_line script line = script ++ (line ++ 10 ∷ [])

-- after the lines of a script
abbrev pub after_script : Files → List ℕ → ScriptProgress
after_script files script = after_lines files (lines_of script)

-- the text of one more line
abbrev pub answer_to : Files → List ℕ → List ℕ → List ℕ
answer_to files script line = line_text files (after_script files script) (line_of line)

-- a session has carried out the lines of this script, which all have their line feed
pub record HasRun (files : Files) (script : List ℕ) (session : Session) : Type 0 where
  pub ended : (cut_of script).rest ≡ []
  pub lines : session.runner.lines ≡ (after_script files script).lines
  pub counted : session.runner.lines + session.left ≡ max_lines
  pub carried : carried_of session.runner.carrier ≡ (after_script files script).carried
  pub refused : session.runner.refused ≡ (after_script files script).refused
  pub few : (after_script files script).refused ≤ (after_script files script).lines
  pub watching : Watching
  pub watched : IsWatching session.runner.carrier watching

-- what was written for one more line is what the transcript grows by, and whether that line is refused
pub record IsAnswered (files : Files) (script line : List ℕ) (old new : Option (List ℕ)) (refuses : Bool) : Type 0 where
  pub gone : Appends old new (answer_to files script line)
  pub whole : transcript (with_line script line) files ≡ transcript script files ++ answer_to files script line
  pub refused : (after_script files (with_line script line)).refused
      ≡ (after_script files script).refused + (if refuses then 1 else 0)
