-- The windows of the page of a stack, each with its share of the lines.
use Rattle.std.specs.Prelude.{◌≡◌, ℕ, if◌then◌else◌, List, [], ◌∷◌, ◌++◌, Result, Ok, Err}
use Rattle.script_lines.specs.cutting.Lines.{Line, Text, LongLine, is_passed_over, lines_of}
use Rattle.line_words.specs.declared.fault.LineFault.{LineFault}
use Rattle.stack_worlds.specs.Isolation.{DependsOnShare, IsIsolated, shared_by}
use Rattle.stack_worlds.specs.PlainStack.{empty_stack}
use Rattle.tool_io.specs.Fetched.{Files}
use Rattle.whole_tool.specs.Carried.{Stacked}
use Rattle.whole_tool.specs.Transcript.{after_from}
use Rattle.window_stack.specs.StackLines.{PlainLine, stack_line_of}

-- what a line asks a stack for, if it asks for anything
abbrev pub read_or_none : Result PlainLine LineFault → List PlainLine
read_or_none (Ok line) = line ∷ []
read_or_none (Err fault) = []

abbrev pub asked_of : Line → List PlainLine
asked_of LongLine = []
asked_of (Text bytes) = if is_passed_over bytes then [] else read_or_none (stack_line_of bytes)

-- what the lines of a script ask for
abbrev pub all_asked : List Line → List PlainLine
all_asked [] = []
all_asked (line ∷ lines) = asked_of line ++ all_asked lines

-- the state and the replies of a window, if it is open after a script, are those of its share alone: of the commands
-- that the script gives it since it was last opened
pub record IsPageIsolated (script : List ℕ) (files : Files) (k : ℕ) : Type 0 where
  pub made : (after_from (Stacked empty_stack) files (lines_of script)).carried
      ≡ Stacked (shared_by files k (all_asked (lines_of script))).stack
  pub alone : IsIsolated files k (all_asked (lines_of script))
  -- so they are those of any other script that gives the window the same share
  pub depends : (other : List ℕ) → DependsOnShare files k (all_asked (lines_of script)) (all_asked (lines_of other))
