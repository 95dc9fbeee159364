-- A script that comes in pieces, however they are cut.
use Rattle.std.specs.Prelude.{◌≡◌, ℕ, List, [], ◌∷◌, ◌++◌}
use Rattle.script_lines.specs.cutting.Lines.{Line, cut_of}
use Rattle.script_lines.specs.cutting.LineBuffer.{LineBuffer, IsAfter}

-- bytes that were taken, the lines that were returned, and what is held from then on
pub record Feed : Type 0 where
  pub bytes : List ℕ
  pub lines : List Line
  pub held : LineBuffer

-- they were taken as `Lines::next_line` and `Lines::feed` define
abbrev pub IsFeed : LineBuffer → Feed → Type 0
IsFeed old taken =
    (before : List ℕ) → IsAfter old before
    → ((cut_of (before ++ taken.bytes)).lines ≡ (cut_of before).lines ++ taken.lines)
    × IsAfter taken.held (before ++ taken.bytes)

-- bytes that were taken one after another, from one state to another
abbrev pub FeedSequence : LineBuffer → List Feed → LineBuffer → Type 0
FeedSequence first [] last = last ≡ first
FeedSequence first (taken ∷ course) last = IsFeed first taken × FeedSequence taken.held course last

abbrev pub bytes_in : List Feed → List ℕ
bytes_in [] = []
bytes_in (taken ∷ course) = taken.bytes ++ bytes_in course

abbrev pub lines_in : List Feed → List Line
lines_in [] = []
lines_in (taken ∷ course) = taken.lines ++ lines_in course
