-- What is held of a script whose bytes come in pieces.
use Rattle.std.specs.Prelude.{◌≡◌, ℕ, ◌+◌, ◌≤◌, List, [], ◌∷◌, take}
use Rattle.script_lines.specs.cutting.Lines.{Line, Text, LongLine, cut_of, max_line}
use Rattle.script_lines.specs.declared.cutting.Ended.{Ended}
use Rattle.script_lines.specs.declared.cutting.Ended.TheVariants as ended
use Rattle.script_lines.specs.declared.cutting.LinePlace.{LinePlace}
use Rattle.script_lines.specs.declared.cutting.LinePlace.TheVariants as place

-- the part of a line that is held, and the line that has just ended
pub record LineBuffer : Type 0 where
  pub begun : List ℕ
  pub line : List ℕ

-- of a line at most one byte more is held than it may have
abbrev pub held_of : List ℕ → List ℕ
held_of bytes = take (max_line + 1) bytes

-- the lines that a result has
abbrev pub lines_as : Ended → List ℕ → List Line
lines_as ended.No line = []
lines_as ended.Line line = Text line ∷ []
lines_as ended.Long line = LongLine ∷ []

-- the lines that a result has: one at the front of the piece, or the one that is held
abbrev pub lines_at : LinePlace → List ℕ → List ℕ → List Line
lines_at place.No piece line = []
lines_at (place.Piece len) piece line = Text (take len piece) ∷ []
lines_at place.Held piece line = Text line ∷ []
lines_at place.Long piece line = LongLine ∷ []

-- a line in a piece of n bytes is no longer than the piece, nor than a line may be
abbrev pub IsLent : LinePlace → ℕ → Type 0
IsLent place.No size = Unit {0}
IsLent (place.Piece len) size = (len ≤ max_line) × (len ≤ size)
IsLent place.Held size = Unit {0}
IsLent place.Long size = Unit {0}

-- what is held once these bytes have come
pub record IsAfter (held : LineBuffer) (bytes : List ℕ) : Type 0 where
  pub begun : held.begun ≡ held_of (cut_of bytes).rest
