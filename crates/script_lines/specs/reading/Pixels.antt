-- The part of the picture that a line asks for.
use Rattle.std.specs.Prelude.{if◌then◌else◌, ℕ, ℤ, ◌*ℤ◌, ◌≤ℤ◌, Bool, int_le, pos, List, Result, Ok, Err}
use Rattle.line_words.specs.words.Numbers.{IsWithin, integer_in, within_of}
use Rattle.script_lines.specs.commands.PlainCommands.{PlainCommand, Pixels}
use Rattle.line_words.specs.words.Words.{◌>>=◌, end_of}
use Rattle.script_lines.specs.Numbers.{max_pixels, max_point, max_window}
use Rattle.line_words.specs.declared.fault.LineFault.{LineFault}
use Rattle.line_words.specs.declared.fault.LineFault.TheVariants.{Range}

-- whether a part of this width and height is not too large
unfoldable pub is_small : ℤ → ℤ → Bool
is_small w h = int_le (w *ℤ h) max_pixels

-- a part within its bounds
unfoldable pub part_of : ℤ → ℤ → ℤ → ℤ → Result PlainCommand LineFault
part_of x y w h = do
  x ← within_of (pos 0) max_point x
  y ← within_of (pos 0) max_point y
  w ← within_of (pos 1) max_window w
  h ← within_of (pos 1) max_window h
  if is_small w h then Ok (Pixels x y w h) else Err Range

-- `x y w h`
unfoldable pub pixels_of : List (List ℕ) → Result PlainCommand LineFault
pixels_of words = do
  x ← integer_in words
  y ← integer_in x.1
  w ← integer_in y.1
  h ← integer_in w.1
  _ ← end_of h.1
  part_of x.0 y.0 w.0 h.0

-- the numbers of a part are within their bounds
abbrev pub IsPart : ℤ → ℤ → ℤ → ℤ → Type 0
IsPart x y w h =
    IsWithin (pos 0) max_point x × IsWithin (pos 0) max_point y × IsWithin (pos 1) max_window w
    × IsWithin (pos 1) max_window h × ((w *ℤ h) ≤ℤ max_pixels)
