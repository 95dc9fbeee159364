-- What a pointer does, and where. All words are read before a number's bounds are looked at.
use Rattle.std.specs.Prelude.{ℕ, ℤ, ◌≤◌, List, Result, Ok}
use Rattle.line_words.specs.words.Numbers.{IsWithin, integer_in, natural_within, within_of}
use Rattle.script_lines.specs.commands.PlainCommands.{PlainCommand, Down, Move, Up, Cancel}
use Rattle.line_words.specs.words.Words.{◌>>=◌, end_of, map_ok}
use Rattle.script_lines.specs.Numbers.{max_pointer, max_touch, min_touch}
use Rattle.line_words.specs.declared.fault.LineFault.{LineFault}
use Rattle.script_lines.specs.declared.reading.touches.Touch.{Touch}

-- the pointer of an id
unfoldable pub pointer_of : ℤ → Result ℕ LineFault
pointer_of id = natural_within 0 max_pointer id

-- `p x y`, a pointer and a point
unfoldable pub touch_of : List (List ℕ) → Result Touch LineFault
touch_of words = do
  p ← integer_in words
  x ← integer_in p.1
  y ← integer_in x.1
  _ ← end_of y.1
  pointer ← pointer_of p.0
  left ← within_of min_touch max_touch x.0
  top ← within_of min_touch max_touch y.0
  Ok (record { pointer = pointer; x = left; y = top })

-- `p x y`
abbrev pub down_of : List (List ℕ) → Result PlainCommand LineFault
down_of words = map_ok (λ touch. Down touch.pointer touch.x touch.y) (touch_of words)

-- `p x y`
abbrev pub move_of : List (List ℕ) → Result PlainCommand LineFault
move_of words = map_ok (λ touch. Move touch.pointer touch.x touch.y) (touch_of words)

-- `p`
unfoldable pub up_of : List (List ℕ) → Result PlainCommand LineFault
up_of words = do
  p ← integer_in words
  _ ← end_of p.1
  map_ok Up (pointer_of p.0)

-- nothing
unfoldable pub cancel_of : List (List ℕ) → Result PlainCommand LineFault
cancel_of words = end_of words >>= λ _. Ok Cancel

-- the numbers of a touch are within their bounds
abbrev pub IsTouchInBounds : ℕ → ℤ → ℤ → Type 0
IsTouchInBounds pointer x y = (pointer ≤ max_pointer) × IsWithin min_touch max_touch x × IsWithin min_touch max_touch y
