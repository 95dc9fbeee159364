-- The grammar of a line of a stack, over its words. All words are read before a number's bounds are looked at.
use Rattle.std.specs.Prelude.{ℕ, ◌≤◌, ◌||◌, Bool, if◌then◌else◌, ℤ, pos, List, codes, length, Result, Ok, Err}
use Rattle.std.specs.Str.{bytes_eq, is_utf8}
use Rattle.script_lines.specs.reading.Commands.{IsInBounds, command_of}
use Rattle.line_words.specs.words.Numbers.{IsWithin, integer_in, integer_of, natural_within, within_of}
use Rattle.script_lines.specs.reading.Pixels.{IsPart, is_small}
use Rattle.script_lines.specs.commands.PlainCommands.{PlainCommand, plain_command, text_length}
use Rattle.script_lines.specs.reading.Touches.{IsTouchInBounds, pointer_of, touch_of}
use Rattle.line_words.specs.words.Words.{after_word, ◌>>=◌, map_ok, word_in, end_of, words}
use Rattle.window_stack.specs.Numbers.{max_corner, max_pane, max_point, max_pointer, max_window, min_corner}
use Rattle.line_words.specs.declared.fault.LineFault.{LineFault}
use Rattle.line_words.specs.declared.fault.LineFault.TheVariants.{Syntax, Range}
use Rattle.window_stack.specs.declared.lines.StackLine.{StackLine}
use Rattle.window_stack.specs.declared.lines.StackLine.TheVariants as line

-- what a line asks for, with the bytes of its texts
pub data PlainLine : Type 0 where
  At : ℕ → ℤ → ℤ → PlainLine
  Raise : ℕ → PlainLine
  Close : ℕ → PlainLine
  In : ℕ → PlainCommand → PlainLine
  Compose : ℤ → ℤ → ℤ → ℤ → PlainLine
  Down : ℕ → ℤ → ℤ → PlainLine
  Move : ℕ → ℤ → ℤ → PlainLine
  Up : ℕ → PlainLine
  Cancel : PlainLine

abbrev pub plain_line : StackLine → PlainLine
plain_line (line.At k x y) = At k x y
plain_line (line.Raise k) = Raise k
plain_line (line.Close k) = Close k
plain_line (line.In k command) = In k (plain_command command)
plain_line (line.Compose x y w h) = Compose x y w h
plain_line (line.Down p x y) = Down p x y
plain_line (line.Move p x y) = Move p x y
plain_line (line.Up p) = Up p
plain_line line.Cancel = Cancel

-- the name of a window
unfoldable pub pane_of : ℤ → Result ℕ LineFault
pane_of n = natural_within 0 max_pane n

-- `K X Y`, a window and its corner
unfoldable pub at_of : List (List ℕ) → Result PlainLine LineFault
at_of words = do
  k ← integer_in words
  x ← integer_in k.1
  y ← integer_in x.1
  _ ← end_of y.1
  pane ← pane_of k.0
  left ← within_of min_corner max_corner x.0
  top ← within_of min_corner max_corner y.0
  Ok (At pane left top)

-- `K`
unfoldable pub raise_of : List (List ℕ) → Result PlainLine LineFault
raise_of words = do
  k ← integer_in words
  _ ← end_of k.1
  map_ok Raise (pane_of k.0)

-- `K`
unfoldable pub close_of : List (List ℕ) → Result PlainLine LineFault
close_of words = do
  k ← integer_in words
  _ ← end_of k.1
  map_ok Close (pane_of k.0)

-- whether a command that begins with this word is one of touch
unfoldable pub is_touch_word : List ℕ → Bool
is_touch_word head =
    bytes_eq head (codes "down") || bytes_eq head (codes "move") || bytes_eq head (codes "up")
    || bytes_eq head (codes "cancel")

-- the command of a line that a window carries out, which is not one of touch
unfoldable pub given_of : List ℕ → Result PlainCommand LineFault
given_of line = word_in (words line) >>= λ head. if is_touch_word head.0 then Err Syntax else command_of line

-- `K REST`, a window and a line that it carries out
unfoldable pub in_of : List ℕ → Result PlainLine LineFault
in_of rest = do
  name ← word_in (words rest)
  k ← integer_of name.0
  command ← given_of (after_word rest)
  pane ← pane_of k
  Ok (In pane command)

-- a part of the stack, within its bounds
unfoldable pub part_by : ℤ → ℤ → ℤ → ℤ → Result PlainLine LineFault
part_by x y w h = do
  x ← within_of (pos 0) max_point x
  y ← within_of (pos 0) max_point y
  w ← within_of (pos 1) max_window w
  h ← within_of (pos 1) max_window h
  if is_small w h then Ok (Compose x y w h) else Err Range

-- `x y w h`, the corner and the sides of a part
unfoldable pub compose_of : List (List ℕ) → Result PlainLine LineFault
compose_of words = do
  x ← integer_in words
  y ← integer_in x.1
  w ← integer_in y.1
  h ← integer_in w.1
  _ ← end_of h.1
  part_by x.0 y.0 w.0 h.0

-- `p x y`
abbrev pub sdown_of : List (List ℕ) → Result PlainLine LineFault
sdown_of words = map_ok (λ touch. Down touch.pointer touch.x touch.y) (touch_of words)

-- `p x y`
abbrev pub smove_of : List (List ℕ) → Result PlainLine LineFault
smove_of words = map_ok (λ touch. Move touch.pointer touch.x touch.y) (touch_of words)

-- `p`
unfoldable pub sup_of : List (List ℕ) → Result PlainLine LineFault
sup_of words = do
  p ← integer_in words
  _ ← end_of p.1
  map_ok Up (pointer_of p.0)

-- nothing
unfoldable pub scancel_of : List (List ℕ) → Result PlainLine LineFault
scancel_of words = end_of words >>= λ _. Ok Cancel

-- a line of touch, by its first word and the words after it
abbrev pub touch_line_by : List ℕ → List (List ℕ) → Result PlainLine LineFault
touch_line_by head words =
    if bytes_eq head (codes "sdown") then sdown_of words else (
    if bytes_eq head (codes "smove") then smove_of words else (
    if bytes_eq head (codes "sup") then sup_of words else (
    if bytes_eq head (codes "scancel") then scancel_of words else
    Err Syntax)))

-- a line, by its first word and the bytes after it
unfoldable pub stack_line_by : List ℕ → List ℕ → Result PlainLine LineFault
stack_line_by head rest =
    if bytes_eq head (codes "at") then at_of (words rest) else (
    if bytes_eq head (codes "raise") then raise_of (words rest) else (
    if bytes_eq head (codes "close") then close_of (words rest) else (
    if bytes_eq head (codes "in") then in_of rest else (
    if bytes_eq head (codes "compose") then compose_of (words rest) else
    touch_line_by head (words rest)))))

-- what a line asks for; bytes that are not valid UTF-8 ask for nothing
unfoldable pub stack_line_of : List ℕ → Result PlainLine LineFault
stack_line_of line =
    if is_utf8 line then (word_in (words line) >>= λ head. stack_line_by head.0 (after_word line)) else Err Syntax

-- how many bytes the text of a line has
abbrev pub text_length_in : PlainLine → ℕ
text_length_in (At k x y) = 0
text_length_in (Raise k) = 0
text_length_in (Close k) = 0
text_length_in (In k command) = text_length command
text_length_in (Compose x y w h) = 0
text_length_in (Down p x y) = 0
text_length_in (Move p x y) = 0
text_length_in (Up p) = 0
text_length_in Cancel = 0

-- the numbers of a line are within their bounds
abbrev pub IsLineInBounds : PlainLine → Type 0
IsLineInBounds (At k x y) = (k ≤ max_pane) × IsWithin min_corner max_corner x × IsWithin min_corner max_corner y
IsLineInBounds (Raise k) = k ≤ max_pane
IsLineInBounds (Close k) = k ≤ max_pane
IsLineInBounds (In k command) = (k ≤ max_pane) × IsInBounds command
IsLineInBounds (Compose x y w h) = IsPart x y w h
IsLineInBounds (Down p x y) = IsTouchInBounds p x y
IsLineInBounds (Move p x y) = IsTouchInBounds p x y
IsLineInBounds (Up p) = p ≤ max_pointer
IsLineInBounds Cancel = Unit {0}

-- the same of a line of the code
abbrev pub IsStackLineInBounds : StackLine → Type 0
IsStackLineInBounds line = IsLineInBounds (plain_line line)

-- the text of a line is no longer than these bytes
abbrev pub HasTextIn : List ℕ → StackLine → Type 0
HasTextIn bytes line = text_length_in (plain_line line) ≤ length bytes
