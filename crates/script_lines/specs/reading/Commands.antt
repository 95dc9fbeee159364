-- The grammar of a line, over its words. All words are read before a number's bounds are looked at.
use Rattle.std.specs.Prelude.{ℕ, ◌<◌, ◌≤◌, IsTrue, if◌then◌else◌, pos, List, [], ◌∷◌, length, codes, Option, Some, None}
use Rattle.std.specs.Prelude.{Result, Ok, Err}
use Rattle.std.specs.List.{All}
use Rattle.std.specs.Str.{is_utf8}
use Rattle.view_model.specs.Classes.{class_named}
use Rattle.view_model.specs.Numbers.{max_edits}
use Rattle.script_lines.specs.reading.Changes.{IsActInBounds, IsChangeInBounds, act_by}
use Rattle.line_words.specs.words.Dimensions.{IsExtent, extents_of}
use Rattle.line_words.specs.words.Escapes.{has_escapes, rest_of}
use Rattle.line_words.specs.words.FileNames.{file_name_in, is_file_name}
use Rattle.script_lines.specs.reading.Hooks.{edits_of}
use Rattle.line_words.specs.words.Names.{known, name_in, parent_in}
use Rattle.line_words.specs.declared.words.naming.Name.{Name}
use Rattle.line_words.specs.words.Numbers.{IsWithin, integer_in, natural_within, pair_of}
use Rattle.script_lines.specs.reading.Pixels.{IsPart, pixels_of}
use Rattle.script_lines.specs.commands.PlainCommands.{PlainCommand, Window, Dpi, Res, Inflate, Add, Remove, Act}
use Rattle.script_lines.specs.commands.PlainCommands.{SetText, Disallow, Hook, Down, Move, Up, Cancel, Frame, Bounds}
use Rattle.script_lines.specs.commands.PlainCommands.{Pixels, Digest, Save, Restore, plain_command}
use Rattle.script_lines.specs.reading.Resources.{IsGivenInBounds, res_of}
use Rattle.script_lines.specs.reading.States.{is_state_text, restore_of, save_of}
use Rattle.script_lines.specs.reading.Touches.{IsTouchInBounds, cancel_of, down_of, move_of, up_of}
use Rattle.script_lines.specs.reading.Verbs.{verb_named}
use Rattle.line_words.specs.words.Words.{after_word, ◌>>=◌, map_ok, literal_in, on_of, word_in, end_of, words}
use Rattle.script_lines.specs.Numbers.{max_dpi, max_pointer, max_window, min_dpi}
use Rattle.script_lines.specs.declared.commands.Command.{Command}
use Rattle.line_words.specs.declared.fault.LineFault.{LineFault}
use Rattle.line_words.specs.declared.fault.LineFault.TheVariants.{Syntax}
use Rattle.script_lines.specs.declared.verbs.ActVerb.{ActVerb}
use Rattle.script_lines.specs.declared.verbs.Verb.{Verb}
use Rattle.script_lines.specs.declared.verbs.Verb.TheVariants as verb

-- `W H`, the sides of a window
abbrev pub window_of : List (List ℕ) → Result PlainCommand LineFault
window_of words = map_ok (λ pair. Window pair.0 pair.1) (pair_of (pos 1) max_window words)

-- `N`, a density
unfoldable pub dpi_of : List (List ℕ) → Result PlainCommand LineFault
dpi_of words = do
  n ← integer_in words
  _ ← end_of n.1
  map_ok Dpi (natural_within min_dpi max_dpi n.0)

-- nothing, or `into V`
unfoldable pub into_of : List (List ℕ) → Result (Option Name) LineFault
into_of [] = Ok None
into_of (word ∷ words) = do
  words ← literal_in (codes "into") (word ∷ words)
  view ← name_in words
  _ ← end_of view.1
  Ok (Some view.0)

-- `NAME`, a file, and where its tree goes
unfoldable pub inflate_of : List (List ℕ) → Result PlainCommand LineFault
inflate_of words = do
  name ← file_name_in words
  map_ok (Inflate name.0) (into_of name.1)

-- `P C W H`, a parent, and the view that is added to it
unfoldable pub add_of : List (List ℕ) → Result PlainCommand LineFault
add_of words = do
  parent ← parent_in words
  c ← word_in parent.1
  class ← known (class_named c.0)
  map_ok (λ extents. Add parent.0 class extents.0 extents.1) (extents_of c.1)

-- `V`
unfoldable pub remove_of : List (List ℕ) → Result PlainCommand LineFault
remove_of words = do
  view ← name_in words
  _ ← end_of view.1
  Ok (Remove view.0)

-- nothing
unfoldable pub frame_of : List (List ℕ) → Result PlainCommand LineFault
frame_of words = end_of words >>= λ _. Ok Frame

-- nothing
unfoldable pub digest_of : List (List ℕ) → Result PlainCommand LineFault
digest_of words = end_of words >>= λ _. Ok Digest

-- nothing, or `V`
unfoldable pub bounds_of : List (List ℕ) → Result PlainCommand LineFault
bounds_of [] = Ok (Bounds None)
bounds_of (word ∷ words) = do
  view ← name_in (word ∷ words)
  _ ← end_of view.1
  Ok (Bounds (Some view.0))

-- `V yes` or `V no`, a view, and whether it and all above it are prevented from taking pointers away from their
-- children
unfoldable pub disallow_of : List (List ℕ) → Result PlainCommand LineFault
disallow_of words = do
  view ← name_in words
  b ← word_in view.1
  on ← on_of b.0
  _ ← end_of b.1
  Ok (Disallow view.0 on)

-- `V`, and what is set of that view
unfoldable pub set_of : ActVerb → List (List ℕ) → Result PlainCommand LineFault
set_of verb words = do
  view ← name_in words
  map_ok (λ act. Act view.0 act) (act_by verb view.1)

-- `V T`, and the text of that view: all that comes after one space
unfoldable pub set_text_of : List ℕ → Result PlainCommand LineFault
set_text_of rest = do
  view ← name_in (words rest)
  map_ok (SetText view.0) (rest_of (after_word rest))

-- `V E ; E ..`, a view, and one edit or more that are made once it has another size
unfoldable pub hook_of : List (List ℕ) → Result PlainCommand LineFault
hook_of words = do
  view ← name_in words
  map_ok (λ edits. Hook view.0 edits.0 edits.1) (edits_of view.1)

-- a command by what its first word asks for and the bytes after that word: the spaces in a text count
unfoldable pub command_by : Verb → List ℕ → Result PlainCommand LineFault
command_by verb.Window rest = window_of (words rest)
command_by verb.Dpi rest = dpi_of (words rest)
command_by verb.Res rest = res_of rest
command_by verb.Inflate rest = inflate_of (words rest)
command_by verb.Add rest = add_of (words rest)
command_by verb.Remove rest = remove_of (words rest)
command_by (verb.Act act) rest = set_of act (words rest)
command_by verb.Text rest = set_text_of rest
command_by verb.Disallow rest = disallow_of (words rest)
command_by verb.Hook rest = hook_of (words rest)
command_by verb.Down rest = down_of (words rest)
command_by verb.Move rest = move_of (words rest)
command_by verb.Up rest = up_of (words rest)
command_by verb.Cancel rest = cancel_of (words rest)
command_by verb.Frame rest = frame_of (words rest)
command_by verb.Bounds rest = bounds_of (words rest)
command_by verb.Pixels rest = pixels_of (words rest)
command_by verb.Digest rest = digest_of (words rest)
command_by verb.Save rest = save_of (words rest)
command_by verb.Restore rest = restore_of (words rest)

-- a command by the first word of its line and the bytes after it
unfoldable pub command_in : List ℕ → List ℕ → Result PlainCommand LineFault
command_in head rest = known (verb_named head) >>= λ verb. command_by verb rest

-- the command of a line; bytes that are not valid UTF-8 give none
unfoldable pub command_of : List ℕ → Result PlainCommand LineFault
command_of line =
    if is_utf8 line then (word_in (words line) >>= λ head. command_in head.0 (after_word line)) else Err Syntax

-- the numbers of a command are within their bounds, and its texts are as a line may have them
abbrev pub IsInBounds : PlainCommand → Type 0
IsInBounds (Window w h) = IsWithin (pos 1) max_window w × IsWithin (pos 1) max_window h
IsInBounds (Dpi dpi) = (min_dpi ≤ dpi) × (dpi ≤ max_dpi)
IsInBounds (Res id value) = (0 < id) × IsGivenInBounds value
IsInBounds (Inflate name into) = IsTrue (is_file_name name)
IsInBounds (Add parent class width height) = IsExtent width × IsExtent height
IsInBounds (Remove view) = Unit {0}
IsInBounds (Act view act) = IsActInBounds act
IsInBounds (SetText view text) = IsTrue (has_escapes text)
IsInBounds (Disallow view on) = Unit {0}
IsInBounds (Hook view edits bad) = (length edits ≤ max_edits) × All (λ asked. IsChangeInBounds asked.change) edits
IsInBounds (Down p x y) = IsTouchInBounds p x y
IsInBounds (Move p x y) = IsTouchInBounds p x y
IsInBounds (Up p) = p ≤ max_pointer
IsInBounds Cancel = Unit {0}
IsInBounds Frame = Unit {0}
IsInBounds (Bounds view) = Unit {0}
IsInBounds (Pixels x y w h) = IsPart x y w h
IsInBounds Digest = Unit {0}
IsInBounds Save = Unit {0}
IsInBounds (Restore None) = Unit {0}
IsInBounds (Restore (Some text)) = IsTrue (is_state_text text)

-- the same of a command of the code
abbrev pub IsCommandInBounds : Command → Type 0
IsCommandInBounds command = IsInBounds (plain_command command)
