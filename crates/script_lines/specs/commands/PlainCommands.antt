-- Commands with the bytes of their texts, in place of the code's references to them.
use Rattle.std.specs.Prelude.{ℕ, ℤ, Bool, List, length, Option, Some, None}
use Rattle.geom_core.specs.declared.color.Argb.{Argb}
use Rattle.view_model.specs.declared.changes.Act.{Act as ViewAct}
use Rattle.view_model.specs.declared.class.Class.{Class}
use Rattle.script_lines.specs.declared.commands.Asked.{Asked}
use Rattle.script_lines.specs.declared.commands.Command.{Command}
use Rattle.script_lines.specs.declared.commands.Command.TheVariants as command
use Rattle.script_lines.specs.declared.commands.Given.{Given}
use Rattle.script_lines.specs.declared.commands.Given.TheVariants as given
use Rattle.line_words.specs.declared.words.naming.Name.{Name}
use Rattle.script_lines.specs.reading.Hooks.{edits_written}

-- what a line gives a resource: a colour, the word of a dimension, or a text with its escapes as written
pub data PlainGiven : Type 0 where
  Color : (color : Argb) → PlainGiven
  Dimen : (word : ℕ) → PlainGiven
  Text : (text : List ℕ) → PlainGiven

-- what a line asks for
pub data PlainCommand : Type 0 where
  Window : (w h : ℤ) → PlainCommand
  Dpi : (dpi : ℕ) → PlainCommand
  Res : (id : ℕ) (value : PlainGiven) → PlainCommand
  Inflate : (name : List ℕ) (into : Option Name) → PlainCommand
  Add : (parent : Option Name) (class : Class) (width height : ℤ) → PlainCommand
  Remove : (view : Name) → PlainCommand
  Act : (view : Name) (act : ViewAct) → PlainCommand
  SetText : (view : Name) (text : List ℕ) → PlainCommand
  Disallow : (view : Name) (on : Bool) → PlainCommand
  Hook : (view : Name) (edits : List Asked) (bad : Bool) → PlainCommand
  Down : (p : ℕ) (x y : ℤ) → PlainCommand
  Move : (p : ℕ) (x y : ℤ) → PlainCommand
  Up : (p : ℕ) → PlainCommand
  Cancel : PlainCommand
  Frame : PlainCommand
  Bounds : (view : Option Name) → PlainCommand
  Pixels : (x y w h : ℤ) → PlainCommand
  Digest : PlainCommand
  Save : PlainCommand
  Restore : (text : Option (List ℕ)) → PlainCommand

abbrev pub plain_given : Given → PlainGiven
plain_given (given.Color color) = Color color
plain_given (given.Dimen word) = Dimen word
plain_given (given.Text text) = Text text.now

abbrev pub plain_command : Command → PlainCommand
plain_command (command.Window w h) = Window w h
plain_command (command.Dpi dpi) = Dpi dpi
plain_command (command.Res id value) = Res id (plain_given value)
plain_command (command.Inflate name into) = Inflate name.now into
plain_command (command.Add parent class width height) = Add parent class width height
plain_command (command.Remove view) = Remove view
plain_command (command.Act view act) = Act view act
plain_command (command.Text view text) = SetText view text.now
plain_command (command.Disallow view on) = Disallow view on
plain_command (command.Hook view edits bad) = Hook view (edits_written edits.now) bad
plain_command (command.Down p x y) = Down p x y
plain_command (command.Move p x y) = Move p x y
plain_command (command.Up p) = Up p
plain_command command.Cancel = Cancel
plain_command command.Frame = Frame
plain_command (command.Bounds view) = Bounds view
plain_command (command.Pixels x y w h) = Pixels x y w h
plain_command command.Digest = Digest
plain_command command.Save = Save
plain_command (command.Restore None) = Restore None
plain_command (command.Restore (Some text)) = Restore (Some text.now)

-- how many bytes the text of a value has
abbrev pub given_text_length : PlainGiven → ℕ
given_text_length (Color color) = 0
given_text_length (Dimen word) = 0
given_text_length (Text text) = length text

-- how many bytes the text of a command has
abbrev pub text_length : PlainCommand → ℕ
text_length (Window w h) = 0
text_length (Dpi dpi) = 0
text_length (Res id value) = given_text_length value
text_length (Inflate name into) = 0
text_length (Add parent class width height) = 0
text_length (Remove view) = 0
text_length (Act view act) = 0
text_length (SetText view text) = length text
text_length (Disallow view on) = 0
text_length (Hook view edits bad) = 0
text_length (Down p x y) = 0
text_length (Move p x y) = 0
text_length (Up p) = 0
text_length Cancel = 0
text_length Frame = 0
text_length (Bounds view) = 0
text_length (Pixels x y w h) = 0
text_length Digest = 0
text_length Save = 0
text_length (Restore None) = 0
text_length (Restore (Some text)) = length text
