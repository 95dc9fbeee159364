-- What holds of a line by the command that it is read as.
use Rattle.std.proofs.Common.{◌≡◌, ◌≤◌, ◌∙◌, ℕ, List, ap, length, true}
use Rattle.std.specs.Prelude.{IfOk, IsTrue, Result, Ok, Err}
use Rattle.std.specs.Str.{is_utf8}
use Rattle.script_lines.specs.commands.PlainCommands.{PlainCommand, plain_command, text_length}
use Rattle.script_lines.specs.commands.Spelled.{HasLine, spelled}
use Rattle.script_lines.specs.commands.Written.{IsWritten}
use Rattle.script_lines.specs.cutting.Lines.{is_passed_over}
use Rattle.script_lines.specs.declared.commands.Command.{Command}
use Rattle.line_words.specs.declared.fault.LineFault.{LineFault}
use Rattle.line_words.specs.declared.fault.LineFault.TheVariants.{Syntax}
use Rattle.script_lines.specs.reading.Commands.{IsInBounds, command_of}
use Rattle.line_words.specs.words.Words.{map_ok}
use Rattle.line_words.proofs.texts.OkLaws.{map_ok-fault}
use Rattle.script_lines.proofs.readings.CommandLaws.{passed_over}
use Rattle.line_words.proofs.texts.OkLaws.{from_plain}
use Rattle.script_lines.proofs.readings.TextLengthLaws.{command_of-short}
use Rattle.script_lines.proofs.spelled.SpelledCommands.{command_of-spelled}
use Rattle.script_lines.proofs.written.ReadLines.{command_of-given}
use Rattle.script_lines.proofs.written.WrittenCommands.{command_of-written}

pub read_passed : (bytes : List ℕ) (read : Result Command LineFault) → map_ok plain_command read ≡ command_of bytes → is_passed_over bytes ≡ true → read ≡ Err Syntax
read_passed bytes read value passed = map_ok-fault plain_command read Syntax (value ∙ passed_over bytes passed)

pub read_short : (bytes : List ℕ) (read : Result Command LineFault) → map_ok plain_command read ≡ command_of bytes → IfOk read (λ command. text_length (plain_command command) ≤ length bytes)
read_short bytes read value = from_plain plain_command _ read (command_of bytes) value (command_of-short bytes)

pub read_written : (bytes : List ℕ) (read : Result Command LineFault) → map_ok plain_command read ≡ command_of bytes → IfOk read (λ command. IsWritten (plain_command command) bytes)
read_written bytes read value = from_plain plain_command _ read (command_of bytes) value (command_of-written bytes)

pub read_spelled : (bytes : List ℕ) (read : Result Command LineFault) → map_ok plain_command read ≡ command_of bytes → (command : PlainCommand) → IsInBounds command → HasLine command → bytes ≡ spelled command → map_ok plain_command read ≡ Ok command
read_spelled bytes read value command bounds has text = value ∙ ap command_of text ∙ command_of-spelled command bounds has

pub read_given : (bytes : List ℕ) (read : Result Command LineFault) → map_ok plain_command read ≡ command_of bytes → (command : PlainCommand) → IsInBounds command → IsWritten command bytes → IsTrue (is_utf8 bytes) → map_ok plain_command read ≡ Ok command
read_given bytes read value command bounds written utf8 = value ∙ command_of-given command bytes utf8 bounds written
