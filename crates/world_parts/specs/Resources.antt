-- The resources that lines give.
use Rattle.std.specs.Prelude.{chars}
use Rattle.script_lines.specs.commands.PlainCommands.{PlainGiven}
use Rattle.script_lines.specs.commands.PlainCommands as command
use Rattle.line_words.specs.words.Escapes.{unescaped}
use Rattle.view_model.specs.Resources.{Resource, Color, Dimen, Text}

-- the resource that a line gives
abbrev pub resource_given : PlainGiven → Resource
resource_given (command.Color color) = Color color
resource_given (command.Dimen word) = Dimen word
resource_given (command.Text text) = Text (unescaped (chars text))
