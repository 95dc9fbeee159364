use Rattle.std.proofs.Common.{ap, ◌∙◌}
use Rattle.line_words.specs.words.Escapes.{unescaped}
use Rattle.line_words.proofs.texts.EscapeLaws.{unescaped-escaped}
use Rattle.line_words.proofs.words.escapes.Unescaped.new.Goals as goal

pub returns-clause-written : goal.returns-clause-written
returns-clause-written c characters written = ap unescaped written ∙ unescaped-escaped characters
