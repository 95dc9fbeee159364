use Rattle.std.proofs.Common.{◌∙◌}
use Rattle.line_words.proofs.texts.TextLaws.{is_ok-is_utf8}
use Rattle.line_words.proofs.words.is_short_text.Goals as goal

pub returns-else-few_ascii : goal.returns-else-few_ascii
returns-else-few_ascii c = c.is_ok.ensures.value ∙ is_ok-is_utf8 c.from_utf8.result c.args.line.now _ _ c.from_utf8.ensures.cases
