use Rattle.std.proofs.Common.{◌∙◌, sym}
use Rattle.std.proofs.lemmas.Str.{IsUtf8-from_ascii, is_utf8-from_IsUtf8}
use Rattle.line_words.proofs.texts.TextLaws.{is_ok-is_utf8}
use Rattle.line_words.proofs.words.is_text.Goals as goal

pub returns-then-is_ascii : goal.returns-then-is_ascii
returns-then-is_ascii c = c.if-is_ascii.true ∙ sym (is_utf8-from_IsUtf8 _ (IsUtf8-from_ascii _ c.if-is_ascii.ensures.cases))

pub returns-else-is_ascii : goal.returns-else-is_ascii
returns-else-is_ascii c = c.is_ok.ensures.value ∙ is_ok-is_utf8 c.from_utf8.result c.args.line.now _ _ c.from_utf8.ensures.cases
