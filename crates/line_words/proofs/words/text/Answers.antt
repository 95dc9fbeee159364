use Rattle.std.proofs.Common.{Ok, ap, refl}
use Rattle.std.proofs.lemmas.Str.{is_utf8-from_IsUtf8}
use Rattle.line_words.specs.words.Words.{text_of}
use Rattle.line_words.proofs.texts.TextLaws.{not_utf8}
use Rattle.line_words.proofs.words.text.Goals as goal

pub returns-in-Ok-clause-value : goal.returns-in-Ok-clause-value
unfolding text_of
returns-in-Ok-clause-value c = rw (is_utf8-from_IsUtf8 _ c.in-Ok.ensures.cases.1) (ap Ok c.in-Ok.ensures.cases.0)

pub returns-in-Err-clause-value : goal.returns-in-Err-clause-value
unfolding text_of
returns-in-Err-clause-value c = rw (not_utf8 _ c.in-Err.ensures.cases.0) refl
