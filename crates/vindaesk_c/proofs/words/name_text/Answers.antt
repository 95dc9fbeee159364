use Rattle.std.proofs.lemmas.Str.{IsUtf8-from_ascii}
use Rattle.line_words.proofs.spelled.SpelledWords.{ascii}
use Rattle.line_words.proofs.texts.FileNameLaws.{file_name_word}
use Rattle.vindaesk_c.proofs.words.name_text.Goals as goal

-- the name of a file is ASCII
pub unreachable-requires : goal.unreachable-requires
unreachable-requires c =
    c.in-Err.ensures.cases.0 (IsUtf8-from_ascii c.args.name.now (ascii c.args.name.now (file_name_word c.args.name.now c.requires).graphic))
