use Rattle.std.proofs.Common.{refl, sym, ◌∙◌}
use Rattle.line_words.proofs.texts.FileNameLaws.{file_name_text}
use Rattle.line_words.proofs.words.file_name.read_file_name.Goals as goal

pub returns : goal.returns
returns c =
    let named = sym c.is_file_name.ensures ∙ c.if-not-is_file_name.false in
    c.text.ensures.value ∙ file_name_text c.args.word.now named ∙ rw named refl
