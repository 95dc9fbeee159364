use Rattle.std.proofs.Common.{sym, ◌∙◌, arith}
use Rattle.line_words.proofs.texts.BarLaws.{words_go_on}
use Rattle.line_words.proofs.words.gravity.+add_words.Goals as goal

pub returns : goal.returns
returns t c =
    c.add_words.ensures
    ∙ words_go_on c.args.gravity c.in_ok-more.more c.args.words.now c.offset_of-len.result c.offset_of-len.ensures.place (omega (arith, c.offset_of-len.ensures.within)) (sym c.add_word.ensures ∙ c.in_ok-more.was)
