use Rattle.std.proofs.Common.{subst, sym}
use Rattle.vindaesk_c.proofs.LookupLaws.{word_from}
use Rattle.vindaesk_c.specs.Lookups.{IsWordOf}
use Rattle.vindaesk_c.proofs.words.id_word.Goals as goal

pub returns : goal.returns
returns c =
    word_from c.from_str.result c.args.id c.in-Ok.text.now c.from_str.ensures.ok
    (subst (λ bytes. IsWordOf c.args.id bytes) (sym c.in-Ok.ensures.cases.0) c.id_digits.ensures.word)

pub unreachable-requires : goal.unreachable-requires
unreachable-requires c = c.in-Err.ensures.cases.0 c.id_digits.ensures.text
