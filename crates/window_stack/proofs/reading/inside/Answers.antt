use Rattle.std.proofs.Common.{ap, length, arith}
use Rattle.line_words.proofs.texts.LengthLaws.{after_word-short}
use Rattle.window_stack.proofs.reading.inside.Goals as goal

pub returns-clause-short : goal.returns-clause-short
returns-clause-short c =
    let rest = after_word-short c.args.bytes.now in
    let same = ap length c.in_ok-name.ensures.rest in
    let short = c.in_ok-command.ensures.short in
    omega arith
