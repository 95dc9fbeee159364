use Rattle.std.proofs.Common.{◌≤◌, ℕ, List, Result, drop, length, subst, ap, ◌∙◌, arith}
use Rattle.byteorder.specs.Endian.{little_number}
use Rattle.saved_state.specs.Answers.{ReadAs}
use Rattle.saved_state.proofs.ReadingLaws.{length_read}
use Rattle.saved_state.proofs.reading.text_at.Goals as goal

pub returns-clause-value : goal.returns-clause-value
returns-clause-value c =
    let rest = c.following-rest.ensures in
    let there : 2 ≤ length (drop c.args.place c.args.bytes.now) = let same = ap length rest in let long = c.if-rest-lt2.false in omega arith in
    subst (λ (read : Result (List ℕ) ℕ). ReadAs read c.words_at.result) (length_read c.args.place c.read_u16-count.result c.args.bytes.now there (c.read_u16-count.ensures ∙ ap (little_number 2) rest))
    c.words_at.ensures.value
