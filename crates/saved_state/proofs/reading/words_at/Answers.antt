use Rattle.std.proofs.Common.{◌≡◌, ◌≤◌, drop, take, length, subst, sym, ap, ◌∙◌, arith}
use Rattle.std.specs.Prelude.{IsUtf8}
use Rattle.saved_state.specs.State.{words_of}
use Rattle.saved_state.proofs.ReadingLaws.{words_fault, words_read}
use Rattle.saved_state.proofs.StateLaws.{reported_at}
use Rattle.saved_state.proofs.reading.words_at.Goals as goal

pub returns-in_ok-new-in-Ok-clause-value : goal.returns-in_ok-new-in-Ok-clause-value
returns-in_ok-new-in-Ok-clause-value c =
    let rest = drop c.args.place c.args.bytes.now in
    let there : c.args.count ≤ length rest = let a = ap length c.following-rest.ensures in let b = c.if-rest-count.false in let d = c.from-count.ensures in omega arith in
    let cut : take c.from-count.result c.following-rest.result.now ≡ take c.args.count rest =
    ap (λ n. take n c.following-rest.result.now) c.from-count.ensures ∙ ap (take c.args.count) c.following-rest.ensures in
    words_read c.args.count c.args.place rest c.in_ok-new-in-Ok.field-0 there (subst IsUtf8 cut c.in-Ok.ensures.cases.1) (c.in_ok-new-in-Ok.ensures ∙ c.in-Ok.ensures.cases.0 ∙ cut)

pub returns-in-Err-clause-value : goal.returns-in-Err-clause-value
returns-in-Err-clause-value c =
    let rest = drop c.args.place c.args.bytes.now in
    let there : c.args.count ≤ length rest = let a = ap length c.following-rest.ensures in let b = c.if-rest-count.false in let d = c.from-count.ensures in omega arith in
    let cut : take c.from-count.result c.following-rest.result.now ≡ take c.args.count rest =
    ap (λ n. take n c.following-rest.result.now) c.from-count.ensures ∙ ap (take c.args.count) c.following-rest.ensures in
    reported_at c.bad_state-in-Err.result (words_of c.args.count c.args.place rest) c.args.place
    (words_fault c.args.count c.args.place rest there (λ utf8. c.in-Err.ensures.cases.0 (subst IsUtf8 (sym cut) utf8))) c.bad_state-in-Err.ensures
