use Rattle.std.proofs.lemmas.Result.{err_from_is_err_and}
use Rattle.axml_chunks.proofs.Runs.{upto_stops}
use Rattle.axml_chunks.proofs.pool.gather.Goals as goal

pub returns-in_err-add_text-clause-value : goal.returns-in_err-add_text-clause-value
returns-in_err-add_text-clause-value c =
    let p = err_from_is_err_and c.from_residual-in_err-add_text.result c.from_residual-in_err-add_text.ensures.1 in
    rw (p.1, p.2) (upto_stops c.in_err-add_text.field-0.0 _ _ _ _ _ c.loop-k-test.true c.loop-k.invariant.texts c.in_err-add_text.ensures.value)
