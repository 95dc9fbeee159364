use Rattle.std.proofs.lemmas.Result.{err_from_is_err_and}
use Rattle.arsc_reader.proofs.Loop.{leads_out, leads_to}
use Rattle.arsc_reader.proofs.reading.Reading.read_chunks.Goals as goal

pub returns-in_err-at : goal.returns-in_err-at
returns-in_err-at c =
    let p = err_from_is_err_and c.from_residual.result c.from_residual.ensures.1 in
    rw (p.1, p.2) (leads_out c.in_err-at.field-0.0 _ _ _ _ _ _ c.loop-at-test.true c.in_err-at.ensures.value c.loop-at.invariant.leads)

pub returns : goal.returns
returns c = leads_to _ _ _ _ _ _ c.loop-at-test.false c.loop-at.invariant.leads
