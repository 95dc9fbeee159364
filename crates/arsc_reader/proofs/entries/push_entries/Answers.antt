use Rattle.std.proofs.Common.{◌∙◌}
use Rattle.std.proofs.lemmas.Result.{err_from_is_err_and}
use Rattle.axml_chunks.proofs.Runs.{upto_more, upto_none, upto_stops}
use Rattle.arsc_reader.proofs.entries.push_entries.Goals as goal

pub loop-k-init : goal.loop-k-init
loop-k-init c = upto_none _ _

pub returns-in_err-push_entry : goal.returns-in_err-push_entry
returns-in_err-push_entry c =
    let p = err_from_is_err_and c.from_residual.result c.from_residual.ensures.1 in
    rw (p.1, p.2) (upto_stops c.in_err-push_entry.field-0.0 _ _ _ _ _ c.loop-k-test.true c.loop-k.invariant c.in_err-push_entry.ensures)

pub loop-k-preserved : goal.loop-k-preserved
loop-k-preserved c = upto_more _ _ _ _ c.loop-k.invariant ∙ c.in_ok-push_entry.ensures
