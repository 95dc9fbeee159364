use Rattle.std.proofs.Common.{◌+◌, drop}
use Rattle.std.proofs.lemmas.Result.{err_from_is_err_and}
use Rattle.saved_state.specs.State.{entry_of, kind_of, value_of}
use Rattle.saved_state.proofs.ReadingLaws.{entry_read, kind_fault, value_fault}
use Rattle.saved_state.proofs.StateLaws.{reported_on}
use Rattle.saved_state.proofs.reading.entry_at.Goals as goal

pub returns-in_err-kind-clause-value : goal.returns-in_err-kind-clause-value
returns-in_err-kind-clause-value c =
    let p = err_from_is_err_and c.from_residual-in_err-kind.result c.from_residual-in_err-kind.ensures.1 in
    let a = c.args in
    rw (p.1, p.2)
    (reported_on c.in_err-kind.field-0.0 (kind_of a.version (a.place + 4) (drop (a.place + 4) a.bytes.now)) (entry_of a.version a.before a.place (drop a.place a.bytes.now))
    (kind_fault a.version a.before a.place a.bytes.now c.in_ok-id.id c.in_ok-id.ensures.value) c.in_err-kind.ensures.value)

pub returns-in_err-value-clause-value : goal.returns-in_err-value-clause-value
returns-in_err-value-clause-value c =
    let p = err_from_is_err_and c.from_residual-in_err-value.result c.from_residual-in_err-value.ensures.1 in
    let a = c.args in
    rw (p.1, p.2)
    (reported_on c.in_err-value.field-0.0 (value_of c.in_ok-kind.kind (a.place + 5) (drop (a.place + 5) a.bytes.now)) (entry_of a.version a.before a.place (drop a.place a.bytes.now))
    (value_fault a.version a.before a.place a.bytes.now c.in_ok-id.id c.in_ok-id.ensures.value c.in_ok-kind.kind c.in_ok-kind.ensures.value) c.in_err-value.ensures.value)

pub returns-clause-value : goal.returns-clause-value
returns-clause-value c =
    let a = c.args in
    entry_read a.version a.before a.place a.bytes.now c.in_ok-id.id c.in_ok-id.ensures.value c.in_ok-kind.kind c.in_ok-kind.ensures.value c.in_ok-value.value c.in_ok-value.ensures.value
