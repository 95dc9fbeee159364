use Rattle.std.proofs.Common.{ℕ, ◌+◌, ◌-◌, ◌∷◌, ◌++◌, [], Fits, List, arith, ap, sym, ◌∙◌, drop, w16}
use Rattle.std.proofs.lemmas.Result.{err_from_is_err_and}
use Rattle.saved_state.specs.State.{StateEntry, entries_of, entry_of}
use Rattle.saved_state.proofs.FoundLaws.{state_read}
use Rattle.saved_state.proofs.StateLaws.{ahead, read_fault, read_more, read_over, reported_at, reported_on}
use Rattle.saved_state.proofs.reading.entries_of.Goals as goal

pub returns-in_err-entry-clause-read : goal.returns-in_err-entry-clause-read
returns-in_err-entry-clause-read c =
    let p = err_from_is_err_and c.from_residual.result c.from_residual.ensures.1 in
    rw (p.1, p.2)
    (reported_on c.in_err-entry.field-0.0 (entry_of c.args.version c.loop.before c.loop.place (drop c.loop.place c.args.bytes.now)) (entries_of c.args.version c.args.count 0 5 (drop 5 c.args.bytes.now))
    (λ wrong is.
    sym c.loop.invariant.rest
    ∙ read_fault c.args.version c.loop.entries.items c.loop.before c.loop.place c.args.bytes.now c.args.count c.loop.counter c.loop-test.true wrong is)
    c.in_err-entry.ensures.value)

pub loop-preserved : goal.loop-preserved
loop-preserved c =
    let there = c.in_ok-entry.ensures.there in
    let size = c.entry_bytes-place.ensures.value in
    let done = c.loop.entries.items in
    let entry = c.in_ok-entry.entry in
    let items = c.in_ok-push.ensures.items in
    let left = λ (done : List StateEntry) (place : ℕ). ahead done (entries_of c.args.version (c.args.count - (c.loop.counter + 1)) entry.0 place (drop place c.args.bytes.now)) in
    record {
      within = omega arith;
      rest =
          ap (λ (done : List StateEntry). left done (c.loop.place + c.entry_bytes-place.result)) items
          ∙ ap (λ (size : ℕ). left (done ++ entry ∷ []) (c.loop.place + size)) size
          ∙ sym (read_more c.args.version done c.loop.before c.loop.place c.args.bytes.now c.args.count c.loop.counter c.loop-test.true entry c.in_ok-entry.ensures.value)
          ∙ c.loop.invariant.rest;
    }

pub returns-then-place-bytes-clause-read : goal.returns-then-place-bytes-clause-read
returns-then-place-bytes-clause-read c =
    reported_at c.bad_state.result (entries_of c.args.version c.args.count 0 5 (drop 5 c.args.bytes.now)) c.loop.place
    (sym c.loop.invariant.rest
    ∙ read_over c.args.version c.loop.entries.items c.loop.before c.loop.place c.args.bytes.now c.args.count c.loop.counter (omega (arith, c.loop-test.false)) (omega arith))
    c.bad_state.ensures

pub invariant_of-result : goal.invariant_of-result
invariant_of-result c =
    let range : Fits w16 c.args.count = c.ranges.count in
    state_read c.args.version c.args.count c.loop.before c.loop.place c.loop.counter c.args.bytes.now c.loop.entries.items (λ i. omega (arith, c.type_inv.bytes i)) (omega arith)
    (omega (arith, c.loop-test.false)) (omega arith) c.loop.invariant.rest

pub returns-clause-state : goal.returns-clause-state
returns-clause-state c =
    let range : Fits w16 c.args.count = c.ranges.count in
    state_read c.args.version c.args.count c.loop.before c.loop.place c.loop.counter c.args.bytes.now c.loop.entries.items (λ i. omega (arith, c.type_inv.bytes i)) (omega arith)
    (omega (arith, c.loop-test.false)) (omega arith) c.loop.invariant.rest
