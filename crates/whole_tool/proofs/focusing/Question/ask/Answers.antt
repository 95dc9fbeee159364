use Rattle.std.proofs.Common.{◌≡◌, ap, inl, ◌∙◌}
use Rattle.std.specs.Prelude.{Err}
use Rattle.std.proofs.lemmas.Result.{err_from_is_err_and}
use Rattle.tool_io.specs.Counts.{raised}
use Rattle.whole_tool.specs.Works.{trace}
use Rattle.whole_tool.proofs.FocusLaws.{asks_answered, asks_cut}
use Rattle.whole_tool.proofs.focusing.Question.ask.Goals as goal
use Rattle.whole_tool.specs.Carried.{world_in}
use Rattle.whole_tool.specs.Carrier.{carried_of}
use Rattle.whole_tool.specs.declared.carrier.Carrier.{Carrier}

pub returns-in_err-refused-clause-asks : goal.returns-in_err-refused-clause-asks
returns-in_err-refused-clause-asks g c =
    let p = err_from_is_err_and c.from_residual.result c.from_residual.ensures.1 in
    let e : c.from_residual.result ≡ Err c.in_err-refused.field-0.0 = p.1 ∙ ap Err p.2 in
    let runs = rw c.requires.start at c.in_err-refused.ensures.runs in
    rw e (record {
      asks = λ files script at_hand reported. inl (runs.runs files script at_hand reported);
      end = tt;
      taken = runs.taken;
      consumed = runs.consumed;
      most = runs.most;
    })

pub returns-in_err-refused-clause-source_failed : goal.returns-in_err-refused-clause-source_failed
returns-in_err-refused-clause-source_failed g c =
    let p = err_from_is_err_and c.from_residual.result c.from_residual.ensures.1 in
    let e : c.from_residual.result ≡ Err c.in_err-refused.field-0.0 = p.1 ∙ ap Err p.2 in
    rw e c.in_err-refused.ensures.source_failed

pub returns-in_err-refused-clause-sink_failed : goal.returns-in_err-refused-clause-sink_failed
returns-in_err-refused-clause-sink_failed g c =
    let p = err_from_is_err_and c.from_residual.result c.from_residual.ensures.1 in
    let e : c.from_residual.result ≡ Err c.in_err-refused.field-0.0 = p.1 ∙ ap Err p.2 in
    rw e c.in_err-refused.ensures.sink_failed

pub returns-in_err-refused-clause-shelf_failed : goal.returns-in_err-refused-clause-shelf_failed
returns-in_err-refused-clause-shelf_failed g c =
    let p = err_from_is_err_and c.from_residual.result c.from_residual.ensures.1 in
    let e : c.from_residual.result ≡ Err c.in_err-refused.field-0.0 = p.1 ∙ ap Err p.2 in
    rw e c.in_err-refused.ensures.shelf_failed

pub returns-in-Ok-clause-asks : goal.returns-in-Ok-clause-asks
returns-in-Ok-clause-asks g c =
    let runs = rw c.requires.start at c.in_ok-refused.ensures.runs in
    let made = rw c.requires.start at c.in_ok-refused.ensures.world in
    let first = trace (g.K.Sink.state c.args.sink.now) c.args.work.now (g.F.Shelf.fetches c.args.shelf.now) in
    let mid = trace (g.K.Sink.state c.run_to_end.new.sink) c.run_to_end.new.work (g.F.Shelf.fetches c.run_to_end.new.shelf) in
    let left = g.S.Source.left c.run_to_end.new.source in
    record {
      asks = λ files script at_hand reported.
          asks_answered files script c.args.self left first mid (g.K.Sink.state c.write_answer.new.sink).gone c.in_ok-refused.refused c.is_err-unanswered.result c.answer_in-answer.result (world_in (carried_of c.carrier.result.now))
          (runs.runs files script at_hand reported) (ap (λ (c : Carrier). world_in (carried_of c)) c.carrier.ensures ∙ ap world_in (made files script at_hand reported)) c.answer_in-answer.ensures.value c.is_err-unanswered.ensures.value c.in-Ok.ensures.whole;
      end = runs.end;
      taken = runs.taken;
      consumed = runs.consumed;
      most = runs.most;
    }

pub returns-in-Ok-clause-sink_failed : goal.returns-in-Ok-clause-sink_failed
returns-in-Ok-clause-sink_failed g c = c.in-Ok.ensures.counted ∙ c.in_ok-refused.ensures.sink_failed

pub returns-in-Err-clause-asks : goal.returns-in-Err-clause-asks
returns-in-Err-clause-asks g c =
    let runs = rw c.requires.start at c.in_ok-refused.ensures.runs in
    let made = rw c.requires.start at c.in_ok-refused.ensures.world in
    let first = trace (g.K.Sink.state c.args.sink.now) c.args.work.now (g.F.Shelf.fetches c.args.shelf.now) in
    let mid = trace (g.K.Sink.state c.run_to_end.new.sink) c.run_to_end.new.work (g.F.Shelf.fetches c.run_to_end.new.shelf) in
    let left = g.S.Source.left c.run_to_end.new.source in
    record {
      asks = λ files script at_hand reported.
          asks_cut files script c.args.self left first mid (g.K.Sink.state c.write_answer.new.sink).gone c.in_ok-refused.refused c.answer_in-answer.result (world_in (carried_of c.carrier.result.now))
          (runs.runs files script at_hand reported) (ap (λ (c : Carrier). world_in (carried_of c)) c.carrier.ensures ∙ ap world_in (made files script at_hand reported)) c.answer_in-answer.ensures.value c.in-Err.ensures.prefix;
      end = tt;
      taken = runs.taken;
      consumed = runs.consumed;
      most = runs.most;
    }

pub returns-in-Err-clause-sink_failed : goal.returns-in-Err-clause-sink_failed
returns-in-Err-clause-sink_failed g c = c.in-Err.ensures.counted ∙ ap raised c.in_ok-refused.ensures.sink_failed
