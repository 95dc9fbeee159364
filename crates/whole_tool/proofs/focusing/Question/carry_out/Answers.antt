use Rattle.std.proofs.Common.{ap, sym, subst, ◌∙◌}
use Rattle.whole_tool.specs.Carrier.{carried_of}
use Rattle.whole_tool.specs.Focus.{AsksWith}
use Rattle.whole_tool.specs.Works.{trace}
use Rattle.whole_tool.proofs.endings.EndLaws.{ends_with}
use Rattle.whole_tool.proofs.FocusLaws.{asks_with}
use Rattle.whole_tool.proofs.focusing.Question.carry_out.Goals as goal

pub returns-clause-asks : goal.returns-clause-asks
returns-clause-asks g c files script at_hand reported =
    let first = trace (g.K.Sink.state c.args.sink.now) c.args.work.now (g.F.Shelf.fetches c.args.shelf.now) in
    let last = trace (g.K.Sink.state c.ask.new.sink) c.ask.new.work (g.F.Shelf.fetches c.ask.new.shelf) in
    subst (AsksWith files script c.args.self (g.S.Source.left c.ask.new.source) first last) (sym c.status.ensures)
    (asks_with files script c.args.self _ first last c.ask.result (c.ask.ensures.asks.asks files script at_hand reported))

pub ask-requires-clause-start : goal.ask-requires-clause-start
ask-requires-clause-start g c = ap carried_of c.new-run.ensures.carrier ∙ c.alone.ensures.start

pub returns-clause-ended : goal.returns-clause-ended
returns-clause-ended g c =
    let e = c.ask.ensures in
    ends_with _ _ c.ask.result _ c.status.ensures e.asks.end e.asks.taken e.asks.consumed e.asks.most e.source_failed e.sink_failed e.shelf_failed e.files_stay e.painted e.measured
