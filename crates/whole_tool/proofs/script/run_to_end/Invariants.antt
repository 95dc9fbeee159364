use Rattle.std.proofs.Common.{◌≡◌, ◌≤◌, ◌+◌, ◌-◌, ◌*◌, ◌^◌, min}
use Rattle.view_model.specs.declared.limits.TheConstants.{MAX_VIEWS}
use Rattle.whole_tool.specs.Carrier.{carried_of, next_of}
use Rattle.whole_tool.specs.Works.{trace}
use Rattle.whole_tool.specs.Transcript.{max_script}
use Rattle.whole_tool.proofs.lines.ScriptLaws.{HasTakenBytes}
use Rattle.whole_tool.proofs.script.run_to_end.Given as goal

-- the run is after the bytes that were taken, and no call has failed
abbrev pub invariant-loop-n : goal.invariant-loop-n
invariant-loop-n g l = record {
  bound : l.left ≤ max_script;
  numbers : next_of l.run.runner.carrier + MAX_VIEWS * l.left ≤ MAX_VIEWS * max_script + 1;
  taken : HasTakenBytes (carried_of l.fn.run.runner.carrier) (g.F.Shelf.files l.shelf) (g.S.Source.left l.fn.source) (g.S.Source.left l.source) (trace (g.K.Sink.state l.fn.sink) l.fn.work (g.F.Shelf.fetches l.fn.shelf)) (trace (g.K.Sink.state l.sink) l.work (g.F.Shelf.fetches l.shelf)) l.run l.left;
  files : g.F.Shelf.files l.shelf ≡ g.F.Shelf.files l.fn.shelf;
  fetches : g.F.Shelf.faults l.shelf ≡ g.F.Shelf.faults l.fn.shelf;
  painted : l.fn.work.painted ≤ l.work.painted;
  measured : min l.fn.work.measured (2 ^ 64 - 1) ≤ l.work.measured;
  reads : g.S.Source.faults l.source ≡ g.S.Source.faults l.fn.source;
  writes : (g.K.Sink.state l.sink).faults ≡ (g.K.Sink.state l.fn.sink).faults;
}

abbrev pub decreases-loop-n : goal.decreases-loop-n
decreases-loop-n g l = l.left
