use Rattle.std.proofs.Common.{ap, ◌∙◌}
use Rattle.whole_tool.specs.Carrier.{carried_of}
use Rattle.whole_tool.proofs.endings.EndLaws.{ends_with, runs_by_status, works_by_status}
use Rattle.whole_tool.proofs.whole.run.Goals as goal

pub returns-clause-runs : goal.returns-clause-runs
returns-clause-runs g c = runs_by_status (ap carried_of c.new-run.ensures.carrier ∙ c.alone.ensures.start) c.status.ensures c.run_to_end.ensures.runs

pub returns-clause-works : goal.returns-clause-works
returns-clause-works g c = works_by_status (ap carried_of c.new-run.ensures.carrier ∙ c.alone.ensures.start) c.status.ensures c.run_to_end.ensures.runs

pub returns-clause-ended : goal.returns-clause-ended
returns-clause-ended g c =
    let e = c.run_to_end.ensures in
    ends_with _ _ c.run_to_end.result _ c.status.ensures e.runs.end e.runs.taken e.runs.consumed e.runs.most e.source_failed e.sink_failed e.shelf_failed e.files_stay e.painted e.measured
