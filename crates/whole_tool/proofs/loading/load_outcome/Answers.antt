use Rattle.std.proofs.Common.{◌≡◌, [], ap, ◌∙◌}
use Rattle.std.proofs.lemmas.List.{append-nil}
use Rattle.script_lines.specs.cutting.Lines.{lines_of}
use Rattle.tool_io.specs.MemorySink.{ListedSink}
use Rattle.whole_tool.specs.Carried.{Alone}
use Rattle.world_parts.specs.World.{empty_world}
use Rattle.whole_tool.proofs.costs.CostLaws.{load_works, load_worth, works_none}
use Rattle.whole_tool.proofs.LoadLaws.{outcome_is}
use Rattle.whole_tool.proofs.loading.load_outcome.Goals as goal

pub returns-in-Ok-carried_out-clause-value : goal.returns-in-Ok-carried_out-clause-value
returns-in-Ok-carried_out-clause-value c =
    let empty : c.new-page.result.gone ≡ [] = ap (λ (sink : ListedSink). sink.gone) c.new-page.ensures in
    outcome_is c.args.n c.as_slice.result.now c.carried_out.new.page.gone _ _ c.in-Ok-carried_out.ensures.runs.0 _ c.in-Ok-carried_out.ensures.runs.2 (c.as_slice.ensures.value ∙ c.in-Ok.ensures.load)
    (rw empty at c.in-Ok-carried_out.ensures.runs.1)

pub returns-in-Ok-carried_out-clause-worth : goal.returns-in-Ok-carried_out-clause-worth
returns-in-Ok-carried_out-clause-worth c =
    load_worth c.args.n c.as_slice.result.now _ _ (c.as_slice.ensures.value ∙ c.in-Ok.ensures.load) c.in-Ok-carried_out.ensures.runs.1.tallied.worth

pub returns-in-Ok-carried_out-clause-works : goal.returns-in-Ok-carried_out-clause-works
returns-in-Ok-carried_out-clause-works c =
    load_works c.args.n c.as_slice.result.now _ _ (c.as_slice.ensures.value ∙ c.in-Ok.ensures.load)
    (record { done = lines_of c.as_slice.result.now; left = []; all = append-nil (lines_of c.as_slice.result.now); worth = c.in-Ok-carried_out.ensures.runs.1.tallied.worth })

pub returns-in_default-clause-works : goal.returns-in_default-clause-works
returns-in_default-clause-works c = works_none (Alone empty_world) [] _ _
