-- The results of a load.
use Rattle.std.proofs.Common.{◌≡◌, ℕ, List, [], refl}
use Rattle.std.specs.Prelude.{Some}
use Rattle.load_maker.specs.Load.{load}
use Rattle.script_lines.specs.cutting.Lines.{lines_of}
use Rattle.sha2.specs.Sha256.{sha256}
use Rattle.tool_io.specs.Fetches.{Unseen}
use Rattle.view_model.specs.declared.work.Work.{Work}
use Rattle.whole_tool.specs.declared.loading.Outcome.{Outcome}
use Rattle.whole_tool.specs.declared.run.LineRunner.{LineRunner}
use Rattle.whole_tool.specs.Carried.{Alone}
use Rattle.whole_tool.specs.Gen.{gen_outcome}
use Rattle.whole_tool.specs.Run.{HasCarriedOut}
use Rattle.whole_tool.specs.Tally.{tally_from}
use Rattle.whole_tool.specs.Transcript.{after_lines}
use Rattle.world_parts.specs.World.{empty_world}

pub outcome_is : (n : ℕ) (script page : List ℕ) (old new : Work) (runner : LineRunner) (outcome : Outcome) → outcome ≡ record { lines = runner.lines; refused = runner.refused; digest = sha256 page } → script ≡ load n
    → HasCarriedOut (record { gone = Some []; work = old; fetches = Unseen }) (record { gone = Some page; work = new; fetches = Unseen }) runner (after_lines [] (lines_of script)) (tally_from (Alone empty_world) [] (lines_of script)) → outcome ≡ gen_outcome n
unfolding gen_outcome
outcome_is n script page old new runner outcome value made at = rw (value, at.lines, at.refused, at.gone, made) refl
