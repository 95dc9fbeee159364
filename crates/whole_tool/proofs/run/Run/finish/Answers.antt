use Rattle.std.proofs.Common.{◌≡◌, ◌∷◌, ◌++◌, []}
use Rattle.script_lines.specs.cutting.Lines.{Text, LongLine, cut_of, lines_of}
use Rattle.whole_tool.specs.Tally.{tally_from}
use Rattle.whole_tool.specs.Transcript.{after_from}
use Rattle.whole_tool.proofs.lines.RunLaws.{after_from-push, counted_short, last_none, last_one, lines_short}
use Rattle.whole_tool.proofs.costs.TallyLaws.{tally_from-push}
use Rattle.whole_tool.proofs.run.Run.finish.Goals as goal

pub returns-in-No-clause-done : goal.returns-in-No-clause-done
returns-in-No-clause-done g c start files first script reported short s =
    let e : lines_of script ≡ (cut_of script).lines = last_none script (rw c.in-No.is at (c.finish.ensures.lines script s.held)) in
    rw e (s.runner files reported)

pub returns-in-Line-clause-done : goal.returns-in-Line-clause-done
returns-in-Line-clause-done g c start files first script reported short s =
    let line = Text c.bytes.result.now in
    let before = (cut_of script).lines in
    let e : lines_of script ≡ before ++ line ∷ [] = last_one script line (rw (c.in-Line.is, ← c.bytes.ensures.line) at (c.finish.ensures.lines script s.held)) in
    rw (e, after_from-push start files before line, tally_from-push start files before line)
    (c.line.ensures.done files first (after_from start files before) (tally_from start files before) reported (counted_short start files script _ short) (s.runner files reported))

pub returns-in-Line-clause-stopped : goal.returns-in-Line-clause-stopped
returns-in-Line-clause-stopped g c start files first script reported short s =
    let line = Text c.bytes.result.now in
    let e : lines_of script ≡ (cut_of script).lines ++ line ∷ [] = last_one script line (rw (c.in-Line.is, ← c.bytes.ensures.line) at (c.finish.ensures.lines script s.held)) in
    rw e (c.line.ensures.stopped start files first (cut_of script).lines reported (lines_short script _ short) (s.runner files reported))

pub returns-in-Long-clause-done : goal.returns-in-Long-clause-done
returns-in-Long-clause-done g c start files first script reported short s =
    let before = (cut_of script).lines in
    let e : lines_of script ≡ before ++ LongLine ∷ [] = last_one script LongLine (rw c.in-Long.is at (c.finish.ensures.lines script s.held)) in
    rw (e, after_from-push start files before LongLine, tally_from-push start files before LongLine)
    (c.line-in-Long.ensures.done files first (after_from start files before) (tally_from start files before) reported (counted_short start files script _ short) (s.runner files reported))

pub returns-in-Long-clause-stopped : goal.returns-in-Long-clause-stopped
returns-in-Long-clause-stopped g c start files first script reported short s =
    let e : lines_of script ≡ (cut_of script).lines ++ LongLine ∷ [] = last_one script LongLine (rw c.in-Long.is at (c.finish.ensures.lines script s.held)) in
    rw e (c.line-in-Long.ensures.stopped start files first (cut_of script).lines reported (lines_short script _ short) (s.runner files reported))
