use Rattle.std.proofs.Common.{arith, ◌≡◌, ◌++◌, List, ℕ, sym, ap, ◌∙◌}
use Rattle.std.specs.Prelude.{Err}
use Rattle.std.proofs.lemmas.Result.{err_from_is_err_and}
use Rattle.script_lines.specs.cutting.LineBuffer.{lines_at}
use Rattle.script_lines.specs.cutting.Lines.{Line, cut_of}
use Rattle.whole_tool.specs.Run.{line_now}
use Rattle.whole_tool.specs.Tally.{tally_from}
use Rattle.whole_tool.specs.Transcript.{after_from}
use Rattle.whole_tool.proofs.lines.RunLaws.{after_more, after_passed, after_same, counted_short, front_short, lines_short, passed_few, stops_in_piece}
use Rattle.whole_tool.proofs.run.Run.take.Goals as goal

pub returns-then-passed-gt0-clause-done : goal.returns-then-passed-gt0-clause-done
returns-then-passed-gt0-clause-done g c start first before short s =
    after_passed start _ first _ c.args.self.now.lines c.args.self.now.runner before _ c.saturating_add-self.result c.passed_over-passed.result.lines s.runner
    (λ files reported. omega (arith, c.saturating_add-self.ensures, (s.runner files reported).lines, passed_few start files before c.args.piece.now c.passed_over-passed.result.bytes c.passed_over-passed.result.lines _ short c.passed_over-passed.ensures.passed))
    (c.passed_over-passed.ensures.reached before s.held) (c.passed_over-passed.ensures.lines before s.held) c.passed_over-passed.ensures.passed

pub returns-in_default-clause-done : goal.returns-in_default-clause-done
returns-in_default-clause-done g c start first before short s =
    let place = c.next_line-used.result.1 in
    let piece = c.args.piece.now in
    let none = rw c.in_default.is at c.ended_line.ensures.line in
    after_same start _ first _ c.next_line-used.new.self c.args.self.now.runner before _ s.runner (c.next_line-used.ensures.reached before s.held)
    (c.next_line-used.ensures.lines before s.held ∙ ap (λ (held : List ℕ). (cut_of before).lines ++ lines_at place piece held) (sym c.bytes.ensures.line)
    ∙ ap (λ (lines : List Line). (cut_of before).lines ++ lines) (sym none))

pub returns-clause-done : goal.returns-clause-done
returns-clause-done g c start first before short s =
    let place = c.next_line-used.result.1 in
    let piece = c.args.piece.now in
    let line = line_now c.in-Some.line in
    let one = rw c.in-Some.is at c.ended_line.ensures.line in
    after_more start _ first _ c.next_line-used.new.self c.line.new.self before _ line
    (λ files reported. c.in_ok-line.ensures.done files first (after_from start files (cut_of before).lines) (tally_from start files (cut_of before).lines) reported (counted_short start files before _ (front_short before piece _ short)) (s.runner files reported)) (c.next_line-used.ensures.reached before s.held)
    (c.next_line-used.ensures.lines before s.held ∙ ap (λ (held : List ℕ). (cut_of before).lines ++ lines_at place piece held) (sym c.bytes.ensures.line)
    ∙ ap (λ (lines : List Line). (cut_of before).lines ++ lines) (sym one))

pub returns-in_err-line-clause-stopped : goal.returns-in_err-line-clause-stopped
returns-in_err-line-clause-stopped g c start first before short s =
    let p = err_from_is_err_and c.from_residual.result c.from_residual.ensures.1 in
    let e : c.from_residual.result ≡ Err c.in_err-line.field-0.0 = cc (p.1, p.2) in
    let place = c.next_line-used.result.1 in
    let piece = c.args.piece.now in
    let line = line_now c.in-Some.line in
    let one = rw c.in-Some.is at c.ended_line.ensures.line in
    rw e
    (λ files reported. stops_in_piece start files first _ before piece c.next_line-used.result.0 line c.in_err-line.field-0.0
    (c.next_line-used.ensures.lines before s.held ∙ ap (λ (held : List ℕ). (cut_of before).lines ++ lines_at place piece held) (sym c.bytes.ensures.line)
    ∙ ap (λ (lines : List Line). (cut_of before).lines ++ lines) (sym one))
    (c.in_err-line.ensures.stopped start files first (cut_of before).lines reported (lines_short before _ short) (s.runner files reported)))
