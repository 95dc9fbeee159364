use Rattle.std.proofs.Common.{◌≡◌, ◌∙◌, List, ℕ, ap, refl, subst, sym}
use Rattle.std.specs.Prelude.{nat_lt}
use Rattle.script_lines.specs.cutting.Lines.{Line, line_of}
use Rattle.tool_io.specs.Fetched.{Files}
use Rattle.whole_tool.specs.Run.{HasCarriedOut}
use Rattle.whole_tool.specs.Session.{IsAnswered, after_script}
use Rattle.whole_tool.specs.Tally.{Tally, with_cost}
use Rattle.whole_tool.specs.Transcript.{after_line}
use Rattle.whole_tool.specs.Works.{Trace, trace}
use Rattle.whole_tool.specs.declared.run.LineRunner.{LineRunner}
use Rattle.view_world.specs.frames.Watched.{no_costs}
use Rattle.whole_tool.proofs.lines.SessionLaws.{answered_line, at_line, few_lines, ran_line, unwritten}
use Rattle.whole_tool.proofs.session.Session.line.Goals as goal

at_next : (files : Files) (script line : List ℕ) (first now : Trace) (runner : LineRunner) (tally : Tally) (l : Line) → l ≡ line_of line
    → HasCarriedOut first now runner (after_line files (unwritten (after_script files script)) l) (with_cost files tally l)
    → HasCarriedOut first now runner (after_line files (unwritten (after_script files script)) (line_of line)) (with_cost files tally (line_of line))
at_next files script line first now runner tally l same at =
    subst (λ (l : Line). HasCarriedOut first now runner (after_line files (unwritten (after_script files script)) l) (with_cost files tally l)) same at

pub returns-clause-run : goal.returns-clause-run
returns-clause-run g c files script reported has =
    let first = trace (g.K.Sink.state c.args.sink.now) (record { measured = 0; painted = 0 }) (g.F.Shelf.fetches c.args.shelf.now) in
    let now = trace (g.K.Sink.state c.line.new.sink) c.line.new.work (g.F.Shelf.fetches c.line.new.shelf) in
    let tally : Tally = record { watched = has.watching; costs = no_costs } in
    ran_line files script c.args.bytes.now c.args.self.now _ first now (with_cost files tally (line_of c.args.bytes.now)) c.requires.one c.requires.room refl has
    (at_next files script c.args.bytes.now first now c.line.new.self tally _ c.line_in.ensures.line
    (c.in_ok-line.ensures.done files first (unwritten (after_script files script)) tally reported (few_lines files script c.args.self.now has) (at_line files script c.args.self.now first has)))

pub returns-clause-answered : goal.returns-clause-answered
returns-clause-answered g c files script reported has =
    let first = trace (g.K.Sink.state c.args.sink.now) (record { measured = 0; painted = 0 }) (g.F.Shelf.fetches c.args.shelf.now) in
    let now = trace (g.K.Sink.state c.line.new.sink) c.line.new.work (g.F.Shelf.fetches c.line.new.shelf) in
    let tally : Tally = record { watched = has.watching; costs = no_costs } in
    let answered =
    answered_line files script c.args.bytes.now c.args.self.now c.line.new.self first now (with_cost files tally (line_of c.args.bytes.now)) c.requires.one has
    (at_next files script c.args.bytes.now first now c.line.new.self tally _ c.line_in.ensures.line
    (c.in_ok-line.ensures.done files first (unwritten (after_script files script)) tally reported (few_lines files script c.args.self.now has) (at_line files script c.args.self.now first has))) in
    subst (IsAnswered files script c.args.bytes.now (g.K.Sink.state c.args.sink.now).gone (g.K.Sink.state c.line.new.sink).gone)
    (ap (λ n. nat_lt n c.line.new.self.refused) (sym c.refused-before.ensures) ∙ ap (nat_lt c.refused-before.result) (sym c.refused.ensures)) answered
