use Rattle.std.proofs.Common.{arith, ap, subst, sym, ◌∙◌, Option, List, ℕ}
use Rattle.std.specs.Io.KnownBytes.{Appends}
use Rattle.std.specs.Prelude.{Err}
use Rattle.text_lines.specs.Prefix.{AppendsPrefix}
use Rattle.view_model.specs.Refusals.{plain_refusal}
use Rattle.tool_replies.specs.Refusals.{refused_line}
use Rattle.whole_tool.specs.Run.{line_now}
use Rattle.whole_tool.specs.Works.{trace}
use Rattle.whole_tool.specs.Tally.{tally_from}
use Rattle.whole_tool.proofs.lines.RunLaws.{after_from-lines, carried_refused, carried_sink, done_at, done_part, not_done, not_done_fetch, not_done_memory, passed_line, refused_at, refused_part, works_before, works_to_fetch}
use Rattle.whole_tool.proofs.costs.TallyLaws.{is_done_sink}
use Rattle.whole_tool.proofs.run.LineRunner.line.Goals as goal

pub returns-then-is_passed-clause-done : goal.returns-then-is_passed-clause-done
returns-then-is_passed-clause-done g c files first progress tally reported short at =
    passed_line files first (trace (g.K.Sink.state c.args.sink.now) c.args.work.now (g.F.Shelf.fetches c.args.shelf.now)) c.args.self.now progress tally (line_now c.args.line) c.saturating_add-self.result (sym c.is_passed.ensures ∙ c.if-is_passed.true) (omega (arith, c.saturating_add-self.ensures, at.lines, short)) at

pub returns-in-Ok-clause-done : goal.returns-in-Ok-clause-done
returns-in-Ok-clause-done g c files first progress tally reported short at =
    let carried = c.in-Ok.ensures.carried files reported in
    done_at files first (trace (g.K.Sink.state c.args.sink.now) c.args.work.now (g.F.Shelf.fetches c.args.shelf.now)) (trace (g.K.Sink.state c.carry_out.new.sink) c.carry_out.new.work (g.F.Shelf.fetches c.carry_out.new.shelf)) c.args.self.now c.carry_out.new.self progress tally (line_now c.args.line) c.saturating_add-self.result carried.0
    at carried.1 (omega (arith, c.saturating_add-self.ensures, at.lines, short)) carried.2 (c.in-Ok.ensures.tallied files tally first.work reported at.tallied tt) c.carry_out.ensures.fetched

pub returns-in-Ok-write_refusal-clause-done : goal.returns-in-Ok-write_refusal-clause-done
returns-in-Ok-write_refusal-clause-done g c files first progress tally reported short at =
    let refusal = c.in-Err-Refused.refusal in
    let same = not_done c.in-Err-Refused.field-0 refusal c.in-Err-Refused.field-0-is c.in-Err-Refused.ensures.unchanged in
    let idle = not_done c.in-Err-Refused.field-0 refusal c.in-Err-Refused.field-0-is c.in-Err-Refused.ensures.idle in
    let reported_of =
    subst (λ (gone : Option (List ℕ)). Appends gone (g.K.Sink.state c.write_refusal.new.sink).gone (refused_line c.saturating_add-self.result (plain_refusal refusal)))
    (ap (λ sink. (g.K.Sink.state sink).gone) same.1) c.in-Ok-write_refusal.ensures.whole in
    refused_at files first (trace (g.K.Sink.state c.args.sink.now) c.args.work.now (g.F.Shelf.fetches c.args.shelf.now)) (trace (g.K.Sink.state c.write_refusal.new.sink) c.carry_out.new.work (g.F.Shelf.fetches c.carry_out.new.shelf)) c.args.self.now c.carry_out.new.self c.write_refusal.new.reply progress tally (line_now c.args.line)
    c.saturating_add-self.result c.saturating_add-self-in-Err-Refused.result (plain_refusal refusal) at same.0 idle c.carry_out.ensures.fetched
    (carried_refused _ _ _ _ c.in-Err-Refused.field-0 refusal c.in-Err-Refused.field-0-is (c.in-Err-Refused.ensures.carried files reported)) (omega (arith, c.saturating_add-self.ensures, at.lines, short))
    (omega (arith, c.saturating_add-self-in-Err-Refused.ensures, at.refused, at.few, short)) reported_of

pub returns-in-Err-NoMemory-clause-done : goal.returns-in-Err-NoMemory-clause-done
returns-in-Err-NoMemory-clause-done g c files first progress tally reported short at = tt

pub returns-in-Err-Refused-clause-stopped : goal.returns-in-Err-Refused-clause-stopped
returns-in-Err-Refused-clause-stopped g c start files first lines reported short at =
    let refusal = c.in-Err-Refused.refusal in
    let same = not_done c.in-Err-Refused.field-0 refusal c.in-Err-Refused.field-0-is c.in-Err-Refused.ensures.unchanged in
    let idle = not_done c.in-Err-Refused.field-0 refusal c.in-Err-Refused.field-0-is c.in-Err-Refused.ensures.idle in
    let part =
    subst (λ (gone : Option (List ℕ)). AppendsPrefix gone (g.K.Sink.state c.write_refusal.new.sink).gone (refused_line c.saturating_add-self.result (plain_refusal refusal)))
    (ap (λ sink. (g.K.Sink.state sink).gone) same.1) c.in-Err.ensures.prefix in
    refused_part start files first (trace (g.K.Sink.state c.args.sink.now) c.args.work.now (g.F.Shelf.fetches c.args.shelf.now)) (trace (g.K.Sink.state c.write_refusal.new.sink) c.carry_out.new.work (g.F.Shelf.fetches c.carry_out.new.shelf)) c.args.self.now lines (line_now c.args.line) c.saturating_add-self.result (plain_refusal refusal) at
    (carried_refused _ _ _ _ c.in-Err-Refused.field-0 refusal c.in-Err-Refused.field-0-is (c.in-Err-Refused.ensures.carried files reported))
    (omega (arith, c.saturating_add-self.ensures, at.lines, after_from-lines start files lines, short)) idle c.carry_out.ensures.fetched part

pub returns-in-Err-Sink-clause-stopped : goal.returns-in-Err-Sink-clause-stopped
returns-in-Err-Sink-clause-stopped g c start files first lines reported short at =
    let carried = carried_sink _ _ _ _ c.in-Err-Sink.field-0 c.in-Err-Sink.field-0-is (c.in-Err-Sink.ensures.carried files reported) in
    done_part start files first (trace (g.K.Sink.state c.args.sink.now) c.args.work.now (g.F.Shelf.fetches c.args.shelf.now)) (trace (g.K.Sink.state c.carry_out.new.sink) c.carry_out.new.work (g.F.Shelf.fetches c.carry_out.new.shelf)) c.args.self.now lines (line_now c.args.line) c.carry_out.new.self carried.0 at carried.1 carried.2
    (c.in-Err-Sink.ensures.tallied files (tally_from start files lines) first.work reported at.tallied (is_done_sink c.in-Err-Sink.field-0 c.in-Err-Sink.field-0-is)) c.carry_out.ensures.fetched

pub returns-in-Err-NoMemory-clause-stopped : goal.returns-in-Err-NoMemory-clause-stopped
returns-in-Err-NoMemory-clause-stopped g c start files first lines reported short at =
    let same = not_done_memory c.in-Err-NoMemory.field-0 c.in-Err-NoMemory.field-0-is c.in-Err-NoMemory.ensures.unchanged in
    let idle = not_done_memory c.in-Err-NoMemory.field-0 c.in-Err-NoMemory.field-0-is c.in-Err-NoMemory.ensures.idle in
    works_before start files first (trace (g.K.Sink.state c.args.sink.now) c.args.work.now (g.F.Shelf.fetches c.args.shelf.now))
    (trace (g.K.Sink.state c.carry_out.new.sink) c.carry_out.new.work (g.F.Shelf.fetches c.carry_out.new.shelf)) c.args.self.now lines (line_now c.args.line) at
    (c.in-Err-NoMemory.ensures.memory (ap Err c.in-Err-NoMemory.field-0-is)) (ap (λ sink. (g.K.Sink.state sink).gone) same.1) idle c.carry_out.ensures.fetched

pub returns-clause-stopped : goal.returns-clause-stopped
returns-clause-stopped g c start files first lines reported short at =
    let same = not_done_fetch c.in-Err-Shelf.field-0 c.in-Err-Shelf.field-0-is c.in-Err-Shelf.ensures.unchanged in
    let idle = not_done_fetch c.in-Err-Shelf.field-0 c.in-Err-Shelf.field-0-is c.in-Err-Shelf.ensures.idle in
    works_to_fetch start files first (trace (g.K.Sink.state c.args.sink.now) c.args.work.now (g.F.Shelf.fetches c.args.shelf.now))
    (trace (g.K.Sink.state c.carry_out.new.sink) c.carry_out.new.work (g.F.Shelf.fetches c.carry_out.new.shelf)) c.args.self.now lines (line_now c.args.line) at
    (c.in-Err-Shelf.ensures.asked (ap Err c.in-Err-Shelf.field-0-is)) (ap (λ sink. (g.K.Sink.state sink).gone) same.1) idle c.carry_out.ensures.fetched
