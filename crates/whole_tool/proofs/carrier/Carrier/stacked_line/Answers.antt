use Rattle.std.proofs.Common.{◌≡◌, ap, arith, refl, sym, subst, ◌∙◌, inl}
use Rattle.std.specs.Prelude.{None}
use Rattle.line_words.specs.words.Words.{map_ok}
use Rattle.stack_worlds.specs.KeptStack.{stack_of}
use Rattle.stack_worlds.specs.PlainStack.{stack_step}
use Rattle.whole_tool.specs.Carried.{Stacked, BytesWant, Refused, asked_by_bytes, reply_to_bytes}
use Rattle.whole_tool.specs.Carrier.{WritesLine, carried_of}
use Rattle.whole_tool.specs.Run.{HasTallied}
use Rattle.whole_tool.specs.declared.carrier.Carrier.{Carrier}
use Rattle.whole_tool.proofs.lines.CarrierLaws.{have_numbers, numbers_after, same_stack, writes_stack}
use Rattle.whole_tool.proofs.costs.TallyLaws.{done_in_stack, tallied_stack}
use Rattle.window_stack.specs.StackLines.{plain_line}
use Rattle.whole_tool.proofs.carrier.Carrier.stacked_line.Goals as goal

pub line-requires-clause-numbers : goal.line-requires-clause-numbers
line-requires-clause-numbers g c = have_numbers c.in-Stacked.stack.worlds (rw c.in-Stacked.is at c.requires.numbered)

pub line-requires-clause-short : goal.line-requires-clause-short
line-requires-clause-short g c =
    let short = c.requires.short in
    let text = rw c.in-Ok.is at c.stack_line.ensures.short in
    omega (arith, short, text)

pub returns-in-Ok-clause-carried : goal.returns-in-Ok-clause-carried
returns-in-Ok-clause-carried g c files reported =
    let read = sym c.stack_line.ensures.value ∙ ap (map_ok plain_line) c.in-Ok.is in
    let reply = stack_step files (stack_of c.in-Stacked.stack) (plain_line c.in-Ok.line) in
    let before = g.K.Sink.state c.args.sink.now in
    let after = g.K.Sink.state c.line.new.sink in
    let made = Stacked (stack_of c.line.new.self) in
    subst (λ (k : Carrier). WritesLine (reply_to_bytes files (carried_of k) c.args.bytes.now) made before after c.line.result) (sym c.in-Stacked.is)
    (rw read (writes_stack reply (stack_of c.line.new.self) before after c.line.result (c.line.ensures.carried files (inl reported))))

pub returns-in-Err-clause-carried : goal.returns-in-Err-clause-carried
returns-in-Err-clause-carried g c files reported =
    let read = sym c.stack_line.ensures.value ∙ ap (map_ok plain_line) c.in-Err.is in
    rw (c.in-Stacked.is, read) (ap Refused (sym c.refusal_of.ensures))

pub returns-in-Ok-clause-unchanged : goal.returns-in-Ok-clause-unchanged
returns-in-Ok-clause-unchanged g c = same_stack c.line.result c.args.self.now _ _ _ _ c.in-Stacked.is c.line.ensures.unchanged

pub returns-in-Ok-clause-tallied : goal.returns-in-Ok-clause-tallied
returns-in-Ok-clause-tallied g c files tally first reported reached done =
    let line = plain_line c.in-Ok.line in
    let read = sym c.stack_line.ensures.value ∙ ap (map_ok plain_line) c.in-Ok.is in
    let before = g.K.Sink.state c.args.sink.now in
    let after = g.K.Sink.state c.line.new.sink in
    let reply = done_in_stack (stack_step files (stack_of c.in-Stacked.stack) line) (stack_of c.line.new.self) before after c.line.result (c.line.ensures.carried files (inl reported)) done in
    let at = subst (λ (k : Carrier). HasTallied first c.args.work.now k tally) c.in-Stacked.is reached in
    tallied_stack files first c.args.work.now c.line.new.work c.in-Stacked.stack c.line.new.self tally.costs tally.watched c.args.bytes.now reply.0 line c.line.result read
    at.watched at.worth reply.1 c.line.ensures.works done

pub returns-in-Ok-clause-memory : goal.returns-in-Ok-clause-memory
returns-in-Ok-clause-memory g c none =
    let read = sym c.stack_line.ensures.value ∙ ap (map_ok plain_line) c.in-Ok.is in
    subst (λ (k : Carrier). BytesWant (carried_of k) c.args.bytes.now) (sym c.in-Stacked.is) (rw read (c.line.ensures.memory none))

pub returns-in-Ok-clause-asked : goal.returns-in-Ok-clause-asked
returns-in-Ok-clause-asked g c failed none =
    let read = sym c.stack_line.ensures.value ∙ ap (map_ok plain_line) c.in-Ok.is in
    let nothing = subst (λ (k : Carrier). asked_by_bytes (carried_of k) c.args.bytes.now ≡ None) c.in-Stacked.is none in
    c.line.ensures.asked failed (rw read at nothing)

pub returns-in-Ok-clause-numbers : goal.returns-in-Ok-clause-numbers
returns-in-Ok-clause-numbers g c = rw c.in-Stacked.is (numbers_after c.in-Stacked.stack.worlds c.line.new.self.worlds c.line.ensures.numbers)

pub returns-in-Ok-clause-fetched : goal.returns-in-Ok-clause-fetched
returns-in-Ok-clause-fetched g c =
    let read = sym c.stack_line.ensures.value ∙ ap (map_ok plain_line) c.in-Ok.is in
    rw (c.in-Stacked.is, read) c.line.ensures.fetched

pub returns-in-Err-clause-fetched : goal.returns-in-Err-clause-fetched
returns-in-Err-clause-fetched g c =
    let read = sym c.stack_line.ensures.value ∙ ap (map_ok plain_line) c.in-Err.is in
    rw (c.in-Stacked.is, read) refl
