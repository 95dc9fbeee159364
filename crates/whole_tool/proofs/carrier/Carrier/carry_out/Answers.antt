use Rattle.std.proofs.Common.{◌≡◌, ap, arith, refl, sym, subst, ◌∙◌, inl}
use Rattle.std.specs.Prelude.{None}
use Rattle.script_lines.specs.commands.PlainCommands.{plain_command}
use Rattle.line_words.specs.words.Words.{map_ok}
use Rattle.view_world.specs.world.KeyedWorld.{world_of}
use Rattle.view_world.specs.world.Step.{step}
use Rattle.whole_tool.specs.Carried.{Alone, BytesWant, Refused, asked_by_bytes, reply_to_bytes}
use Rattle.whole_tool.specs.Carrier.{WritesLine, carried_of}
use Rattle.whole_tool.specs.Run.{HasTallied}
use Rattle.whole_tool.specs.declared.carrier.Carrier.{Carrier}
use Rattle.whole_tool.proofs.lines.CarrierLaws.{same_world, writes_world}
use Rattle.whole_tool.proofs.lines.RunLaws.{bytes_line, bytes_line-asked}
use Rattle.whole_tool.proofs.costs.TallyLaws.{bytes_cost, done_reply, tallied_world}
use Rattle.whole_tool.proofs.costs.WorkLaws.{measured_later}
use Rattle.whole_tool.proofs.carrier.Carrier.carry_out.Goals as goal

pub carry-requires-clause-numbers : goal.carry-requires-clause-numbers
carry-requires-clause-numbers g c = rw c.in-Alone.is at c.requires.numbered

pub carry-requires-clause-short : goal.carry-requires-clause-short
carry-requires-clause-short g c =
    let short = rw c.in-Some.is at c.requires.short in
    let text = rw c.in-Ok.is at c.line.ensures.short in
    omega (arith, short, text)

pub returns-in-Ok-clause-carried : goal.returns-in-Ok-clause-carried
returns-in-Ok-clause-carried g c files reported =
    let counts = rw c.in-Some.is at c.requires.counts in
    let read = sym c.line.ensures.value ∙ ap (map_ok plain_command) c.in-Ok.is in
    let reply = step files (world_of c.in-Alone.world) (plain_command c.in-Ok.command) in
    let before = g.K.Sink.state c.args.sink.now in
    let after = g.K.Sink.state c.carry.new.sink in
    let made = Alone (world_of c.carry.new.self) in
    rw (c.in-Some.is, bytes_line files (carried_of c.args.self.now) c.in-Some.bytes.now counts)
    (subst (λ (k : Carrier). WritesLine (reply_to_bytes files (carried_of k) c.in-Some.bytes.now) made before after c.carry.result) (sym c.in-Alone.is)
    (rw read (writes_world reply (world_of c.carry.new.self) before after c.carry.result (c.carry.ensures.carried files (inl reported)))))

pub returns-in-Err-clause-carried : goal.returns-in-Err-clause-carried
returns-in-Err-clause-carried g c files reported =
    let counts = rw c.in-Some.is at c.requires.counts in
    let read = sym c.line.ensures.value ∙ ap (map_ok plain_command) c.in-Err.is in
    rw (c.in-Some.is, bytes_line files (carried_of c.args.self.now) c.in-Some.bytes.now counts, c.in-Alone.is, read) (ap Refused (sym c.refusal_of.ensures))

pub returns-in-Ok-clause-unchanged : goal.returns-in-Ok-clause-unchanged
returns-in-Ok-clause-unchanged g c = same_world c.carry.result c.args.self.now _ _ _ _ c.in-Alone.is c.carry.ensures.unchanged

pub returns-in-Ok-clause-tallied : goal.returns-in-Ok-clause-tallied
returns-in-Ok-clause-tallied g c files tally first reported reached done =
    let counts = rw c.in-Some.is at c.requires.counts in
    let command = plain_command c.in-Ok.command in
    let read = sym c.line.ensures.value ∙ ap (map_ok plain_command) c.in-Ok.is in
    let before = g.K.Sink.state c.args.sink.now in
    let after = g.K.Sink.state c.carry.new.sink in
    let reply = done_reply (step files (world_of c.in-Alone.world) command) (world_of c.carry.new.self) before after c.carry.result (c.carry.ensures.carried files (inl reported)) done in
    let at = subst (λ (k : Carrier). HasTallied first c.args.work.now k tally) c.in-Alone.is reached in
    rw (c.in-Some.is, bytes_cost files tally c.in-Some.bytes.now counts)
    (tallied_world files first c.args.work.now c.carry.new.work c.in-Alone.world c.carry.new.self tally.costs tally.watched c.in-Some.bytes.now reply.0 command read at.watched at.worth reply.1
    (c.carry.ensures.watched done) (c.carry.ensures.worth done))

pub returns-in-Ok-clause-memory : goal.returns-in-Ok-clause-memory
returns-in-Ok-clause-memory g c none =
    let read = sym c.line.ensures.value ∙ ap (map_ok plain_command) c.in-Ok.is in
    rw c.in-Some.is (subst (λ (k : Carrier). BytesWant (carried_of k) c.in-Some.bytes.now) (sym c.in-Alone.is) (rw read (c.carry.ensures.memory none)))

pub returns-in-Ok-clause-asked : goal.returns-in-Ok-clause-asked
returns-in-Ok-clause-asked g c failed none =
    let counts = rw c.in-Some.is at c.requires.counts in
    let read = sym c.line.ensures.value ∙ ap (map_ok plain_command) c.in-Ok.is in
    let asked = sym (bytes_line-asked (carried_of c.args.self.now) c.in-Some.bytes.now counts) ∙ (rw c.in-Some.is at none) in
    let nothing = subst (λ (k : Carrier). asked_by_bytes (carried_of k) c.in-Some.bytes.now ≡ None) c.in-Alone.is asked in
    c.carry.ensures.asked failed (rw read at nothing)

pub returns-in-Ok-clause-numbers : goal.returns-in-Ok-clause-numbers
returns-in-Ok-clause-numbers g c = rw c.in-Alone.is c.carry.ensures.numbers

pub returns-in-Ok-clause-measured : goal.returns-in-Ok-clause-measured
returns-in-Ok-clause-measured g c =
    measured_later (plain_command c.in-Ok.command) c.carry.result c.args.work.now c.carry.new.work c.carry.ensures.work c.carry.ensures.idle
    (λ frame done. let count = c.carry.ensures.counted frame done in (count.by, count.work))

pub returns-in-Ok-clause-fetched : goal.returns-in-Ok-clause-fetched
returns-in-Ok-clause-fetched g c =
    let counts = rw c.in-Some.is at c.requires.counts in
    let read = sym c.line.ensures.value ∙ ap (map_ok plain_command) c.in-Ok.is in
    rw (c.in-Some.is, bytes_line-asked (carried_of c.args.self.now) c.in-Some.bytes.now counts, c.in-Alone.is, read) c.carry.ensures.fetched

pub returns-in-Err-clause-fetched : goal.returns-in-Err-clause-fetched
returns-in-Err-clause-fetched g c =
    let counts = rw c.in-Some.is at c.requires.counts in
    let read = sym c.line.ensures.value ∙ ap (map_ok plain_command) c.in-Err.is in
    rw (c.in-Some.is, bytes_line-asked (carried_of c.args.self.now) c.in-Some.bytes.now counts, c.in-Alone.is, read) refl

pub returns-in_default-self-clause-carried : goal.returns-in_default-self-clause-carried
returns-in_default-self-clause-carried g c files reported =
    let counts = rw c.in-Some.is at c.requires.counts in
    rw (c.in-Some.is, bytes_line files (carried_of c.args.self.now) c.in-Some.bytes.now counts) (c.stacked_line.ensures.carried files reported)

pub returns-in_default-self-clause-tallied : goal.returns-in_default-self-clause-tallied
returns-in_default-self-clause-tallied g c files tally first reported reached done =
    let counts = rw c.in-Some.is at c.requires.counts in
    rw (c.in-Some.is, bytes_cost files tally c.in-Some.bytes.now counts) (c.stacked_line.ensures.tallied files tally first reported reached done)

pub returns-in_default-self-clause-memory : goal.returns-in_default-self-clause-memory
returns-in_default-self-clause-memory g c none = rw c.in-Some.is (c.stacked_line.ensures.memory none)

pub returns-in_default-self-clause-asked : goal.returns-in_default-self-clause-asked
returns-in_default-self-clause-asked g c failed none =
    let counts = rw c.in-Some.is at c.requires.counts in
    c.stacked_line.ensures.asked failed (sym (bytes_line-asked (carried_of c.args.self.now) c.in-Some.bytes.now counts) ∙ (rw c.in-Some.is at none))

pub returns-in_default-self-clause-fetched : goal.returns-in_default-self-clause-fetched
returns-in_default-self-clause-fetched g c =
    let counts = rw c.in-Some.is at c.requires.counts in
    rw (c.in-Some.is, bytes_line-asked (carried_of c.args.self.now) c.in-Some.bytes.now counts) c.stacked_line.ensures.fetched
