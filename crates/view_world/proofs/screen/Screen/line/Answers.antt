use Rattle.std.proofs.Common.{◌≡◌, ◌≢◌, ℕ, List, [], refl, sym, subst, ◌∙◌}
use Rattle.std.specs.Prelude.{Option, None, Some, Result, Ok, Err}
use Rattle.text_lines.proofs.Prefixes.{appends_none}
use Rattle.tool_io.specs.SinkState.{SinkState}
use Rattle.world_parts.specs.Reply.{Reply, Done}
use Rattle.world_parts.specs.World.{World}
use Rattle.world_parts.specs.declared.fault.StepFault.{StepFault}
use Rattle.world_parts.specs.declared.fault.StepFault.TheVariants as fault
use Rattle.world_replies.specs.declared.response.Response.TheVariants.{Nothing}
use Rattle.view_world.specs.screen.Changed.{CarriesOut}
use Rattle.view_world.specs.world.Carried.{WritesReply}
use Rattle.view_world.specs.world.Step.{step}
use Rattle.view_world.proofs.worlds.AfterLineLaws.{reported, sinkless, undone}
use Rattle.script_lines.specs.commands.PlainCommands.{plain_command}
use Rattle.line_words.specs.declared.words.naming.Name.{Name}
use Rattle.world_parts.specs.Inflating.{asked_for, inflation_of}
use Rattle.view_world.specs.screen.KeyedScreen.{KeyedScreen, world_of}
use Rattle.world_parts.specs.Shelves.{AsksShelf}
use Rattle.view_world.proofs.edits.FileLaws.{asks_none, inflates, unaided}
use Rattle.view_world.proofs.edits.InflatingLaws.{inflation_recalls}
use Rattle.view_world.proofs.screen.Screen.line.Goals as goal

pub returns-in-Some-clause-carried : goal.returns-in-Some-clause-carried
returns-in-Some-clause-carried g c files at =
    let e : inflation_of (plain_command c.args.command.now) ≡ Some (c.in-Some.name.now, c.in-Some.into) = rw c.in-Some.is at (sym c.inflation_of.ensures) in
    rw (inflates files (world_of c.args.self.now) (plain_command c.args.command.now) (c.in-Some.name.now, c.in-Some.into) e) (c.inflate_line.ensures.carried files (rw e at at))

pub returns-in-Some-clause-silent : goal.returns-in-Some-clause-silent
returns-in-Some-clause-silent g c files world at e =
    let file : inflation_of (plain_command c.args.command.now) ≡ Some (c.in-Some.name.now, c.in-Some.into) = rw c.in-Some.is at (sym c.inflation_of.ensures) in
    absurd (inflation_recalls files (world_of c.args.self.now) world c.in-Some.name.now c.in-Some.into
    (sym (inflates files (world_of c.args.self.now) (plain_command c.args.command.now) (c.in-Some.name.now, c.in-Some.into) file) ∙ e))

pub returns-in-Some-clause-shelf : goal.returns-in-Some-clause-shelf
returns-in-Some-clause-shelf g c =
    let e : inflation_of (plain_command c.args.command.now) ≡ Some (c.in-Some.name.now, c.in-Some.into) = rw c.in-Some.is at (sym c.inflation_of.ensures) in
    let asks = λ (file : Option (List ℕ × Option Name)). AsksShelf g.F.Shelf.files g.F.Shelf.fetches g.F.Shelf.faults (asked_for (world_of c.args.self.now).tree file) c.inflate_line.result c.args.shelf.now c.inflate_line.new.shelf in
    subst asks (sym e) c.inflate_line.ensures.shelf

abbrev failed : StepFault → Result (Unit {0}) StepFault
failed line_fault = Err line_fault

abbrev done : Unit {0} → Result (Unit {0}) StepFault
done nothing = Ok nothing

-- a line that prints nothing
quiet : (new : World) (sink : SinkState) → WritesReply (Done new []) new sink sink (Ok tt)
quiet new sink = ([], refl, appends_none sink.gone, refl)

-- a line that was not carried out
unwritten : (reply : Reply) (new : KeyedScreen) (before after : SinkState) (line_fault : StepFault) → CarriesOut reply new (Err line_fault) → WritesReply reply (world_of new) before after (Err line_fault)
unwritten reply new before after (fault.Refused refusal) carried = carried
unwritten reply new before after fault.NoMemory carried = tt
unwritten reply new before after fault.Sink carried = absurd carried
unwritten reply new before after fault.Shelf carried = tt

shelfless : (reply : Reply) (new : KeyedScreen) (line_fault : StepFault) → CarriesOut reply new (Err line_fault) → failed line_fault ≢ failed fault.Shelf
shelfless reply new (fault.Refused refusal) carried e = absurd cc
shelfless reply new fault.NoMemory carried e = absurd cc
shelfless reply new fault.Sink carried e = carried
shelfless reply new fault.Shelf carried e = carried

pub returns-in-Ok-Nothing-clause-carried : goal.returns-in-Ok-Nothing-clause-carried
returns-in-Ok-Nothing-clause-carried g c files at =
    let e : inflation_of (plain_command c.args.command.now) ≡ None = rw c.in_default.is at (sym c.inflation_of.ensures) in
    let changed = rw c.in-Ok-Nothing.field-0-is at c.in-Ok-Nothing.ensures.changed in
    rw (unaided files (world_of c.args.self.now) (plain_command c.args.command.now) e, changed.0) (quiet (world_of c.carry_out.new.self) (g.K.Sink.state c.args.sink.now))

pub returns-in-Ok-clause-carried : goal.returns-in-Ok-clause-carried
returns-in-Ok-clause-carried g c files at =
    let e : inflation_of (plain_command c.args.command.now) ≡ None = rw c.in_default.is at (sym c.inflation_of.ensures) in
    rw (unaided files (world_of c.args.self.now) (plain_command c.args.command.now) e, c.in-Ok.ensures.changed.0) c.report.ensures.carried

pub returns-in-Err-clause-carried : goal.returns-in-Err-clause-carried
returns-in-Err-clause-carried g c files at =
    let e : inflation_of (plain_command c.args.command.now) ≡ None = rw c.in_default.is at (sym c.inflation_of.ensures) in
    subst (λ (reply : Reply). WritesReply reply (world_of c.carry_out.new.self) (g.K.Sink.state c.args.sink.now) (g.K.Sink.state c.args.sink.now) (failed c.in-Err.fault))
    (sym (unaided files (world_of c.args.self.now) (plain_command c.args.command.now) e))
    (unwritten (step [] (world_of c.args.self.now) (plain_command c.args.command.now)) c.carry_out.new.self (g.K.Sink.state c.args.sink.now) (g.K.Sink.state c.args.sink.now) c.in-Err.fault c.in-Err.ensures.changed)

pub returns-in-Ok-Nothing-clause-reports : goal.returns-in-Ok-Nothing-clause-reports
returns-in-Ok-Nothing-clause-reports g c carried =
    reported c.carry_out.new.self c.carry_out.new.self (g.K.Sink.state c.args.sink.now) (g.K.Sink.state c.args.sink.now) (Ok tt) Nothing tt refl (quiet (world_of c.carry_out.new.self) (g.K.Sink.state c.args.sink.now))

pub returns-in-Ok-clause-reports : goal.returns-in-Ok-clause-reports
returns-in-Ok-clause-reports g c carried =
    reported c.carry_out.new.self c.report.new.self (g.K.Sink.state c.args.sink.now) (g.K.Sink.state c.report.new.sink) c.report.result c.in-Ok.response c.in-Ok.ensures.changed.1 c.report.ensures.same
    c.report.ensures.carried

pub returns-in-Err-clause-reports : goal.returns-in-Err-clause-reports
returns-in-Err-clause-reports g c carried =
    absurd (undone c.in-Err.fault (failed c.in-Err.fault) refl (sinkless (step [] (world_of c.args.self.now) (plain_command c.args.command.now)) c.carry_out.new.self c.in-Err.fault c.in-Err.ensures.changed) carried)

pub returns-in-Ok-clause-silent : goal.returns-in-Ok-clause-silent
returns-in-Ok-clause-silent g c files world at still =
    let e : inflation_of (plain_command c.args.command.now) ≡ None = rw c.in_default.is at (sym c.inflation_of.ensures) in
    let same = sym c.in-Ok.ensures.changed.0 ∙ sym (unaided files (world_of c.args.self.now) (plain_command c.args.command.now) e) ∙ still in
    c.report.ensures.silent cc

pub returns-in-Ok-Nothing-clause-shelf : goal.returns-in-Ok-Nothing-clause-shelf
returns-in-Ok-Nothing-clause-shelf g c =
    let e : inflation_of (plain_command c.args.command.now) ≡ None = rw c.in_default.is at (sym c.inflation_of.ensures) in
    let asks = λ (file : Option (List ℕ × Option Name)). AsksShelf g.F.Shelf.files g.F.Shelf.fetches g.F.Shelf.faults (asked_for (world_of c.args.self.now).tree file) (done tt) c.args.shelf.now c.args.shelf.now in
    subst asks (sym e) (asks_none g.F.Shelf.files g.F.Shelf.fetches g.F.Shelf.faults (done tt) c.args.shelf.now (λ same. absurd cc))

pub returns-in-Ok-clause-shelf : goal.returns-in-Ok-clause-shelf
returns-in-Ok-clause-shelf g c =
    let e : inflation_of (plain_command c.args.command.now) ≡ None = rw c.in_default.is at (sym c.inflation_of.ensures) in
    let asks = λ (file : Option (List ℕ × Option Name)). AsksShelf g.F.Shelf.files g.F.Shelf.fetches g.F.Shelf.faults (asked_for (world_of c.args.self.now).tree file) c.report.result c.args.shelf.now c.args.shelf.now in
    subst asks (sym e) (asks_none g.F.Shelf.files g.F.Shelf.fetches g.F.Shelf.faults c.report.result c.args.shelf.now (λ same. rw same at c.report.ensures.done))

pub returns-in-Err-clause-shelf : goal.returns-in-Err-clause-shelf
returns-in-Err-clause-shelf g c =
    let e : inflation_of (plain_command c.args.command.now) ≡ None = rw c.in_default.is at (sym c.inflation_of.ensures) in
    let asks = λ (file : Option (List ℕ × Option Name)). AsksShelf g.F.Shelf.files g.F.Shelf.fetches g.F.Shelf.faults (asked_for (world_of c.args.self.now).tree file) (failed c.in-Err.fault) c.args.shelf.now c.args.shelf.now in
    subst asks (sym e) (asks_none g.F.Shelf.files g.F.Shelf.fetches g.F.Shelf.faults (failed c.in-Err.fault) c.args.shelf.now (shelfless (step [] (world_of c.args.self.now) (plain_command c.args.command.now)) c.carry_out.new.self c.in-Err.fault c.in-Err.ensures.changed))

pub returns-in-Ok-clause-memory : goal.returns-in-Ok-clause-memory
returns-in-Ok-clause-memory g c none = absurd (rw none at c.report.ensures.done)
