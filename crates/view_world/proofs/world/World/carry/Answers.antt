use Rattle.std.proofs.Common.{◌≡◌, true, ◌+◌, ◌≤◌, inl, inr, ap, sym, subst, ◌∙◌}
use Rattle.script_lines.specs.commands.PlainCommands.{plain_command}
use Rattle.script_lines.specs.commands.PlainCommands.{Frame, PlainCommand}
use Rattle.view_world.proofs.frames.WorthLaws.{after_framed, box_kept, done_reply, shows_after, watched_line, worth_frame, worth_other}
use Rattle.view_world.specs.frames.Counting.{FillsAlike}
use Rattle.view_world.specs.world.Marked.{keyed}
use Rattle.view_world.specs.frames.Watched.{HasBox, IsWatched, IsWorth, box_after, costs_of, watched_after, watched_in}
use Rattle.view_world.specs.declared.world.marks.Marks.{Marks}
use Rattle.view_world.proofs.worlds.MarkLaws.{bounded, frame_or_not, leaves_all, marks_are, marks_line, measures_same, unchanged_all, world_same}
use Rattle.view_world.specs.frames.Asked.{LeavesUnasked}
use Rattle.view_world.proofs.worlds.AfterLineLaws.{parts_stay}
use Rattle.world_parts.specs.Shelves.{AreAtHand, fetches_after}
use Rattle.view_world.specs.world.Carried.{IsDone, WritesReply}
use Rattle.world_parts.specs.Inflating.{asked_file}
use Rattle.world_parts.specs.Reply.{Done}
use Rattle.view_world.specs.world.Step.{step}
use Rattle.world_parts.specs.World.{World}
use Rattle.tool_io.specs.Fetched.{Files}
use Rattle.std.specs.Prelude.{◌⊎◌, [], None, Some}
use Rattle.geom_core.specs.declared.geometry.Size.{Size}
use Rattle.view_world.specs.screen.KeyedScreen.{window_of, world_of as world_on}
use Rattle.view_world.specs.world.KeyedWorld.{KeyedWorld, world_of}
use Rattle.view_world.specs.world.Marks.{marks_after, measure_bound}
use Rattle.view_world.specs.frames.Resting.{CountsMeasures, LaysOut}
use Rattle.view_world.specs.declared.world.World.TheInside.{Inside}
use Rattle.view_world.proofs.world.World.carry.Goals as goal

pub invariant_of-self : goal.invariant_of-self
invariant_of-self g c =
    let line = plain_command c.args.command.now in
    let new : Inside = record { screen = c.line-outcome.new.self; marks = c.marks_after-self-inside.result } in
    marks_line line c.line-outcome.result c.self.inside new c.args.work.now c.line-outcome.new.work
    (unchanged_all c.line-outcome.result c.self.inside.screen c.line-outcome.new.self c.args.sink.now c.line-outcome.new.sink c.line-outcome.ensures.unchanged)
    (λ is. c.marks_after-self-inside.ensures.done is
    ∙ marks_are line c.effect_of-effect.result c.self.inside.marks c.self.inside.screen c.line-outcome.new.self c.has_settled-settled.result c.has_scrolled-scrolled.result c.effect_of-effect.ensures c.has_settled-settled.ensures
    c.has_scrolled-scrolled.ensures (λ ne. c.line-outcome.ensures.works.keeps ne is))
    c.marks_after-self-inside.ensures.stays (λ ne is. c.line-outcome.ensures.works.keeps ne is) (λ e is. c.line-outcome.ensures.works.framed e is) c.self.invariant

pub returns-clause-still : goal.returns-clause-still
returns-clause-still g c frame idle = c.line-outcome.ensures.works.still frame (c.self.invariant.idle (ap (λ (w : KeyedWorld). w.marks.idle) c.self.view_is ∙ idle))

pub returns-clause-unchanged : goal.returns-clause-unchanged
returns-clause-unchanged g c =
    let new : KeyedWorld = record { screen = c.line-outcome.new.self; marks = c.marks_after-self-inside.result } in
    subst (λ (w : KeyedWorld). IsDone c.line-outcome.result ⊎ ((new ≡ w) × (c.line-outcome.new.sink ≡ c.args.sink.now))) c.self.view_is
    (world_same c.line-outcome.result c.self.inside.screen c.line-outcome.new.self c.self.inside.marks c.marks_after-self-inside.result c.args.sink.now c.line-outcome.new.sink c.line-outcome.ensures.unchanged c.marks_after-self-inside.ensures.stays)

pub returns-clause-as_before : goal.returns-clause-as_before
returns-clause-as_before g c =
    let new : KeyedWorld = record { screen = c.line-outcome.new.self; marks = c.marks_after-self-inside.result } in
    parts_stay c.line-outcome.result c.args.self.now new (returns-clause-unchanged g c)

pub returns-clause-reports : goal.returns-clause-reports
returns-clause-reports g c done = c.line-outcome.ensures.reports done

pub returns-clause-fetched : goal.returns-clause-fetched
returns-clause-fetched g c =
    subst (λ (w : KeyedWorld). g.F.Shelf.fetches c.line-outcome.new.shelf ≡ fetches_after (asked_file (world_of w) (plain_command c.args.command.now)) (g.F.Shelf.fetches c.args.shelf.now)) c.self.view_is
    c.line-outcome.ensures.shelf.fetched

pub returns-clause-marks : goal.returns-clause-marks
returns-clause-marks g c is =
    let line = plain_command c.args.command.now in
    subst (λ (w : KeyedWorld). c.marks_after-self-inside.result ≡ marks_after (world_of w) line (world_on c.line-outcome.new.self) w.marks) c.self.view_is
    (c.marks_after-self-inside.ensures.done is
    ∙ marks_are line c.effect_of-effect.result c.self.inside.marks c.self.inside.screen c.line-outcome.new.self c.has_settled-settled.result c.has_scrolled-scrolled.result c.effect_of-effect.ensures c.has_settled-settled.ensures
    c.has_scrolled-scrolled.ensures (λ ne. c.line-outcome.ensures.works.keeps ne is))

pub returns-clause-measured : goal.returns-clause-measured
returns-clause-measured g c frame is =
    subst (λ (w : KeyedWorld). c.line-outcome.new.work.measured ≤ c.args.work.now.measured + measure_bound (world_of w) w.marks) c.self.view_is
    (bounded c.self.inside.marks c.self.inside.screen c.line-outcome.new.self c.args.work.now c.line-outcome.new.work c.self.invariant.rest (c.line-outcome.ensures.works.framed frame is))

pub returns-clause-leaves : goal.returns-clause-leaves
returns-clause-leaves g c ne =
    let line = plain_command c.args.command.now in
    subst (λ (w : KeyedWorld). LeavesUnasked (world_of w) line w.screen.views c.line-outcome.new.self.views) c.self.view_is
    (leaves_all line c.line-outcome.result c.self.inside.screen c.line-outcome.new.self
    (unchanged_all c.line-outcome.result c.self.inside.screen c.line-outcome.new.self c.args.sink.now c.line-outcome.new.sink c.line-outcome.ensures.unchanged) (λ is. c.line-outcome.ensures.works.keeps ne is))

pub returns-clause-measures : goal.returns-clause-measures
returns-clause-measures g c ne =
    let line = plain_command c.args.command.now in
    subst (λ (w : KeyedWorld). c.line-outcome.new.self.views.counts.measures ≡ w.screen.views.counts.measures) c.self.view_is
    (measures_same line c.line-outcome.result c.self.inside.screen c.line-outcome.new.self
    (unchanged_all c.line-outcome.result c.self.inside.screen c.line-outcome.new.self c.args.sink.now c.line-outcome.new.sink c.line-outcome.ensures.unchanged) (λ is. c.line-outcome.ensures.works.keeps ne is))

pub returns-clause-counted : goal.returns-clause-counted
returns-clause-counted g c frame is =
    subst (λ (w : KeyedWorld). CountsMeasures w.screen.views.counts c.line-outcome.new.self.views.counts c.args.work.now c.line-outcome.new.work) c.self.view_is (c.line-outcome.ensures.works.framed frame is).counted

pub returns-clause-laid : goal.returns-clause-laid
returns-clause-laid g c frame is =
    subst (λ (w : KeyedWorld). (window : Size) → window_of w.screen ≡ Some window → LaysOut w.screen c.line-outcome.new.self window) c.self.view_is (c.line-outcome.ensures.works.framed frame is).laid

pub returns-clause-carried : goal.returns-clause-carried
returns-clause-carried g c =
    let line = plain_command c.args.command.now in
    subst (λ (w : KeyedWorld). (files : Files) → AreAtHand files (g.F.Shelf.files c.args.shelf.now) (asked_file (world_of w) line)
    → WritesReply (step files (world_of w) line) (world_on c.line-outcome.new.self) (g.K.Sink.state c.args.sink.now) (g.K.Sink.state c.line-outcome.new.sink) c.line-outcome.result)
    c.self.view_is c.line-outcome.ensures.carried

pub returns-clause-silent : goal.returns-clause-silent
returns-clause-silent g c =
    let line = plain_command c.args.command.now in
    subst (λ (w : KeyedWorld). (files : Files) (world : World) → AreAtHand files (g.F.Shelf.files c.args.shelf.now) (asked_file (world_of w) line)
    → step files (world_of w) line ≡ Done world [] → c.line-outcome.new.sink ≡ c.args.sink.now) c.self.view_is c.line-outcome.ensures.silent

pub returns-clause-unasked : goal.returns-clause-unasked
returns-clause-unasked g c =
    subst (λ (w : KeyedWorld). asked_file (world_of w) (plain_command c.args.command.now) ≡ None → c.line-outcome.new.shelf ≡ c.args.shelf.now) c.self.view_is c.line-outcome.ensures.shelf.unasked

pub returns-clause-watched : goal.returns-clause-watched
returns-clause-watched g c is box has =
    let line = plain_command c.args.command.now in
    let old = keyed c.self.inside in
    let new : KeyedWorld = record { screen = c.line-outcome.new.self; marks = c.marks_after-self-inside.result } in
    let ens = c.line-outcome.ensures in
    let marks : new.marks ≡ marks_after (world_of old) line (world_of new) old.marks =
    c.marks_after-self-inside.ensures.done is
    ∙ marks_are line c.effect_of-effect.result c.self.inside.marks c.self.inside.screen c.line-outcome.new.self c.has_settled-settled.result c.has_scrolled-scrolled.result c.effect_of-effect.ensures c.has_settled-settled.ensures
    c.has_scrolled-scrolled.ensures (λ ne. ens.works.keeps ne is) in
    let shown = shows_after line old.screen new.screen c.args.work.now c.line-outcome.new.work (λ ne. ens.works.keeps ne is) (λ e. (ens.works.framed e is).paints) in
    let held : HasBox old box = subst (λ (w : KeyedWorld). HasBox w box) (sym c.self.view_is) has in
    let kept : HasBox new (box_after (world_of old) line (world_of new) old.marks.based box) = λ based.
    box_kept line old.marks old.screen new.screen box (λ ne. ens.works.keeps ne is) (λ e settled. ((ens.works.framed e is).shows settled).clean) c.self.invariant.based held (subst (λ (m : Marks). m.based ≡ true) marks based) in
    subst (λ (w : KeyedWorld). IsWatched new (watched_after (watched_in w box) line (world_of new))) c.self.view_is (watched_line line old new box marks shown kept)

pub returns-clause-worth : goal.returns-clause-worth
returns-clause-worth g c is box has =
    let line = plain_command c.args.command.now in
    let old = keyed c.self.inside in
    let ens = c.line-outcome.ensures in
    let before = c.args.work.now in
    let after = c.line-outcome.new.work in
    let held : HasBox old box = subst (λ (w : KeyedWorld). HasBox w box) (sym c.self.view_is) has in
    subst (λ (w : KeyedWorld). IsWorth (costs_of (watched_in w box) line) before after) c.self.view_is (elim (frame_or_not line) [
      | inl e ↦
          let carried = subst (λ (line : PlainCommand). WritesReply (step [] (world_of old) line) (world_on c.line-outcome.new.self) (g.K.Sink.state c.args.sink.now) (g.K.Sink.state c.line-outcome.new.sink) c.line-outcome.result) e
          (ens.carried [] (inr (ap (asked_file (world_of old)) e))) in
          let reply = done_reply (step [] (world_of old) Frame) (world_on c.line-outcome.new.self) (g.K.Sink.state c.args.sink.now) (g.K.Sink.state c.line-outcome.new.sink) c.line-outcome.result carried is in
          let framed = ens.works.framed e is in
          subst (λ (line : PlainCommand). IsWorth (costs_of (watched_in old box) line) before after) (sym e)
          (worth_frame old.screen c.line-outcome.new.self old.marks box before after (after_framed old.screen c.line-outcome.new.self reply.0 reply.1) framed c.self.invariant.based
          (λ idle. ens.works.still e (c.self.invariant.idle idle)) held ens.works.painted (bounded old.marks old.screen c.line-outcome.new.self before after c.self.invariant.rest framed))
      | inr ne ↦ worth_other (watched_in old box) line before after ne (ens.works.work ne)
    ])

pub returns-clause-filled : goal.returns-clause-filled
returns-clause-filled g c frame is =
    subst (λ (w : KeyedWorld). FillsAlike w.screen.surface.filled c.line-outcome.new.self.surface.filled c.args.work.now.painted c.line-outcome.new.work.painted) c.self.view_is (c.line-outcome.ensures.works.framed frame is).paints.filled
