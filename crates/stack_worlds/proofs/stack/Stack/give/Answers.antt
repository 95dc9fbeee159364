use Rattle.std.proofs.Common.{◌≡◌, ◌∙◌, sym, subst, true}
use Rattle.std.specs.Prelude.{IfSome}
use Rattle.script_lines.specs.commands.PlainCommands.{plain_command}
use Rattle.stack_worlds.proofs.GivenLaws.{asked_there, given_done, held_after, silent_there}
use Rattle.stack_worlds.proofs.stack.Stack.give.Goals as goal
use Rattle.world_parts.specs.Shelves.{AreAtHand}
use Rattle.window_stack.specs.PlainPanes.{PlainPanes, is_open}

pub hold_after-requires-clause-held : goal.hold_after-requires-clause-held
hold_after-requires-clause-held g c =
    subst (λ (p : PlainPanes). IfSome c.args.given.holder (λ k. is_open p k ≡ true)) (sym c.world_line-outcome.ensures.panes) c.requires.sound.held

pub returns-then-not-is_done-clause-carried : goal.returns-then-not-is_done-clause-carried
returns-then-not-is_done-clause-carried g c files hand =
    let old = c.args.self.now in
    let said = plain_command c.args.given.command in
    let k = c.args.given.k in
    let at = c.world_line-outcome.ensures.there c.requires.sound.window.there in
    let now = c.world_line-outcome.ensures.carried files at.0 at.1 (subst (AreAtHand files (g.F.Shelf.files c.args.shelf.now)) (asked_there old k said at.0 at.1) hand) in
    given_done files old c.world_line-outcome.new.self c.args.given.holder k said at.0 now.0 (g.K.Sink.state c.args.sink.now) (g.K.Sink.state c.world_line-outcome.new.sink) c.world_line-outcome.result at.1 now.2
    (λ done. absurd (c.is_done.ensures.not (let e = c.if-not-is_done.true in cc) done))

pub returns-clause-carried : goal.returns-clause-carried
returns-clause-carried g c files hand =
    let old = c.args.self.now in
    let said = plain_command c.args.given.command in
    let k = c.args.given.k in
    let at = c.world_line-outcome.ensures.there c.requires.sound.window.there in
    let now = c.world_line-outcome.ensures.carried files at.0 at.1 (subst (AreAtHand files (g.F.Shelf.files c.args.shelf.now)) (asked_there old k said at.0 at.1) hand) in
    given_done files old c.hold_after.new.self c.args.given.holder k said at.0 now.0 (g.K.Sink.state c.args.sink.now) (g.K.Sink.state c.world_line-outcome.new.sink) c.world_line-outcome.result at.1 now.2
    (λ _. held_after old c.world_line-outcome.new.self c.hold_after.new.self c.args.given.holder k at.0 now.0 at.1 now.1 c.hold_after.ensures.value)

pub returns-then-not-is_done-clause-works : goal.returns-then-not-is_done-clause-works
returns-then-not-is_done-clause-works g c =
    let at = c.world_line-outcome.ensures.there c.requires.sound.window.there in
    let now = c.world_line-outcome.ensures.works at.0 at.1 in (at.0, at.1, now.0, now.1, now.2)

pub returns-clause-works : goal.returns-clause-works
returns-clause-works g c =
    let at = c.world_line-outcome.ensures.there c.requires.sound.window.there in
    let now = c.world_line-outcome.ensures.works at.0 at.1 in (at.0, at.1, now.0, c.hold_after.ensures.worlds ∙ now.1, now.2)

pub returns-clause-silent : goal.returns-clause-silent
returns-clause-silent g c files stack hand done =
    let old = c.args.self.now in
    let said = plain_command c.args.given.command in
    let k = c.args.given.k in
    let at = c.world_line-outcome.ensures.there c.requires.sound.window.there in
    let plain = silent_there files old c.args.given.holder k said at.0 stack at.1 done in
    c.world_line-outcome.ensures.silent files at.0 plain.0 at.1 (subst (AreAtHand files (g.F.Shelf.files c.args.shelf.now)) (asked_there old k said at.0 at.1) hand) plain.1

pub returns-then-not-is_done-clause-silent : goal.returns-then-not-is_done-clause-silent
returns-then-not-is_done-clause-silent g c files stack hand done =
    let old = c.args.self.now in
    let said = plain_command c.args.given.command in
    let k = c.args.given.k in
    let at = c.world_line-outcome.ensures.there c.requires.sound.window.there in
    let plain = silent_there files old c.args.given.holder k said at.0 stack at.1 done in
    c.world_line-outcome.ensures.silent files at.0 plain.0 at.1 (subst (AreAtHand files (g.F.Shelf.files c.args.shelf.now)) (asked_there old k said at.0 at.1) hand) plain.1
