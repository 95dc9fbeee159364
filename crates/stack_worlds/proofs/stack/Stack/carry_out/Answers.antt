use Rattle.std.proofs.Common.{◌≡◌, ◌≢◌, ◌∙◌, ap, sym, subst}
use Rattle.std.specs.Prelude.{Result, Ok, Err}
use Rattle.stack_worlds.proofs.stack.Stack.carry_out.Goals as goal
use Rattle.stack_worlds.specs.KeptStack.{stack_of}
use Rattle.stack_worlds.specs.PlainStack.{PlainWay, asked_on, by_way}
use Rattle.stack_worlds.specs.StackCarried.{WritesStack, written}
use Rattle.tool_io.specs.declared.faults.Failed.{Failed}
use Rattle.world_parts.specs.declared.fault.StepFault.{StepFault}
use Rattle.world_parts.specs.declared.fault.StepFault.TheVariants.{Refused, Shelf}
use Rattle.view_world.proofs.edits.FileLaws.{asks_none}
use Rattle.world_parts.specs.Shelves.{AreAtHand, AsksShelf}

pub returns-in-Given-clause-carried : goal.returns-in-Given-clause-carried
returns-in-Given-clause-carried g c files hand =
    let old = stack_of c.args.self.now in
    subst (λ (way : PlainWay). WritesStack (by_way files old way) (stack_of c.give.new.self) (g.K.Sink.state c.args.sink.now) (g.K.Sink.state c.give.new.sink) c.give.result) c.in-Given.ensures.value
    (c.give.ensures.carried files (subst (λ (way : PlainWay). AreAtHand files (g.F.Shelf.files c.args.shelf.now) (asked_on old way)) (sym c.in-Given.ensures.value) hand))

pub returns-in-Given-clause-silent : goal.returns-in-Given-clause-silent
returns-in-Given-clause-silent g c files stack hand done =
    let old = stack_of c.args.self.now in
    c.give.ensures.silent files stack
    (subst (λ (way : PlainWay). AreAtHand files (g.F.Shelf.files c.args.shelf.now) (asked_on old way)) (sym c.in-Given.ensures.value) hand)
    (ap (by_way files old) c.in-Given.ensures.value ∙ done)

pub returns-in-Given-clause-shelf : goal.returns-in-Given-clause-shelf
returns-in-Given-clause-shelf g c =
    subst (λ (way : PlainWay). AsksShelf g.F.Shelf.files g.F.Shelf.fetches g.F.Shelf.faults (asked_on (stack_of c.args.self.now) way) c.give.result c.args.shelf.now c.give.new.shelf) c.in-Given.ensures.value c.give.ensures.shelf

-- a line whose text was written has not asked the shelf
writes_only : (outcome : Result (Unit {0}) Failed) (result : Result (Unit {0}) StepFault) → result ≡ written outcome → result ≢ Err Shelf
writes_only (Ok done) result e failed = cc
writes_only (Err failed_write) result e failed = cc

pub returns-in-Missed-clause-shelf : goal.returns-in-Missed-clause-shelf
returns-in-Missed-clause-shelf g c =
    subst (λ (way : PlainWay). AsksShelf g.F.Shelf.files g.F.Shelf.fetches g.F.Shelf.faults (asked_on (stack_of c.args.self.now) way) c.written.result c.args.shelf.now c.args.shelf.now) c.in-Missed.ensures.value
    (asks_none g.F.Shelf.files g.F.Shelf.fetches g.F.Shelf.faults c.written.result c.args.shelf.now (writes_only c.put.result c.written.result c.written.ensures))

pub returns-in-Own-clause-shelf : goal.returns-in-Own-clause-shelf
returns-in-Own-clause-shelf g c =
    subst (λ (way : PlainWay). AsksShelf g.F.Shelf.files g.F.Shelf.fetches g.F.Shelf.faults (asked_on (stack_of c.args.self.now) way) c.change.result c.args.shelf.now c.args.shelf.now) c.in-Own.ensures.value
    (asks_none g.F.Shelf.files g.F.Shelf.fetches g.F.Shelf.faults c.change.result c.args.shelf.now c.change.ensures.no_shelf)

pub returns-in-Refused-clause-shelf : goal.returns-in-Refused-clause-shelf
returns-in-Refused-clause-shelf g c =
    let result : Result (Unit {0}) StepFault = Err (Refused c.plain.result) in
    subst (λ (way : PlainWay). AsksShelf g.F.Shelf.files g.F.Shelf.fetches g.F.Shelf.faults (asked_on (stack_of c.args.self.now) way) result c.args.shelf.now c.args.shelf.now) c.in-Refused.ensures.value
    (asks_none g.F.Shelf.files g.F.Shelf.fetches g.F.Shelf.faults result c.args.shelf.now (λ failed. cc failed))
