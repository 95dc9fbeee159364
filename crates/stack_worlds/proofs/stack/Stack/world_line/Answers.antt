use Rattle.std.proofs.Common.{◌≡◌, ◌∙◌, ◌<◌, ℕ, List, ap, refl, subst, sym, inl, inr, get_or}
use Rattle.std.specs.Prelude.{Option, IfSome, None, Some, Result, Ok, slice_set}
use Rattle.std.specs.Option.{is_some, option_map}
use Rattle.script_lines.specs.commands.PlainCommands.{plain_command}
use Rattle.tool_io.specs.Fetched.{Files}
use Rattle.view_model.specs.declared.limits.TheConstants.{NUMBERS_END}
use Rattle.view_world.proofs.edits.FileLaws.{asks_none}
use Rattle.world_parts.specs.declared.fault.StepFault.{StepFault}
use Rattle.world_parts.specs.Inflating.{asked_file}
use Rattle.world_parts.specs.Shelves.{AreAtHand, AsksShelf}
use Rattle.view_world.specs.world.Carried.{WritesReply}
use Rattle.view_world.specs.world.KeyedWorld.{KeyedWorld, world_of}
use Rattle.view_world.specs.world.Step.{step}
use Rattle.world_parts.specs.World.{World}
use Rattle.stack_worlds.specs.KeptStack.{HasWorlds, KeyedStack, kept_world, keyed_at}
use Rattle.stack_worlds.specs.PlainStack.{asked_in}
use Rattle.stack_worlds.specs.WindowLines.{WorksIn}
use Rattle.stack_worlds.proofs.GivenLaws.{asked_there}
use Rattle.stack_worlds.proofs.PlaceLaws.{place_is, place_kept, place_same, place_set, some_of}
use Rattle.stack_worlds.proofs.StackLaws.{plain_at, there}
use Rattle.stack_worlds.proofs.stack.Stack.world_line.Goals as goal

pub invariant_of-self : goal.invariant_of-self
invariant_of-self g c = place_kept c.self.inside.panes c.self.inside.worlds c.args.given.k c.from.result c.index-self-from.result _ c.from.ensures c.requires.name c.self.invariant refl

pub returns-in_default : goal.returns-in_default
returns-in_default g c =
    let said = plain_command c.args.given.command in
    let k = c.args.given.k in
    let at : kept_world (get_or c.self.inside.worlds c.from.result c.index-self-from.result) ≡ keyed_at c.args.self.now k =
    place_is c.self.inside.panes c.self.inside.worlds c.args.given.k c.from.result c.index-self-from.result c.from.ensures c.requires.name c.self.invariant ∙ ap (λ (s : KeyedStack). keyed_at s k) c.self.view_is in
    let none : keyed_at c.args.self.now k ≡ None = sym at ∙ ap kept_world c.in_default.is in
    let done : Result (Unit {0}) StepFault = Ok tt in
    record {
      carried = λ files world e hand. absurd (cc (none, e));
      works = λ world e. absurd (cc (none, e));
      silent = λ files world plain e hand said_nothing. absurd (cc (none, e));
      panes = ap (λ (s : KeyedStack). s.panes) c.self.view_is;
      there = λ is. there c.args.self.now k (subst HasWorlds c.self.view_is c.self.invariant) is;
      unchanged = inr (place_same c.self.inside.panes c.self.inside.worlds c.args.given.k c.from.result c.index-self-from.result _ c.from.ensures c.requires.name c.self.invariant refl ∙ c.self.view_is, refl);
      shelf = subst (λ (world : Option World). AsksShelf g.F.Shelf.files g.F.Shelf.fetches g.F.Shelf.faults (asked_in world said) done c.args.shelf.now c.args.shelf.now) (sym (plain_at c.args.self.now.worlds k ∙ ap (option_map world_of) none))
          (asks_none g.F.Shelf.files g.F.Shelf.fetches g.F.Shelf.faults done c.args.shelf.now (λ failed. cc failed));
      memory = λ failed. absurd (cc failed);
      sink_failed = refl;
    }

pub carry-requires-clause-numbers : goal.carry-requires-clause-numbers
carry-requires-clause-numbers g c =
    let k = c.args.given.k in
    let at : kept_world (get_or c.self.inside.worlds c.from.result c.index-self-from.result) ≡ keyed_at c.args.self.now k =
    place_is c.self.inside.panes c.self.inside.worlds c.args.given.k c.from.result c.index-self-from.result c.from.ensures c.requires.name c.self.invariant ∙ ap (λ (s : KeyedStack). keyed_at s k) c.self.view_is in
    let held : keyed_at c.args.self.now k ≡ Some c.in-Some.world.value = sym at ∙ ap kept_world c.in-Some.is in
    subst (λ (w : KeyedWorld). w.screen.views.next < NUMBERS_END) (sym c.deref_mut.ensures.value)
    (subst (λ (w : Option KeyedWorld). IfSome w (λ world. world.screen.views.next < NUMBERS_END)) held (c.requires.numbers k))

pub invariant_of-self-2 : goal.invariant_of-self-2
invariant_of-self-2 g c = place_kept c.self.inside.panes c.self.inside.worlds c.args.given.k c.from.result c.index-self-from.result _ c.from.ensures c.requires.name c.self.invariant (ap is_some (sym (ap kept_world c.in-Some.is)))

pub returns : goal.returns
returns g c =
    let said = plain_command c.args.given.command in
    let k = c.args.given.k in
    let new = c.carry.new.self in
    let ens = c.carry.ensures in
    let at : kept_world (get_or c.self.inside.worlds c.from.result c.index-self-from.result) ≡ keyed_at c.args.self.now k =
    place_is c.self.inside.panes c.self.inside.worlds c.args.given.k c.from.result c.index-self-from.result c.from.ensures c.requires.name c.self.invariant ∙ ap (λ (s : KeyedStack). keyed_at s k) c.self.view_is in
    let held : keyed_at c.args.self.now k ≡ Some c.in-Some.world.value = sym at ∙ ap kept_world c.in-Some.is in
    let same = λ (world : KeyedWorld) (e : keyed_at c.args.self.now k ≡ Some world). c.deref_mut.ensures.value ∙ some_of (sym held ∙ e) in
    let left = place_set c.self.inside.panes c.self.inside.worlds k c.from.result _ (Some new) c.from.ensures refl ∙ ap (λ (s : KeyedStack). record { panes = s.panes; worlds = slice_set s.worlds k (Some new) }) c.self.view_is in
    let hand = λ (files : Files) (world : KeyedWorld) (e : keyed_at c.args.self.now k ≡ Some world). subst (λ (w : KeyedWorld). AreAtHand files (g.F.Shelf.files c.args.shelf.now) (asked_file (world_of w) said)) (sym (same world e)) in
    let file = ap (λ (w : KeyedWorld). asked_file (world_of w) said) c.deref_mut.ensures.value ∙ sym (asked_there c.args.self.now k said c.in-Some.world.value held) in
    record {
      carried = λ files world e at_hand. (
        new,
        left,
        subst (λ (w : KeyedWorld). WritesReply (step files (world_of w) said) (world_of new) (g.K.Sink.state c.args.sink.now) (g.K.Sink.state c.carry.new.sink) c.carry.result) (same world e)
            (ens.carried files (hand files world e at_hand)),
      );
      works = λ world e. (
        new,
        ap (λ (s : KeyedStack). s.worlds) left,
        subst (λ (w : KeyedWorld). WorksIn w new said c.carry.result c.args.work.now c.carry.new.work) (same world e) (record {
          numbers = ens.numbers;
          work = ens.work;
          idle = ens.idle;
          still = ens.still;
          marks = ens.marks;
          measured = ens.measured;
          counted = ens.counted;
          measures = ens.measures;
          laid = ens.laid;
          leaves = ens.leaves;
          painted = ens.painted;
          watched = ens.watched;
          worth = ens.worth;
          filled = ens.filled;
        }),
      );
      silent = λ files world plain e at_hand nothing. ens.silent files plain (hand files world e at_hand) (ap (λ (w : KeyedWorld). step files (world_of w) said) (same world e) ∙ nothing);
      panes = ap (λ (s : KeyedStack). s.panes) c.self.view_is;
      there = λ is. (c.in-Some.world.value, held);
      unchanged = elim ens.unchanged [
        | inl done ↦ inl done
        | inr kept ↦ inr (place_same c.self.inside.panes c.self.inside.worlds c.args.given.k c.from.result c.index-self-from.result _ c.from.ensures c.requires.name c.self.invariant (ap Some (kept.0 ∙ c.deref_mut.ensures.value) ∙ sym (ap kept_world c.in-Some.is)) ∙ c.self.view_is, kept.1)
      ];
      shelf = subst (λ (name : Option (List ℕ)). AsksShelf g.F.Shelf.files g.F.Shelf.fetches g.F.Shelf.faults name c.carry.result c.args.shelf.now c.carry.new.shelf) file (record {
        files_stay = ens.files_stay;
        unasked = ens.unasked;
        fetched = ens.fetched;
        shelf_failed = ens.shelf_failed;
        asked = ens.asked;
      });
      memory = ens.memory;
      sink_failed = ens.sink_failed;
    }
