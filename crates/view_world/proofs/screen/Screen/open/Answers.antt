use Rattle.std.proofs.Common.{◌≡◌, pos, ◌≤ℤ◌, ap, subst, [], arith}
use Rattle.std.proofs.lemmas.Int.{ints}
use Rattle.seen_edits.proofs.ShownLaws.{shows_none}
use Rattle.world_parts.specs.World.{World}
use Rattle.view_world.specs.screen.KeyedScreen.{KeyedScreen, world_of}
use Rattle.world_parts.specs.Reply.{Done}
use Rattle.view_world.specs.world.Step.{with_window}
use Rattle.view_world.specs.declared.screen.stage.Stage.TheVariants.{NoFrame}
use Rattle.view_world.specs.screen.Sound.{keyed}
use Rattle.view_world.proofs.worlds.WorldLaws.{Changed-window, at_stage, black_opened}
use Rattle.view_world.proofs.screen.Screen.open.Goals as goal

pub returns-in-Ok-clause-changed : goal.returns-in-Ok-clause-changed
returns-in-Ok-clause-changed c =
    let now = at_stage (keyed c.self.inside) c.self.inside.tree c.self.inside.stage in
    let new = at_stage (record (keyed c.self.inside) { surface = c.reset.new.self }) c.self.inside.tree NoFrame in
    let wide : pos 0 ≤ℤ c.args.size.w = omega (arith, ints, c.requires.width.0) in
    let high : pos 0 ≤ℤ c.args.size.h = omega (arith, ints, c.requires.height.0) in
    let opened = Changed-window now c.args.size c.reset.new.self wide high c.in-Ok.ensures.value in
    (ap (λ (w : World). Done w []) (subst (λ (w : KeyedScreen). with_window (world_of w) c.args.size ≡ world_of new) c.self.view_is opened), tt)

pub invariant_of-self-in-Ok : goal.invariant_of-self-in-Ok
invariant_of-self-in-Ok c = record {
  consistent = c.self.invariant.consistent;
  caught = c.self.invariant.caught;
  closed = c.self.invariant.closed;
  room = c.self.invariant.room;
  armable = c.self.invariant.armable;
  down = c.self.invariant.down;
  narrow = c.self.invariant.narrow;
  offsets = c.self.invariant.offsets;
  shows = shows_none c.reset.new.self c.damage_all.new.damage.rect c.self.inside.tree (rw c.size.ensures.value at c.damage_all.ensures.whole);
}

pub returns-in-Ok-clause-opened : goal.returns-in-Ok-clause-opened
returns-in-Ok-clause-opened c = black_opened c.args.size c.reset.new.self c.in-Ok.ensures.value
