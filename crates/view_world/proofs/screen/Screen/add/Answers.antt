use Rattle.std.proofs.Common.{ap}
use Rattle.std.proofs.lemmas.Int.{to_z-of_z}
use Rattle.view_world.specs.screen.KeyedScreen.{KeyedScreen}
use Rattle.view_world.proofs.worlds.WorldLaws.{Changed-on}
use Rattle.view_world.proofs.edits.NamedLaws.{named_on}
use Rattle.view_world.proofs.screen.Screen.add.Goals as goal

pub returns-clause-changed : goal.returns-clause-changed
returns-clause-changed c =
    let changed = simp (to_z-of_z, c.ranges.width, c.ranges.height) at c.grow.ensures.changed in
    rw c.in-Some.is
    (Changed-on c.self.inside.tree c.args.self.now c.grow.new.self c.in-Some.parent c.in_ok-parent.parent _ c.grow.result
    (ap (λ (w : KeyedScreen). w.views) c.self.view_is) c.in_ok-parent.ensures.1 changed)

pub returns-clause-keeps : goal.returns-clause-keeps
returns-clause-keeps c =
    rw (
      c.in-Some.is,
      named_on c.self.inside.tree c.args.self.now c.in-Some.parent c.in_ok-parent.parent (ap (λ (w : KeyedScreen). w.views) c.self.view_is) c.in_ok-parent.ensures.1,
    ) c.grow.ensures.keeps
