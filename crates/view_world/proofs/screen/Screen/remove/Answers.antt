use Rattle.std.proofs.Common.{ap}
use Rattle.view_world.specs.screen.KeyedScreen.{KeyedScreen}
use Rattle.view_world.proofs.worlds.WorldLaws.{Changed-on}
use Rattle.view_world.proofs.edits.NamedLaws.{named_on}
use Rattle.view_world.proofs.screen.Screen.remove.Goals as goal

pub returns-clause-changed : goal.returns-clause-changed
returns-clause-changed c =
    Changed-on c.self.inside.tree c.args.self.now c.take_away.new.self c.args.view c.in_ok-view.view _ c.take_away.result
    (ap (λ (w : KeyedScreen). w.views) c.self.view_is) c.in_ok-view.ensures.1 c.take_away.ensures.changed

pub returns-clause-keeps : goal.returns-clause-keeps
returns-clause-keeps c =
    rw (named_on c.self.inside.tree c.args.self.now c.args.view c.in_ok-view.view (ap (λ (w : KeyedScreen). w.views) c.self.view_is) c.in_ok-view.ensures.1) c.take_away.ensures.keeps
