use Rattle.std.proofs.Common.{◌≡◌, false, ap}
use Rattle.tree_edits.specs.Editing.{hides}
use Rattle.view_tree.specs.Views.{number_of}
use Rattle.view_world.specs.screen.KeyedScreen.{KeyedScreen, world_of}
use Rattle.view_world.specs.world.Step.{acted}
use Rattle.view_world.proofs.worlds.WorldLaws.{Changed-acted, Changed-on}
use Rattle.view_world.proofs.states.OffsetLaws.{bounds_within}
use Rattle.view_world.proofs.edits.NamedLaws.{named_on}
use Rattle.view_world.proofs.screen.Screen.act.Goals as goal

pub edit-requires-clause-scrolls : goal.edit-requires-clause-scrolls
edit-requires-clause-scrolls c = bounds_within c.args.act c.requires

pub returns-then-hides-clause-changed : goal.returns-then-hides-clause-changed
returns-then-hides-clause-changed c =
    Changed-on c.self.inside.tree c.args.self.now c.hide.new.self c.args.view c.in_ok-view.view (λ number. acted (world_of c.args.self.now) number c.args.act) c.hide.result
    (ap (λ (w : KeyedScreen). w.views) c.self.view_is) c.in_ok-view.ensures.1 c.hide.ensures.changed

pub returns-else-hides-clause-changed : goal.returns-else-hides-clause-changed
returns-else-hides-clause-changed c =
    let stays : hides c.args.act ≡ false = let said = c.if-hides.ensures in cc in
    let number = number_of c.args.self.now.views c.in_ok-view.view in
    Changed-on c.self.inside.tree c.args.self.now c.edit.new.self c.args.view c.in_ok-view.view (λ number. acted (world_of c.args.self.now) number c.args.act) c.edit.result
    (ap (λ (w : KeyedScreen). w.views) c.self.view_is) c.in_ok-view.ensures.1
    (Changed-acted (world_of c.args.self.now) number c.args.act c.edit.new.self c.edit.result stays c.edit.ensures.changed)

pub returns-then-hides-clause-keeps : goal.returns-then-hides-clause-keeps
returns-then-hides-clause-keeps c =
    rw (named_on c.self.inside.tree c.args.self.now c.args.view c.in_ok-view.view (ap (λ (w : KeyedScreen). w.views) c.self.view_is) c.in_ok-view.ensures.1) c.hide.ensures.keeps

pub returns-else-hides-clause-keeps : goal.returns-else-hides-clause-keeps
returns-else-hides-clause-keeps c =
    rw (named_on c.self.inside.tree c.args.self.now c.args.view c.in_ok-view.view (ap (λ (w : KeyedScreen). w.views) c.self.view_is) c.in_ok-view.ensures.1) c.edit.ensures.keeps
