use Rattle.std.proofs.Common.{ap, sym, subst, ◌∙◌, ◌≡◌, Some, None}
use Rattle.std.specs.Option.{option_map}
use Rattle.view_tree.specs.Views.{IsLive, IsTree, held_of, number_of, plain_of, plain_rows}
use Rattle.view_tree.proofs.forest.PlainLaws.{number_there}
use Rattle.view_world.specs.screen.KeyedScreen.{KeyedScreen, world_of}
use Rattle.world_parts.specs.Naming.{named}
use Rattle.world_parts.specs.Reply.{Refused}
use Rattle.view_world.proofs.worlds.WorldLaws.{Changed-all-bounds, Changed-bounds, Changed-no-bounds, touchable-some}
use Rattle.view_world.proofs.screen.Screen.bounds.Goals as goal

pub returns-in-Some-find-clause-changed : goal.returns-in-Some-find-clause-changed
returns-in-Some-find-clause-changed c =
    let view = c.in-Some-find.view in
    let here : Some (number_of c.self.inside.tree view) ≡ named (plain_of c.self.inside.tree) c.in-Some.name =
    ap (option_map (number_of c.self.inside.tree)) (sym c.in-Some-find.is) ∙ c.find.ensures.number in
    let live = subst (λ (w : KeyedScreen). IsLive w.views view) c.self.view_is c.in-Some-find.ensures.live in
    let found = subst (λ (w : KeyedScreen). Some (number_of w.views view) ≡ named (plain_of w.views) c.in-Some.name) c.self.view_is here in
    let there = number_there c.args.self.now.views view (subst (λ (w : KeyedScreen). IsTree w.views) c.self.view_is c.recall_tree.ensures) live in
    (Changed-bounds c.args.self.now c.args.view c.in-Some.name view c.in_ok-touchable.ensures.0 c.in_ok-touchable.ensures.1 c.in-Some.is found there, live)

pub returns-in-None-clause-changed : goal.returns-in-None-clause-changed
returns-in-None-clause-changed c =
    let absent : named (plain_of c.self.inside.tree) c.in-Some.name ≡ None =
    sym c.find.ensures.number ∙ ap (option_map (number_of c.self.inside.tree)) c.in-None.is in
    Changed-no-bounds c.args.self.now c.args.view c.in-Some.name c.in_ok-touchable.ensures.1 c.in-Some.is
    (subst (λ (w : KeyedScreen). named (plain_of w.views) c.in-Some.name ≡ None) c.self.view_is absent)
    ∙ ap Refused (sym c.plain.ensures)

pub returns-in_default-clause-changed : goal.returns-in_default-clause-changed
returns-in_default-clause-changed c =
    let now = c.args.self.now in
    let touchable = c.in_ok-touchable.ensures.1 in (
      Changed-all-bounds now c.args.view c.in_ok-touchable.ensures.0 touchable c.in_default.is,
      λ e. touchable-some (world_of now) touchable (ap (plain_rows (held_of now.views)) e),
    )
