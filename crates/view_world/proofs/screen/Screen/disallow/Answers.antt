use Rattle.std.proofs.Common.{◌≡◌, true, false, Ok, Err, ap, sym, subst, ◌∙◌, ◌∷◌}
use Rattle.view_model.specs.Classes.{is_group}
use Rattle.view_model.specs.PlainTree.{view_in}
use Rattle.view_model.specs.Refusals.{plain_refusal}
use Rattle.view_tree.specs.Views.{number_of, plain_of, view_at}
use Rattle.view_tree.proofs.forest.PlainLaws.{number_there}
use Rattle.touch_dispatch.specs.gesture.Kept.{gesture_of}
use Rattle.view_world.specs.screen.Changed.{CarriesOut}
use Rattle.view_world.specs.screen.KeyedScreen.{KeyedScreen, world_of}
use Rattle.view_world.specs.screen.Sound.{keyed}
use Rattle.view_world.specs.world.Step.{disallow_reported}
use Rattle.world_parts.specs.Reply.{Refused}
use Rattle.world_parts.specs.Touching.{ancestors_of}
use Rattle.world_parts.specs.declared.fault.StepFault.TheVariants as fault
use Rattle.world_replies.specs.declared.response.Response.TheVariants as response
use Rattle.view_world.proofs.touches.TouchLaws.{Changed-disallow, Refused-disallow, closed_along, gesture_along, targets-disallowed}
use Rattle.view_world.proofs.worlds.WorldLaws.{Changed-on}
use Rattle.view_world.proofs.screen.Screen.disallow.Goals as goal

pub returns-then-not-is_group-clause-changed : goal.returns-then-not-is_group-clause-changed
returns-then-not-is_group-clause-changed c =
    let tree = c.self.inside.tree in
    let view = c.in_ok-view.view in
    let there = number_there tree view c.class.ensures.is_tree c.in_ok-view.ensures.0 in
    let no_group : is_group (view_at tree view).class ≡ false = ap is_group (sym c.class.ensures.value) ∙ sym c.is_group.ensures ∙ c.if-not-is_group.true in
    Changed-on tree c.args.self.now c.args.self.now c.args.view view _ (Err (fault.Refused c.plain.result)) (ap (λ (w : KeyedScreen). w.views) c.self.view_is) c.in_ok-view.ensures.1
    (subst (λ (w : KeyedScreen). disallow_reported (world_of w) (number_of w.views view) c.args.on (view_in (plain_of w.views) (number_of w.views view)) ≡ Refused (plain_refusal c.plain.result)) c.self.view_is
    (Refused-disallow (keyed c.self.inside) (number_of tree view) c.args.on (view_at tree view) there no_group ∙ ap Refused (sym c.plain.ensures)))

pub invariant_of-self : goal.invariant_of-self
invariant_of-self c =
    let tree = c.self.inside.tree in
    let old = c.self.inside.gesture in
    let new = c.disallow_from.new.gesture in
    let number = number_of tree c.in_ok-view.view in
    let same = ap (λ gesture. gesture.targets) c.disallow_from.ensures.gesture ∙ targets-disallowed c.args.on (number ∷ ancestors_of number (plain_of tree)) (gesture_of old) in
    record {
      consistent = c.self.invariant.consistent;
      caught = gesture_along tree.tree old new c.disallow_from.ensures.opened same c.self.invariant.caught;
      closed = closed_along tree.tree old new c.disallow_from.ensures.opened c.self.invariant.closed;
      room = c.self.invariant.room;
      armable = c.self.invariant.armable;
      down = c.self.invariant.down;
      narrow = c.self.invariant.narrow;
      offsets = c.self.invariant.offsets;
      shows = c.self.invariant.shows;
    }

pub returns-clause-changed : goal.returns-clause-changed
returns-clause-changed c =
    let old = keyed c.self.inside in
    let tree = c.self.inside.tree in
    let view = c.in_ok-view.view in
    let new : KeyedScreen = record old { gesture = c.disallow_from.new.gesture } in
    let there = number_there tree view c.class.ensures.is_tree c.in_ok-view.ensures.0 in
    let group : is_group (view_at tree view).class ≡ true = ap is_group (sym c.class.ensures.value) ∙ sym c.is_group.ensures ∙ c.if-not-is_group.false in
    Changed-on tree c.args.self.now new c.args.view view _ (Ok response.Nothing) (ap (λ (w : KeyedScreen). w.views) c.self.view_is) c.in_ok-view.ensures.1
    (subst (λ (w : KeyedScreen). CarriesOut (disallow_reported (world_of w) (number_of w.views view) c.args.on (view_in (plain_of w.views) (number_of w.views view))) new (Ok response.Nothing)) c.self.view_is
    (Changed-disallow old c.disallow_from.new.gesture (number_of tree view) c.args.on (view_at tree view) there group c.disallow_from.ensures.gesture))
