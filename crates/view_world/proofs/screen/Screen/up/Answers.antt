use Rattle.std.proofs.Common.{◌≡◌, true, sym, ◌∙◌, ap}
use Rattle.touch_event.specs.Events.{event_of}
use Rattle.touch_event.specs.declared.event.Action.{Action}
use Rattle.view_world.specs.screen.KeyedScreen.{KeyedScreen}
use Rattle.world_parts.specs.Pointers.{is_pressed, up_action, without_point}
use Rattle.view_world.proofs.touches.TouchLaws.{Changed-up}
use Rattle.view_world.proofs.screen.Screen.up.Goals as goal

pub returns-clause-changed : goal.returns-clause-changed
returns-clause-changed c =
    let now = c.args.self.now in
    let held : c.self.inside.pointers.items ≡ now.pointers = ap (λ (w : KeyedScreen). w.pointers) c.self.view_is in
    let pressed : is_pressed c.args.id now.pointers ≡ true = sym (sym c.if-not-is_pressed.false ∙ c.is_pressed.ensures ∙ ap (is_pressed c.args.id) (c.as_slice.ensures.value ∙ held)) in
    let others = c.without_point-others.result.items in
    let action : c.up_action-action.result ≡ up_action others = c.up_action-action.ensures ∙ ap up_action c.as_slice-3.ensures.value in
    Changed-up now c.hand.new.self c.args.id others c.event_of-event.result c.hand.result c.in_ok-touchable.ensures.1 pressed
    (c.without_point-others.ensures.points ∙ ap (without_point c.args.id) (c.as_slice-2.ensures.value ∙ held))
    (c.event_of-event.ensures ∙ ap (λ (action : Action). event_of action c.args.id c.as_slice-4.result.now) action ∙ ap (event_of (up_action others) c.args.id) (c.as_slice-4.ensures.value ∙ held))
    (rw c.as_slice-5.ensures.value at c.hand.ensures.changed)
