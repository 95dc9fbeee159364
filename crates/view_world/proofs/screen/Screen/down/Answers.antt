use Rattle.std.proofs.Common.{◌≡◌, false, sym, ◌∙◌, ap}
use Rattle.std.proofs.lemmas.Int.{to_z-of_z}
use Rattle.touch_event.specs.Events.{event_of}
use Rattle.touch_event.specs.declared.event.Action.{Action}
use Rattle.touch_event.specs.declared.event.Event.{Event}
use Rattle.touch_event.specs.declared.event.Point.{Point}
use Rattle.view_world.specs.screen.KeyedScreen.{KeyedScreen}
use Rattle.world_parts.specs.Pointers.{down_action, is_pressed, with_point}
use Rattle.view_world.proofs.touches.TouchLaws.{Changed-down}
use Rattle.view_world.proofs.screen.Screen.down.Goals as goal

pub returns-clause-changed : goal.returns-clause-changed
returns-clause-changed c =
    let now = c.args.self.now in
    let point : Point = record { id = c.args.id; x = c.args.x; y = c.args.y } in
    let held : c.self.inside.pointers.items ≡ now.pointers = ap (λ (w : KeyedScreen). w.pointers) c.self.view_is in
    let pressed : is_pressed c.args.id now.pointers ≡ false = sym (sym c.if-is_pressed.false ∙ c.is_pressed.ensures ∙ ap (is_pressed c.args.id) (c.as_slice.ensures.value ∙ held)) in
    let action : c.down_action-action.result ≡ down_action now.pointers = c.down_action-action.ensures ∙ ap down_action (c.as_slice-2.ensures.value ∙ held) in
    let made = simp (to_z-of_z, c.ranges.x, c.ranges.y) at c.event_at-event.ensures.event in
    let event : c.event_at-event.result ≡ event_of (down_action now.pointers) c.args.id (with_point point now.pointers) =
    made ∙ ap (λ (action : Action). event_of action c.args.id (with_point point c.as_slice-3.result.now)) action
    ∙ ap (λ points. event_of (down_action now.pointers) c.args.id (with_point point points)) (c.as_slice-3.ensures.value ∙ held) in
    let points : c.as_slice-4.result.now ≡ with_point point now.pointers = c.as_slice-4.ensures.value ∙ ap (λ (e : Event). e.points.items) event in
    Changed-down now c.hand.new.self point c.as_slice-4.result.now c.event_at-event.result c.hand.result c.in_ok-touchable.ensures.1 pressed points
    (event ∙ ap (event_of (down_action now.pointers) c.args.id) (sym points))
    c.hand.ensures.changed
