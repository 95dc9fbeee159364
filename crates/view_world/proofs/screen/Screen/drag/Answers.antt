use Rattle.std.proofs.Common.{◌≡◌, true, sym, ◌∙◌, ap}
use Rattle.std.proofs.lemmas.Int.{to_z-of_z}
use Rattle.touch_event.specs.Events.{event_of}
use Rattle.touch_event.specs.declared.event.Action.TheVariants.{Move}
use Rattle.touch_event.specs.declared.event.Event.{Event}
use Rattle.touch_event.specs.declared.event.Point.{Point}
use Rattle.view_world.specs.screen.KeyedScreen.{KeyedScreen}
use Rattle.world_parts.specs.Pointers.{is_pressed, with_point}
use Rattle.view_world.proofs.frames.RestLaws.{touch_keeps}
use Rattle.view_world.proofs.touches.TouchLaws.{Changed-move}
use Rattle.view_world.proofs.screen.Screen.drag.Goals as goal

pub returns-clause-changed : goal.returns-clause-changed
returns-clause-changed c =
    let now = c.args.self.now in
    let point : Point = record { id = c.args.id; x = c.args.x; y = c.args.y } in
    let held : c.self.inside.pointers.items ≡ now.pointers = ap (λ (w : KeyedScreen). w.pointers) c.self.view_is in
    let pressed : is_pressed c.args.id now.pointers ≡ true = sym (sym c.if-not-is_pressed.false ∙ c.is_pressed.ensures ∙ ap (is_pressed c.args.id) (c.as_slice.ensures.value ∙ held)) in
    let made = simp (to_z-of_z, c.ranges.x, c.ranges.y) at c.event_at-event.ensures.event in
    let event : c.event_at-event.result ≡ event_of Move c.args.id (with_point point now.pointers) =
    made ∙ ap (λ points. event_of Move c.args.id (with_point point points)) (c.as_slice-2.ensures.value ∙ held) in
    let points : c.as_slice-3.result.now ≡ with_point point now.pointers = c.as_slice-3.ensures.value ∙ ap (λ (e : Event). e.points.items) event in
    Changed-move now c.hand.new.self point c.as_slice-3.result.now c.event_at-event.result c.hand.result c.in_ok-touchable.ensures.1 pressed points
    (event ∙ ap (event_of Move c.args.id) (sym points))
    c.hand.ensures.changed

pub returns-clause-keeps : goal.returns-clause-keeps
returns-clause-keeps c =
    let now = c.args.self.now in
    let point : Point = record { id = c.args.id; x = c.args.x; y = c.args.y } in
    let held : c.self.inside.pointers.items ≡ now.pointers = ap (λ (w : KeyedScreen). w.pointers) c.self.view_is in
    let made = simp (to_z-of_z, c.ranges.x, c.ranges.y) at c.event_at-event.ensures.event in
    let event : c.event_at-event.result ≡ event_of Move c.args.id (with_point point now.pointers) =
    made ∙ ap (λ points. event_of Move c.args.id (with_point point points)) (c.as_slice-2.ensures.value ∙ held) in
    touch_keeps now c.hand.new.self c.event_at-event.result _ event c.hand.ensures.keeps
