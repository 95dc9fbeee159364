use Rattle.std.proofs.Common.{◌≡◌, [], false, refl, sym, ◌∙◌, ap}
use Rattle.touch_dispatch.specs.handling.Handling.{is_nil}
use Rattle.view_world.specs.screen.KeyedScreen.{KeyedScreen}
use Rattle.view_world.proofs.edits.LeaveLaws.{nil-length}
use Rattle.view_world.proofs.touches.TouchLaws.{Changed-cancel}
use Rattle.view_world.proofs.screen.Screen.cancel.Goals as goal

pub returns-clause-changed : goal.returns-clause-changed
returns-clause-changed c =
    let now = c.args.self.now in
    let held : c.self.inside.pointers.items ≡ now.pointers = ap (λ (w : KeyedScreen). w.pointers) c.self.view_is in
    let some : is_nil now.pointers ≡ false = sym (sym c.if-is_empty.false ∙ c.is_empty.ensures ∙ nil-length c.self.inside.pointers.items ∙ ap is_nil held) in
    Changed-cancel now c.hand.new.self [] c.event_of-event.result c.hand.result c.in_ok-touchable.ensures.1 some refl c.event_of-event.ensures c.hand.ensures.changed
