-- How lines that touch views change the world of a script.
use Rattle.std.proofs.Common.{◌≡◌, ℕ, Bool, true, false, List, [], ◌∷◌, Some, refl, sym, ◌∙◌, ap, subst}
use Rattle.std.specs.Prelude.{Ok}
use Rattle.touch_dispatch.specs.handling.Handling.{is_nil}
use Rattle.touch_dispatch.specs.gesture.Gestures.{PlainGesture, set_disallow}
use Rattle.touch_dispatch.specs.gesture.Kept.{Kept, gesture_of, is_open}
use Rattle.touch_dispatch.specs.reaching.TreeEvents.{IsGestureIn}
use Rattle.touch_event.specs.Events.{event_of}
use Rattle.touch_event.specs.declared.event.Action.TheVariants.{Move as Moved, Cancel as Cancelled}
use Rattle.touch_event.specs.declared.event.Event.{Event}
use Rattle.touch_event.specs.declared.event.Point.{Point}
use Rattle.touch_targets.specs.Captures.{Target, is_target}
use Rattle.view_model.specs.Forest.{Forest}
use Rattle.view_model.specs.Classes.{is_group}
use Rattle.view_model.specs.PlainTree.{PlainView, view_in}
use Rattle.view_model.specs.Refusals.{refusal_numbered}
use Rattle.view_model.specs.Numbers.{wrong_class}
use Rattle.view_tree.specs.Rows.{Row}
use Rattle.view_tree.specs.Views.{plain_of}
use Rattle.world_parts.specs.World.{World}
use Rattle.view_world.specs.screen.Changed.{CarriesOut}
use Rattle.view_world.specs.screen.KeyedScreen.{KeyedScreen, world_of}
use Rattle.world_parts.specs.Pointers.{down_action, is_pressed, up_action, with_point, without_point}
use Rattle.world_parts.specs.Places.{HasNoneElse}
use Rattle.world_parts.specs.Reply.{Reply, Done, Refused}
use Rattle.view_world.specs.world.Step.{after_event, disallow_reported, lifted, moved, put_down, taken_away, touched}
use Rattle.world_parts.specs.Touching.{all_disallowed, ancestors_of}
use Rattle.world_replies.specs.declared.response.Response.{Response}
use Rattle.world_replies.specs.declared.response.Response.TheVariants as response
use Rattle.view_world.proofs.worlds.WorldLaws.{Changed-as}

-- whatever is done with a touch is the reply
abbrev pub Touchable : KeyedScreen → Type 0
Touchable now = (next : Reply) → touched (world_of now) next ≡ next

-- a pointer that is down moves
pub Changed-move : (now new : KeyedScreen) (point : Point) (pointers : List Point) (event : Event) (response : Response)
    → Touchable now → is_pressed point.id now.pointers ≡ true
    → pointers ≡ with_point point now.pointers → event ≡ event_of Moved point.id pointers
    → CarriesOut (after_event (world_of now) event pointers) new (Ok response)
    → CarriesOut (touched (world_of now) (moved (world_of now) point)) new (Ok response)
Changed-move now new point pointers event response touchable pressed are is changed =
    let made : moved (world_of now) point ≡ after_event (world_of now) event pointers = rw (pressed, is, are) refl in
    Changed-as _ _ new (Ok response) (touchable (moved (world_of now) point) ∙ made) changed

-- a pointer that is not down yet goes down
pub Changed-down : (now new : KeyedScreen) (point : Point) (pointers : List Point) (event : Event) (response : Response)
    → Touchable now → is_pressed point.id now.pointers ≡ false
    → pointers ≡ with_point point now.pointers → event ≡ event_of (down_action now.pointers) point.id pointers
    → CarriesOut (after_event (world_of now) event pointers) new (Ok response)
    → CarriesOut (touched (world_of now) (put_down (world_of now) point)) new (Ok response)
Changed-down now new point pointers event response touchable pressed are is changed =
    let made : put_down (world_of now) point ≡ after_event (world_of now) event pointers = rw (pressed, is, are) refl in
    Changed-as _ _ new (Ok response) (touchable (put_down (world_of now) point) ∙ made) changed

-- a pointer that is down goes up
pub Changed-up : (now new : KeyedScreen) (id : ℕ) (others : List Point) (event : Event) (response : Response)
    → Touchable now → is_pressed id now.pointers ≡ true
    → others ≡ without_point id now.pointers → event ≡ event_of (up_action others) id now.pointers
    → CarriesOut (after_event (world_of now) event others) new (Ok response)
    → CarriesOut (touched (world_of now) (lifted (world_of now) id)) new (Ok response)
Changed-up now new id others event response touchable pressed are is changed =
    let made : lifted (world_of now) id ≡ after_event (world_of now) event others = rw (pressed, is, are) refl in
    Changed-as _ _ new (Ok response) (touchable (lifted (world_of now) id) ∙ made) changed

-- all pointers that are down are taken away
pub Changed-cancel : (now new : KeyedScreen) (pointers : List Point) (event : Event) (response : Response)
    → Touchable now → is_nil now.pointers ≡ false → pointers ≡ [] → event ≡ event_of Cancelled 0 []
    → CarriesOut (after_event (world_of now) event pointers) new (Ok response)
    → CarriesOut (touched (world_of now) (taken_away (world_of now))) new (Ok response)
Changed-cancel now new pointers event response touchable some are is changed =
    let made : taken_away (world_of now) ≡ after_event (world_of now) event pointers = rw (some, is, are) refl in
    Changed-as _ _ new (Ok response) (touchable (taken_away (world_of now)) ∙ made) changed

-- a group may not take events away from its children, nor may its ancestors, or they may again
pub Changed-disallow : (now : KeyedScreen) (kept : Kept) (number : ℕ) (on : Bool) (view : PlainView) → view_in (plain_of now.views) number ≡ Some view → is_group view.class ≡ true
    → gesture_of kept ≡ all_disallowed on (number ∷ ancestors_of number (plain_of now.views)) (gesture_of now.gesture)
    → CarriesOut (disallow_reported (world_of now) number on (view_in (plain_of now.views) number)) (record now { gesture = kept }) (Ok response.Nothing)
Changed-disallow now kept number on view there group is =
    (rw (there, group) (ap (λ (gesture : PlainGesture). let w : World = record (world_of now) { gesture = gesture } in Done w []) (sym is)), tt)

pub Refused-disallow : (now : KeyedScreen) (number : ℕ) (on : Bool) (view : PlainView) → view_in (plain_of now.views) number ≡ Some view → is_group view.class ≡ false
    → disallow_reported (world_of now) number on (view_in (plain_of now.views) number) ≡ Refused (refusal_numbered wrong_class)
Refused-disallow now number on view there no_group = rw (there, no_group) refl

-- the targets do not depend on which groups may take events away
pub targets-disallowed : (on : Bool) (numbers : List ℕ) (gesture : PlainGesture) → (all_disallowed on numbers gesture).targets ≡ gesture.targets
targets-disallowed on [] gesture = refl
targets-disallowed on (number ∷ numbers) gesture = targets-disallowed on numbers (set_disallow number on gesture)

-- a gesture with the same places and the same targets
pub gesture_along : (tree : Forest Row) (old new : Kept) → ((other : ℕ) → is_open new other ≡ is_open old other) → (gesture_of new).targets ≡ (gesture_of old).targets
    → IsGestureIn tree old → IsGestureIn tree new
gesture_along tree old new places same caught = record {
  opened = λ key live. places _ ∙ caught.opened key live;
  children = λ group child is. caught.children group child (subst (λ (targets : ℕ → List Target). is_target child (targets group) ≡ true) same is);
}

pub closed_along : (tree : Forest Row) (old new : Kept) → ((other : ℕ) → is_open new other ≡ is_open old other) → HasNoneElse tree old → HasNoneElse tree new
closed_along tree old new places closed = λ number none. places number ∙ closed number none
