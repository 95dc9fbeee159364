-- What a view does with an event itself, and what a group is asked about one.
use Rattle.std.specs.Prelude.{ℕ, ◌==◌, ℤ, pos, ◌+ℤ◌, int_le, Bool, true, false, ◌&&◌, ◌||◌, not, if◌then◌else◌, List}
use Rattle.std.specs.Prelude.{[], ◌∷◌, ◌++◌, Option, Some, None, bit_and, length}
use Rattle.touch_dispatch.specs.handling.Drags.{asked_drag, pulled}
use Rattle.touch_dispatch.specs.gesture.Gestures.{PlainGesture, at_number, set_drag, set_pressed}
use Rattle.touch_dispatch.specs.reaching.Points.{is_near_first}
use Rattle.touch_dispatch.specs.declared.log.Entry.{Entry}
use Rattle.touch_dispatch.specs.declared.log.Kind.{Kind}
use Rattle.touch_dispatch.specs.declared.log.Kind.TheVariants.{Ask, Touch, Click, Scroll}
use Rattle.touch_dispatch.specs.declared.handling.receiver.Receiver.{Receiver}
use Rattle.touch_event.specs.declared.event.Action.{Action}
use Rattle.touch_event.specs.declared.event.Action.TheVariants.{Down, Up, Move, Cancel, PointerDown, PointerUp}
use Rattle.touch_event.specs.declared.event.Event.{Event}
use Rattle.touch_targets.specs.Captures.{Target}
use Rattle.view_model.specs.declared.answer.Answer.{Answer}
use Rattle.view_model.specs.declared.answer.Answer.TheVariants.{Off, Yes, Click as ClickPlan}
use Rattle.view_model.specs.ScrollView.{offset_within}

-- the progress of an event: the gesture and the offsets after it so far, and which views it went to
pub record Progress : Type 0 where
  pub gesture : PlainGesture
  -- by number of the view
  pub offsets : ℕ → ℤ
  pub entries : List Entry

pub record Reached : Type 0 where
  pub yes : Bool
  pub progress : Progress

-- one entry more, with an offset
abbrev pub noted_with : ℤ → ℕ → Kind → Event → Bool → Progress → Progress
noted_with offset view kind event said progress = record progress {
  entries = progress.entries ++ record { view = view; kind = kind; event = event; yes = said; offset = offset } ∷ [];
}

abbrev pub noted : ℕ → Kind → Event → Bool → Progress → Progress
noted view kind event said progress = noted_with (pos 0) view kind event said progress

abbrev pub with_gesture : (PlainGesture → PlainGesture) → Progress → Progress
with_gesture change progress = record progress { gesture = change progress.gesture }

-- how many entries there are
abbrev pub many : Progress → ℕ
many progress = length progress.entries

abbrev pub targets_at : Progress → ℕ → List Target
targets_at progress group = progress.gesture.targets group

abbrev pub is_down : Action → Bool
is_down Down = true
is_down Up = false
is_down Move = false
is_down Cancel = false
is_down PointerDown = false
is_down PointerUp = false

abbrev pub is_cancel : Action → Bool
is_cancel Down = false
is_cancel Up = false
is_cancel Move = false
is_cancel Cancel = true
is_cancel PointerDown = false
is_cancel PointerUp = false

abbrev pub is_nil : {A : Type 0} → List A → Bool
is_nil [] = true
is_nil (x ∷ xs) = false

-- a view handles an event itself, by its plan

-- a view stays pressed
abbrev pub pressed_after : Action → Bool → Bool → Bool
pressed_after Down near pressed = near
pressed_after Move near pressed = pressed && near
pressed_after Up near pressed = false
pressed_after Cancel near pressed = false
pressed_after PointerDown near pressed = pressed
pressed_after PointerUp near pressed = pressed

-- it clicks
abbrev pub clicks : Action → Bool → Bool → Bool
clicks Down near pressed = false
clicks Move near pressed = false
clicks Up near pressed = pressed && near
clicks Cancel near pressed = false
clicks PointerDown near pressed = false
clicks PointerUp near pressed = false

abbrev pub click_noted : Bool → ℕ → Event → Progress → Progress
click_noted false view event progress = progress
click_noted true view event progress = noted view Click event true progress

abbrev pub click_handled : Receiver → Event → Progress → Progress
click_handled own event progress =
    let near = is_near_first own.rect own.slop event.points.items in
    let pressed = progress.gesture.presses own.number in
    click_noted (clicks event.action near pressed) own.number event
    (with_gesture (set_pressed own.number (pressed_after event.action near pressed)) progress)

abbrev pub handled_by : Answer → Receiver → Event → Progress → Reached
handled_by Off own event progress = record { yes = false; progress = noted own.number Touch event false progress }
handled_by Yes own event progress = record { yes = true; progress = noted own.number Touch event true progress }
handled_by ClickPlan own event progress =
    record { yes = true; progress = click_handled own event (noted own.number Touch event true progress) }

-- a scroll view handles an event itself

unfoldable pub is_same_offset : ℤ → ℤ → Bool
is_same_offset old new = int_le old new && int_le new old

-- the child is moved up to this offset, and that is reported if it is another
abbrev pub scrolled_to : ℤ → ℕ → Event → Progress → Progress
scrolled_to offset number event progress =
    if is_same_offset (progress.offsets number) offset
    then progress
    else noted_with offset number Scroll event true
    (record progress { offsets = at_number number offset progress.offsets })

abbrev pub offset_after : ℤ → ℤ → ℤ → ℤ
offset_after range offset way = offset_within range (offset +ℤ way)

-- the child is moved this far up, within its range
abbrev pub moved_by : Option ℤ → Receiver → Event → Progress → Progress
moved_by None own event progress = progress
moved_by (Some way) own event progress =
    scrolled_to (offset_after own.range (progress.offsets own.number) way) own.number event progress

abbrev pub drag_answer : Bool → Action → Bool
drag_answer childless action = not (childless && is_down action)

abbrev pub drag_handled : Receiver → Event → Progress → Reached
drag_handled own event progress =
    let said = drag_answer own.childless event.action in
    let pull = pulled own.slop event (progress.gesture.drags own.number) in
    record {
      yes = said;
      progress =
          moved_by pull.by own event
          (with_gesture (set_drag own.number pull.drag) (noted own.number Touch event said progress));
    }

abbrev pub handled : Receiver → Event → Progress → Reached
handled own event progress =
    if own.scrolls then drag_handled own event progress else handled_by own.answer own event progress

-- a group is asked whether it takes an event away from its children

-- the bit of an action in a plan of interception
abbrev pub plan_bit : Action → ℕ
plan_bit Down = 1
plan_bit Up = 2
plan_bit Move = 4
plan_bit Cancel = 8
plan_bit PointerDown = 16
plan_bit PointerUp = 32

abbrev pub is_planned : ℕ → Action → Bool
is_planned plan action = not (bit_and plan (plan_bit action) == 0)

-- a scroll view looks at the event first
abbrev pub looked : Receiver → Event → PlainGesture → PlainGesture
looked own event gesture =
    if own.scrolls
    then set_drag own.number (asked_drag own.range own.slop event (gesture.drags own.number)) gesture
    else gesture

-- by its plan, and while it drags
abbrev pub intercepts : Receiver → Event → PlainGesture → Bool
intercepts own event gesture =
    is_planned own.intercept event.action || (own.scrolls && (gesture.drags own.number).dragging)

abbrev pub answered_ask : Receiver → Event → Progress → Reached
answered_ask own event progress =
    let looked_on = with_gesture (looked own event) progress in
    let said = intercepts own event looked_on.gesture in
    record { yes = said; progress = noted own.number Ask event said looked_on }

-- it is asked on down, and if it has targets; otherwise it takes the event without a question
abbrev pub asked : Receiver → Event → Progress → Reached
asked own event progress =
    if is_down event.action || not (is_nil (targets_at progress own.number))
    then (if progress.gesture.disallows own.number
    then record { yes = false; progress = progress }
    else answered_ask own event progress)
    else record { yes = true; progress = progress }
