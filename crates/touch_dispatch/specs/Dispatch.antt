-- How an event goes through a tree. Only `event_children` goes down the tree; the rules of a group are functions over
-- the list of its children.
use Rattle.std.specs.Prelude.{ℕ, ◌==◌, ℤ, pos, nat_lt, Bool, true, false, ◌&&◌, ◌||◌, not, if◌then◌else◌, List, [], ◌∷◌}
use Rattle.std.specs.Prelude.{Option, Some, None, find, is_some}
use Rattle.std.specs.Option.{option_map, unwrap_or}
use Rattle.geom_core.specs.declared.geometry.Rect.{Rect}
use Rattle.touch_dispatch.specs.gesture.Gestures.{PlainGesture, cleared, set_targets, without_target}
use Rattle.touch_dispatch.specs.handling.Handling.{Progress, Reached, asked, handled, is_cancel, is_down, is_nil}
use Rattle.touch_dispatch.specs.handling.Handling.{targets_at, with_gesture}
use Rattle.touch_dispatch.specs.reaching.Points.{cancel_event, is_tried, local_event}
use Rattle.touch_dispatch.specs.declared.handling.receiver.Receiver.{Receiver}
use Rattle.touch_dispatch.specs.declared.reaching.taker.Taker.{Taker}
use Rattle.touch_dispatch.specs.declared.reaching.taker.Taker.TheVariants.{NoChild, Earlier, Sent}
use Rattle.touch_event.specs.Numbers.{max_pointers}
use Rattle.touch_event.specs.Splitting.{split_event}
use Rattle.touch_event.specs.declared.event.Action.{Action}
use Rattle.touch_event.specs.declared.event.Action.TheVariants.{Down, Up, Move, Cancel, PointerDown, PointerUp}
use Rattle.touch_event.specs.declared.event.Event.{Event}
use Rattle.touch_targets.specs.Captures.{Target, drop_pointers, is_target, put_target}
use Rattle.view_model.specs.Facts.{is_shown}
use Rattle.view_model.specs.Forest.{Forest, Nothing, Branch}
use Rattle.view_model.specs.Geometry.{size_of_rect}
use Rattle.view_model.specs.Classes.{is_group, scrolls}
use Rattle.view_model.specs.PlainTree.{PlainView}
use Rattle.view_model.specs.ScrollView.{scroll_range}
use Rattle.view_model.specs.declared.facts.Facts.{Facts}

-- what does not change while an event goes through the tree: the bounds of views, by number, and how far a pointer may
-- slip
pub record Scene : Type 0 where
  pub rects : ℕ → Option Rect
  pub slop : ℤ

-- a child as its group sees it: what it is, and the effect of an event that it gets
pub record EventChild : Type 0 where
  pub view : PlainView
  pub reach : Event → Progress → Reached

-- a view that handles an event itself

abbrev pub first_rect : Scene → List EventChild → Option Rect
first_rect scene [] = None
first_rect scene (kid ∷ kids) = scene.rects kid.view.number

-- the range of the offset of a view in this rectangle, whose child is in that one; if there is none, the range is empty
abbrev pub range_of : Facts → Option Rect → Option Rect → ℤ
range_of own None child = pos 0
range_of own (Some rect) child = scroll_range own (size_of_rect rect) (option_map size_of_rect child)

abbrev pub range_for : Bool → Facts → Option Rect → Option Rect → ℤ
range_for scrolls own rect child = if scrolls then range_of own rect child else pos 0

abbrev pub receiver : Scene → PlainView → List EventChild → Receiver
receiver scene own kids = record {
  number = own.number;
  scrolls = scrolls own.class;
  answer = own.facts.answer;
  intercept = own.facts.intercept;
  rect = scene.rects own.number;
  range = range_for (scrolls own.class) own.facts (scene.rects own.number) (first_rect scene kids);
  childless = is_nil kids;
  slop = scene.slop;
}

-- a group handles an event

-- the first pointer begins a gesture
abbrev pub begun : ℕ → Action → Progress → Progress
begun group action progress = if is_down action then with_gesture (cleared group) progress else progress

-- a child for the acting pointer, unless the group takes the event away from its children, which `asked` says

pub record Tried : Type 0 where
  pub taker : Taker
  pub progress : Progress

-- this pointer alone, and every pointer
abbrev pub only : ℕ → ℕ → Bool
only pointer id = id == pointer

abbrev pub every : ℕ → Bool
every id = nat_lt id max_pointers

abbrev pub acting_part : Event → Event
acting_part event = unwrap_or (split_event (only event.pointer) event) event

-- what a child gets that is tried
abbrev pub tried_event : Bool → Event → Event
tried_event split event = if split then acting_part event else event

-- the pointers that a child gets which was tried and took the event: the acting one, or all
abbrev pub tried_ids : Bool → Event → ℕ → Bool
tried_ids split event = if split then only event.pointer else every

abbrev pub taken_by : PlainView → Event → ℕ → Reached → Tried
taken_by own event child reached =
    if reached.yes
    then record {
      taker = Sent child;
      progress = with_gesture (set_targets own.number (put_target child
          (tried_ids own.facts.split event) (targets_at reached.progress own.number))) reached.progress;
    }
    else record { taker = NoChild; progress = reached.progress }

abbrev pub try_child : Scene → PlainView → Event → EventChild → Progress → Tried
try_child scene own event kid progress =
    if is_tried kid.view.facts.visibility (scene.rects kid.view.number) (progress.offsets own.number) event
    then (if is_target kid.view.number (targets_at progress own.number)
    then record {
      taker = Earlier;
      progress = with_gesture
          (set_targets own.number (put_target kid.view.number (only event.pointer) (targets_at progress own.number)))
          progress;
    }
    else taken_by own event kid.view.number
    (kid.reach (local_event (scene.rects kid.view.number) (progress.offsets own.number)
    (tried_event own.facts.split event)) progress))
    else record { taker = NoChild; progress = progress }

abbrev pub unless_taken : (Progress → Tried) → Taker → Progress → Tried
unless_taken next NoChild progress = next progress
unless_taken next Earlier progress = record { taker = Earlier; progress = progress }
unless_taken next (Sent child) progress = record { taker = Sent child; progress = progress }

-- from the last to the first, until one takes the pointer
abbrev pub try_children : Scene → PlainView → Event → List EventChild → Progress → Tried
try_children scene own event [] progress = record { taker = NoChild; progress = progress }
try_children scene own event (kid ∷ later) progress =
    let tried = try_children scene own event later progress in
    unless_taken (try_child scene own event kid) tried.taker tried.progress

-- the child of the oldest target, or this one where there is none
abbrev pub oldest_or : Option ℕ → List Target → Option ℕ
oldest_or newer [] = newer
oldest_or newer (t ∷ targets) = oldest_or (Some t.child) targets

abbrev pub oldest : List Target → Option ℕ
oldest targets = oldest_or None targets

-- the oldest target, if there is one, gets the pointer that no child took
abbrev pub given : Option ℕ → ℕ → ℕ → PlainGesture → PlainGesture
given None group pointer gesture = gesture
given (Some child) group pointer gesture =
    set_targets group (put_target child (only pointer) (gesture.targets group)) gesture

abbrev pub settled : ℕ → Event → Tried → Tried
settled group event tried =
    unless_taken
    (λ progress. record {
      taker = NoChild;
      progress = with_gesture (given (oldest (targets_at progress group)) group event.pointer) progress;
    })
    tried.taker tried.progress

-- the children are tried
abbrev pub is_offered : Action → Bool → Bool
is_offered Down split = true
is_offered PointerDown split = split
is_offered Up split = false
is_offered Move split = false
is_offered Cancel split = false
is_offered PointerUp split = false

abbrev pub offered : Scene → PlainView → List EventChild → Event → Bool → Progress → Tried
offered scene own kids event intercepted progress =
    if not intercepted && is_offered event.action own.facts.split
    then settled own.number event (try_children scene own event kids progress)
    else record { taker = NoChild; progress = progress }

abbrev pub is_taken : Taker → Bool
is_taken NoChild = false
is_taken Earlier = true
is_taken (Sent child) = true

abbrev pub is_sent : Taker → ℕ → Bool
is_sent NoChild child = false
is_sent Earlier child = false
is_sent (Sent forwarded) child = forwarded == child

-- a target's part of an event: if it is intercepted it gets a cancel, and a cancel goes whole
abbrev pub part_for : Option Rect → ℤ → Event → Bool → (ℕ → Bool) → Option Event
part_for rect offset event intercepted ids =
    if intercepted
    then Some cancel_event
    else (if is_cancel event.action
    then Some event
    else option_map (local_event rect offset) (split_event ids event))

abbrev pub child_of : ℕ → List EventChild → Option EventChild
child_of number kids = find (λ (kid : EventChild). kid.view.number == number) kids

abbrev pub hand_part : Option Event → Option EventChild → Progress → Reached
hand_part None kid progress = record { yes = false; progress = progress }
hand_part (Some part) None progress = record { yes = false; progress = progress }
hand_part (Some part) (Some kid) progress = kid.reach part progress

-- an event that a group gives its targets: whether it takes the event away from its children, and which of them took
-- it when they were tried
pub record GroupEvent : Type 0 where
  pub scene : Scene
  pub own : PlainView
  pub kids : List EventChild
  pub event : Event
  pub intercepted : Bool
  pub taker : Taker

abbrev pub hand_to : GroupEvent → Target → Progress → Reached
hand_to h target progress =
    if is_sent h.taker target.child
    then record { yes = true; progress = progress }
    else hand_part
    (part_for (h.scene.rects target.child) (progress.offsets h.own.number) h.event h.intercepted target.ids)
    (child_of target.child h.kids) progress

-- each target gets its part, the newest first; yes if one of them says so
abbrev pub hand_out : GroupEvent → List Target → Bool → Progress → Reached
hand_out h [] said progress = record { yes = said; progress = progress }
hand_out h (t ∷ targets) said progress =
    let reached = hand_to h t progress in
    hand_out h targets (said || reached.yes) reached.progress

-- the group itself if it has no target, otherwise its targets
abbrev pub answered : GroupEvent → Progress → Reached
answered h progress =
    if is_nil (targets_at progress h.own.number)
    then handled (receiver h.scene h.own h.kids) h.event progress
    else hand_out h (targets_at progress h.own.number) false progress

-- an interception leaves no target
abbrev pub intercepted_cleared : Bool → ℕ → Progress → Progress
intercepted_cleared intercepted group progress =
    if intercepted then with_gesture (set_targets group []) progress else progress

-- the end of a gesture, or of a pointer
abbrev pub ended_by : Action → Bool → ℕ → ℕ → Progress → Progress
ended_by Up split group pointer progress = with_gesture (cleared group) progress
ended_by Cancel split group pointer progress = with_gesture (cleared group) progress
ended_by PointerUp split group pointer progress =
    if split then with_gesture (set_targets group (drop_pointers (only pointer) (targets_at progress group))) progress
    else progress
ended_by Down split group pointer progress = progress
ended_by Move split group pointer progress = progress
ended_by PointerDown split group pointer progress = progress

abbrev pub ended : ℕ → Bool → Event → Bool → Progress → Progress
ended group split event intercepted progress =
    ended_by event.action split group event.pointer (intercepted_cleared intercepted group progress)

abbrev pub group_reached : Scene → PlainView → List EventChild → Event → Progress → Reached
group_reached scene own kids event progress =
    let first = asked (receiver scene own kids) event (begun own.number event.action progress) in
    let second = offered scene own kids event first.yes first.progress in
    let third = answered (record {
      scene = scene;
      own = own;
      kids = kids;
      event = event;
      intercepted = first.yes;
      taker = second.taker;
    }) second.progress in
    record { yes = third.yes; progress = ended own.number own.facts.split event first.yes third.progress }

abbrev pub reached_by : Scene → PlainView → List EventChild → Event → Progress → Reached
reached_by scene own kids event progress =
    if is_group own.class
    then group_reached scene own kids event progress
    else handled (receiver scene own kids) event progress

-- the trees of a list as children
abbrev pub event_children : Scene → Forest PlainView → List EventChild
event_children scene Nothing = []
event_children scene (Branch view below after) =
    record { view = view; reach = reached_by scene view (event_children scene below) } ∷ event_children scene after

-- the effect of an event that the first view of a list gets
abbrev pub reach : Scene → Forest PlainView → Event → Progress → Reached
reach scene Nothing event progress = record { yes = false; progress = progress }
reach scene (Branch view below after) event progress = reached_by scene view (event_children scene below) event progress

-- an event of all the pointers: the root gets it if it has bounds and is not gone
abbrev pub dispatched : Scene → Forest PlainView → Event → Progress → Reached
dispatched scene Nothing event progress = record { yes = false; progress = progress }
dispatched scene (Branch view below after) event progress =
    if is_some (scene.rects view.number) && is_shown view.facts
    then reach scene (Branch view below after) event progress
    else record { yes = false; progress = progress }

-- a view goes away, with all below it: a root gets a cancel, and so does a target of its parent, which is no longer one
-- then
abbrev pub cancelled : Scene → Option ℕ → ℕ → Forest PlainView → Progress → Progress
cancelled scene None number part progress = (reach scene part cancel_event progress).progress
cancelled scene (Some parent) number part progress =
    if is_target number (targets_at progress parent)
    then with_gesture (without_target number) (reach scene part cancel_event progress).progress
    else progress
