-- Worked gestures, by computation.
use Rattle.std.proofs.Common.{◌≡◌, ℕ, true, false, Bool, List, [], ◌∷◌, Option, Some, refl}
use Rattle.std.specs.Prelude.{ℤ, pos, ◌==◌, if◌then◌else◌, map}
use Rattle.geom_core.specs.Limits.{clamp_coordinate}
use Rattle.geom_core.specs.declared.geometry.Rect.{Rect}
use Rattle.touch_dispatch.specs.Dispatch.{Scene, cancelled, reach}
use Rattle.touch_dispatch.specs.handling.Drags.{beyond_slop, is_past, way_up}
use Rattle.touch_dispatch.specs.gesture.Gestures.{no_gesture}
use Rattle.touch_dispatch.specs.handling.Handling.{Progress, is_same_offset, targets_at}
use Rattle.touch_dispatch.specs.reaching.Points.{cancel_event, is_inside, is_near_point, local_point}
use Rattle.touch_dispatch.specs.declared.log.Entry.{Entry}
use Rattle.touch_dispatch.specs.declared.log.Kind.TheVariants.{Ask, Touch, Scroll}
use Rattle.touch_event.specs.Events.{event_of}
use Rattle.touch_event.specs.declared.event.Action.TheVariants.{Down, Up, Move, Cancel, PointerDown, PointerUp}
use Rattle.touch_event.specs.declared.event.Event.{Event}
use Rattle.touch_event.specs.declared.event.Point.{Point}
use Rattle.view_model.specs.Facts.{new_facts}
use Rattle.view_model.specs.Forest.{Forest, Nothing, Branch}
use Rattle.view_model.specs.PlainTree.{PlainView}
use Rattle.view_model.specs.ScrollView.{offset_within}
use Rattle.view_model.specs.declared.answer.Answer.{Answer}
use Rattle.view_model.specs.declared.answer.Answer.TheVariants as plan
use Rattle.view_model.specs.declared.class.Class.{Class}
use Rattle.view_model.specs.declared.class.Class.TheVariants as class
use Rattle.touch_targets.specs.Captures.{Target}

-- the children in the order of their capture, the newest first
abbrev order : List Target → List ℕ
order targets = map (λ (t : Target). t.child) targets

abbrev view_of : ℕ → Class → Answer → PlainView
view_of number class answer = record { number = number; class = class; facts = record (new_facts (pos 0) (pos 0)) { answer = answer }; text = [] }

abbrev rect : ℤ → ℤ → ℤ → ℤ → Option Rect
rect left top right bottom = Some (record { left = left; top = top; right = right; bottom = bottom })

abbrev start : Progress
start = record { gesture = no_gesture; offsets = λ _. pos 0; entries = [] }

-- the next event begins without entries
abbrev on : Progress → Progress
on progress = record progress { entries = [] }

abbrev at : ℕ → ℤ → ℤ → Point
at id x y = record { id = id; x = x; y = y }

abbrev ask : ℕ → Event → Bool → Entry
ask view event yes_ = record { view = view; kind = Ask; event = event; yes = yes_; offset = pos 0 }

abbrev touch : ℕ → Event → Bool → Entry
touch view event yes_ = record { view = view; kind = Touch; event = event; yes = yes_; offset = pos 0 }

-- a scroll view of 50 by 40 with a linear layout of the height 100, in which a view takes clicks

abbrev list : Forest PlainView
list =
    Branch (view_of 1 class.ScrollView plan.Off)
    (Branch (view_of 2 class.LinearLayout plan.Off) (Branch (view_of 3 class.View plan.Click) Nothing Nothing) Nothing)
    Nothing

abbrev list_scene : Scene
list_scene = record {
  rects = λ n. if n == 1 then rect (pos 0) (pos 0) (pos 50) (pos 40) else rect (pos 0) (pos 0) (pos 50) (pos 100);
  slop = pos 8;
}

abbrev drag_down : Event
drag_down = event_of Down 0 (at 0 (pos 5) (pos 30) ∷ [])

abbrev after_down : Progress
after_down = (reach list_scene list drag_down start).progress

down_entries : after_down.entries ≡ ask 1 drag_down false ∷ ask 2 drag_down false ∷ touch 3 drag_down true ∷ []
unfolding is_inside local_point clamp_coordinate is_near_point
down_entries = refl

-- the pointer moves by more than the slop: the scroll view takes the gesture away from its child
abbrev drag_move : Event
drag_move = event_of Move 0 (at 0 (pos 5) (pos 20) ∷ [])

abbrev after_move : Progress
after_move = (reach list_scene list drag_move (on after_down)).progress

move_entries : after_move.entries ≡ ask 1 drag_move true ∷ ask 2 cancel_event false ∷ touch 3 cancel_event true ∷ []
unfolding is_inside local_point clamp_coordinate is_near_point is_past way_up
move_entries = refl

-- and then scrolls by all that the pointer moves
abbrev drag_on : Event
drag_on = event_of Move 0 (at 0 (pos 5) (pos 10) ∷ [])

abbrev after_on : Progress
after_on = (reach list_scene list drag_on (on after_move)).progress

on_entries : after_on.entries ≡ touch 1 drag_on true ∷ record { view = 1; kind = Scroll; event = drag_on; yes = true; offset = pos 10 } ∷ []
unfolding is_inside local_point clamp_coordinate is_near_point is_past way_up beyond_slop is_same_offset offset_within
on_entries = refl

abbrev drag_up : Event
drag_up = event_of Up 0 (at 0 (pos 5) (pos 10) ∷ [])

up_entries : (reach list_scene list drag_up (on after_on)).progress.entries ≡ touch 1 drag_up true ∷ []
unfolding is_inside local_point clamp_coordinate is_near_point is_past way_up beyond_slop is_same_offset offset_within
up_entries = refl

-- a linear layout of 100 by 20 with two views side by side

abbrev pair : Forest PlainView
pair =
    Branch (view_of 1 class.LinearLayout plan.Off)
    (Branch (view_of 2 class.View plan.Yes) Nothing (Branch (view_of 3 class.View plan.Yes) Nothing Nothing))
    Nothing

abbrev pair_scene : Scene
pair_scene = record {
  rects = λ n. if n == 1 then rect (pos 0) (pos 0) (pos 100) (pos 20) else (if n == 2 then rect (pos 0) (pos 0) (pos 50) (pos 20) else rect (pos 50) (pos 0) (pos 100) (pos 20));
  slop = pos 8;
}

-- the first pointer goes to the child under it
abbrev first : Event
first = event_of Down 0 (at 0 (pos 10) (pos 5) ∷ [])

abbrev after_first : Progress
after_first = (reach pair_scene pair first start).progress

first_entries : after_first.entries ≡ ask 1 first false ∷ touch 2 first true ∷ []
unfolding is_inside local_point clamp_coordinate
first_entries = refl

-- the second one to the other, and the first child gets a move
abbrev second : Event
second = event_of PointerDown 1 (at 0 (pos 10) (pos 5) ∷ at 1 (pos 60) (pos 5) ∷ [])

abbrev after_second : Progress
after_second = (reach pair_scene pair second (on after_first)).progress

second_entries : after_second.entries
    ≡ ask 1 second false ∷ touch 3 (event_of Down 1 (at 1 (pos 10) (pos 5) ∷ [])) true ∷ touch 2 (event_of Move 1 (at 0 (pos 10) (pos 5) ∷ [])) true ∷ []
unfolding is_inside local_point clamp_coordinate
second_entries = refl

-- a pointer that goes up leaves, and the child that had no other is no longer a target
abbrev third : Event
third = event_of PointerUp 0 (at 0 (pos 10) (pos 5) ∷ at 1 (pos 60) (pos 5) ∷ [])

abbrev after_third : Progress
after_third = (reach pair_scene pair third (on after_second)).progress

third_entries : after_third.entries
    ≡ ask 1 third false ∷ touch 3 (event_of Move 0 (at 1 (pos 10) (pos 5) ∷ [])) true ∷ touch 2 (event_of Up 0 (at 0 (pos 10) (pos 5) ∷ [])) true ∷ []
unfolding is_inside local_point clamp_coordinate
third_entries = refl

third_targets : order (targets_at after_third 1) ≡ 3 ∷ []
unfolding is_inside local_point clamp_coordinate
third_targets = refl

abbrev last : Event
last = event_of Up 1 (at 1 (pos 60) (pos 5) ∷ [])

last_entries : (reach pair_scene pair last (on after_third)).progress.entries ≡ ask 1 last false ∷ touch 3 (event_of Up 1 (at 1 (pos 10) (pos 5) ∷ [])) true ∷ []
unfolding is_inside local_point clamp_coordinate
last_entries = refl

-- without splitting, a second pointer goes to the one target, as it is
abbrev whole : Forest PlainView
whole =
    Branch (record (view_of 1 class.LinearLayout plan.Off) { facts = record (new_facts (pos 0) (pos 0)) { split = false } })
    (Branch (view_of 2 class.View plan.Yes) Nothing (Branch (view_of 3 class.View plan.Yes) Nothing Nothing))
    Nothing

abbrev whole_first : Progress
whole_first = (reach pair_scene whole first start).progress

abbrev whole_second : Progress
whole_second = (reach pair_scene whole second (on whole_first)).progress

whole_entries : whole_second.entries ≡ ask 1 second false ∷ touch 2 second true ∷ []
unfolding is_inside local_point clamp_coordinate
whole_entries = refl

abbrev all_up : Event
all_up = event_of Cancel 1 []

cancel_entries : (reach pair_scene whole all_up (on whole_second)).progress.entries ≡ ask 1 all_up false ∷ touch 2 all_up true ∷ []
unfolding is_inside local_point clamp_coordinate
cancel_entries = refl

-- a target that is taken away gets a cancel; the pointer is still down, and its next events find no target

abbrev after_cancel : Progress
after_cancel = cancelled pair_scene (Some 1) 2 (Branch (view_of 2 class.View plan.Yes) Nothing Nothing) (on after_first)

removed_entries : after_cancel.entries ≡ touch 2 cancel_event true ∷ []
unfolding is_inside local_point clamp_coordinate
removed_entries = refl

removed_targets : order (targets_at after_cancel 1) ≡ []
unfolding is_inside local_point clamp_coordinate
removed_targets = refl

abbrev alone : Forest PlainView
alone = Branch (view_of 1 class.FrameLayout plan.Off) Nothing Nothing

abbrev after_removal : Progress
after_removal = on after_cancel

abbrev moved : Event
moved = event_of Move 0 (at 0 (pos 6) (pos 6) ∷ [])

moved_entries : (reach pair_scene alone moved after_removal).progress.entries ≡ touch 1 moved false ∷ []
unfolding is_inside local_point clamp_coordinate
moved_entries = refl
