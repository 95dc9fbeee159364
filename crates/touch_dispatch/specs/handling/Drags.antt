-- How a scroll view follows a pointer, and when that moves its child.
use Rattle.std.specs.Prelude.{ℕ, ◌==◌, ℤ, pos, negsuc, ◌≤ℤ◌, ◌+ℤ◌, ◌-ℤ◌, int_lt, Bool, true, false, ◌&&◌, ◌||◌, not}
use Rattle.std.specs.Prelude.{if◌then◌else◌, List, Option, Some, None, find}
use Rattle.std.specs.Option.{option_and_then}
use Rattle.touch_dispatch.specs.reaching.Points.{acting_point, point_of}
use Rattle.touch_dispatch.specs.declared.handling.drag.Drag.{Drag}
use Rattle.touch_dispatch.specs.declared.handling.drag.Pull.{Pull}
use Rattle.touch_event.specs.declared.event.Action.{Action}
use Rattle.touch_event.specs.declared.event.Action.TheVariants.{Down, Up, Move, Cancel, PointerDown, PointerUp}
use Rattle.touch_event.specs.declared.event.Event.{Event}
use Rattle.touch_event.specs.declared.event.Point.{Point}

-- it follows the pointer of this point
abbrev pub following : Option Point → Drag → Drag
following None drag = drag
following (Some p) drag = record drag { active = Some p.id; last = p.y }

-- a first pointer went down
abbrev pub pressed_drag : Event → Drag → Drag
pressed_drag event drag = record (following (acting_point event) drag) { dragging = false }

-- the pointers went up, or were taken away
abbrev pub ended_drag : Drag → Drag
ended_drag drag = record drag { active = None; dragging = false }

-- the point of the lowest pointer but this one
abbrev pub other_point : ℕ → List Point → Option Point
other_point id points = find (λ (p : Point). not (p.id == id)) points

abbrev pub is_id : ℕ → Option ℕ → Bool
is_id id None = false
is_id id (Some active) = active == id

abbrev pub is_active : ℕ → Drag → Bool
is_active id drag = is_id id drag.active

-- a pointer goes up; if it was followed, the lowest of the others is
abbrev pub lifted_drag : Event → Drag → Drag
lifted_drag event drag =
    if is_active event.pointer drag then following (other_point event.pointer event.points.items) drag else drag

abbrev pub active_point : Event → Drag → Option Point
active_point event drag = option_and_then (λ id. point_of id event.points.items) drag.active

-- a distance is longer than the slop
unfoldable pub is_past : ℤ → ℤ → Bool
is_past slop way = int_lt slop way || int_lt way (pos 0 -ℤ slop)

-- how far a pointer has gone up since it was last looked at
unfoldable pub way_up : Drag → Point → ℤ
way_up drag p = drag.last -ℤ p.y

-- the pointer moves so far from where it went down that a drag begins
abbrev pub begins_drag : ℤ → Drag → Point → Bool
begins_drag slop drag p = not drag.dragging && is_past slop (way_up drag p)

-- a drag that is on, with the pointer at this point
abbrev pub dragging_at : Point → Drag → Drag
dragging_at p drag = record drag { last = p.y; dragging = true }

-- a group is asked about a move: only one that can scroll begins a drag
abbrev pub asked_move : ℤ → ℤ → Option Point → Drag → Drag
asked_move range slop None drag = drag
asked_move range slop (Some p) drag =
    if int_lt (pos 0) range && begins_drag slop drag p then dragging_at p drag else drag

-- the drag of a scroll view once it was asked about an event
abbrev pub asked_drag_by : Action → ℤ → ℤ → Event → Drag → Drag
asked_drag_by Down range slop event drag = pressed_drag event drag
asked_drag_by Up range slop event drag = ended_drag drag
asked_drag_by Move range slop event drag = asked_move range slop (active_point event drag) drag
asked_drag_by Cancel range slop event drag = ended_drag drag
asked_drag_by PointerDown range slop event drag = drag
asked_drag_by PointerUp range slop event drag = lifted_drag event drag

abbrev pub asked_drag : ℤ → ℤ → Event → Drag → Drag
asked_drag range slop event drag = asked_drag_by event.action range slop event drag

-- a distance without the slop at its beginning
unfoldable pub beyond_slop : ℤ → ℤ → ℤ
beyond_slop slop way = if int_lt (pos 0) way then way -ℤ slop else way +ℤ slop

abbrev pub still : Drag → Pull
still drag = record { drag = drag; by = None }

-- what a move of the pointer that is followed does
abbrev pub pulled_at : ℤ → Point → Drag → Pull
pulled_at slop p drag =
    if drag.dragging
    then record { drag = dragging_at p drag; by = Some (way_up drag p) }
    else
    (if is_past slop (way_up drag p)
    then record { drag = dragging_at p drag; by = Some (beyond_slop slop (way_up drag p)) } else still drag)

abbrev pub pulled_to : ℤ → Option Point → Drag → Pull
pulled_to slop None drag = still drag
pulled_to slop (Some p) drag = pulled_at slop p drag

-- the effect of an event that a scroll view handles itself
abbrev pub pulled_by : Action → ℤ → Event → Drag → Pull
pulled_by Down slop event drag = still (pressed_drag event drag)
pulled_by Up slop event drag = still (ended_drag drag)
pulled_by Move slop event drag = pulled_to slop (active_point event drag) drag
pulled_by Cancel slop event drag = still (ended_drag drag)
pulled_by PointerDown slop event drag = still (following (acting_point event) drag)
pulled_by PointerUp slop event drag = still (lifted_drag event drag)

abbrev pub pulled : ℤ → Event → Drag → Pull
pulled slop event drag = pulled_by event.action slop event drag

-- a distance that a pointer can go at once, in a number of 64 bits that an offset can be added to
pub record IsWay (way : ℤ) : Type 0 where
  pub low : negsuc 8589934591 ≤ℤ way
  pub high : way ≤ℤ pos 8589934592
