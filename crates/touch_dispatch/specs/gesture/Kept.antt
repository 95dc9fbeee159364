-- What contracts see of a gesture as it is kept: the open views with what they have captured, and the marks of views.
use Rattle.std.specs.Prelude.{◌≡◌, ◌==◌, ℕ, ◌≤◌, Bool, false, true, List, [], length, Option, Some, None, nat_eq, refl}
use Rattle.std.specs.Coded.{Coded, code_by, coded×, coded_ℕ, coded_list}
use Rattle.std.specs.List.{list_any}
use Rattle.std.specs.Map.{lookup}
use Rattle.indexmap.specs.IndexMap.{get as get_key, spare}
use Rattle.touch_dispatch.specs.gesture.Gestures.{PlainGesture, no_drag}
use Rattle.touch_dispatch.specs.Once.{AllDistinct}
use Rattle.touch_dispatch.specs.contracts.gesture.marks.Marks.{the_row as marks_row}
use Rattle.touch_dispatch.specs.declared.gesture.Gesture.TheInside.{Inside}
use Rattle.touch_dispatch.specs.declared.gesture.marks.Marks.{Marks}
use Rattle.touch_targets.specs.Captures.{is_target}
use Rattle.touch_targets.specs.Seats.{Seat, is_open as has_seat, seats_code, targets_of, with_seat}

pub record Kept : Type 0 where
  -- the open views, each with the children that it has captured
  pub seats : List Seat
  -- the marks of the views that have some, by their numbers
  pub marks : List (ℕ × Marks)

abbrev pub nothing_kept : Kept
nothing_kept = record { seats = []; marks = [] }

-- the marks of a view that has none
abbrev pub no_marks : Marks
no_marks = record { disallows = false; pressed = false; drag = no_drag }

abbrev pub marks_at : Kept → ℕ → Option Marks
marks_at kept view = lookup (nat_eq view) kept.marks

abbrev pub marks_or : Option Marks → Marks
marks_or None = no_marks
marks_or (Some marks) = marks

abbrev pub marks_of : Kept → ℕ → Marks
marks_of kept view = marks_or (marks_at kept view)

-- the gesture that is kept
abbrev pub gesture_of : Kept → PlainGesture
gesture_of kept = record {
  targets = targets_of kept.seats;
  disallows = λ view. (marks_of kept view).disallows;
  presses = λ view. (marks_of kept view).pressed;
  drags = λ view. (marks_of kept view).drag;
}

-- there is a place for the view
abbrev pub is_open : Kept → ℕ → Bool
is_open kept view = has_seat kept.seats view

abbrev pub IsOpen : Kept → ℕ → Type 0
IsOpen kept view = is_open kept view ≡ true

-- one more view has a place
abbrev pub with_place : ℕ → Kept → Kept
with_place view kept = record kept { seats = with_seat view kept.seats }

-- nothing is kept of the view
pub record IsUnknown (kept : Kept) (view : ℕ) : Type 0 where
  pub seat : has_seat kept.seats view ≡ false
  pub marks : marks_at kept view ≡ None

-- a child may become a target of a group
pub record MayCapture (kept : Kept) (group child : ℕ) : Type 0 where
  pub group_open : is_open kept group ≡ true
  pub child_open : is_open kept child ≡ true
  pub only : (other : ℕ) → is_target child (targets_of kept.seats other) ≡ true → other ≡ group

abbrev pub kept_in : Inside → Kept
kept_in inside = record { seats = inside.targets; marks = inside.marks.entries }

abbrev pub is_among : ℕ → List ℕ → Bool
is_among view views = list_any (λ v. v == view) views

-- only open views have marks, and there is room for the marks of all other open views
pub record HasRoom (opened : ℕ → Bool) (marks : ℕ → Option Marks) (room : ℕ) : Type 0 where
  pub placed : (view : ℕ) → opened view ≡ false → marks view ≡ None
  -- the open views without marks
  pub unmarked : List ℕ
  pub each : (view : ℕ) → opened view ≡ true → marks view ≡ None → is_among view unmarked ≡ true
  pub fits : length unmarked ≤ room

-- no group has a child twice, and each open view has marks or room for them
pub record IsSoundGesture (inside : Inside) : Type 0 where
  pub distinct : AllDistinct (targets_of inside.targets)
  pub room : HasRoom (has_seat inside.targets) (get_key nat_eq inside.marks) (spare inside.marks)

abbrev pub kept_code : Coded Kept
kept_code =
    code_by (List Seat × List (ℕ × Marks)) (coded× seats_code (coded_list (coded× coded_ℕ marks_row.coded)))
    (λ k. (k.seats, k.marks))
    (λ p. record { seats = p.0; marks = p.1 })
    (λ _. refl)
