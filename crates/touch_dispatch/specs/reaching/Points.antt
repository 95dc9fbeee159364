-- Where the pointers of an event are, to a group and to its children.
use Rattle.std.specs.Prelude.{ℕ, ◌==◌, ℤ, pos, ◌+ℤ◌, ◌-ℤ◌, int_lt, int_le, Bool, true, false, ◌&&◌, List, [], ◌∷◌}
use Rattle.std.specs.Prelude.{Option, Some, None, find, map}
use Rattle.geom_core.specs.Limits.{clamp_coordinate}
use Rattle.geom_core.specs.declared.geometry.Rect.{Rect}
use Rattle.touch_event.specs.declared.event.Action.TheVariants.{Cancel}
use Rattle.touch_event.specs.declared.event.Event.{Event}
use Rattle.touch_event.specs.declared.event.Point.{Point}
use Rattle.view_model.specs.declared.visibility.Visibility.{Visibility}
use Rattle.view_model.specs.declared.visibility.Visibility.TheVariants.{Visible, Invisible, Gone}

abbrev pub point_of : ℕ → List Point → Option Point
point_of id points = find (λ (p : Point). p.id == id) points

-- the point of the pointer that acts
abbrev pub acting_point : Event → Option Point
acting_point event = point_of event.pointer event.points.items

-- the event that takes a gesture away
abbrev pub cancel_event : Event
cancel_event = record { action = Cancel; pointer = 0; points = record { items = [] } }

abbrev pub corner_x : Option Rect → ℤ
corner_x None = pos 0
corner_x (Some rect) = rect.left

abbrev pub corner_y : Option Rect → ℤ
corner_y None = pos 0
corner_y (Some rect) = rect.top

-- a point of a group that has scrolled this far, in the coordinates of a child with these bounds
unfoldable pub local_point : Option Rect → ℤ → Point → Point
local_point rect offset p = record p {
  x = clamp_coordinate (p.x -ℤ corner_x rect);
  y = clamp_coordinate (p.y -ℤ corner_y rect +ℤ offset);
}

abbrev pub local_event : Option Rect → ℤ → Event → Event
local_event rect offset event =
    record event { points = record { items = map (local_point rect offset) event.points.items } }

abbrev pub is_between : ℤ → ℤ → ℤ → Bool
is_between low x high = int_le low x && int_lt x high

-- a point of a group that has scrolled this far is in a rectangle
unfoldable pub is_inside : Rect → ℤ → Point → Bool
is_inside rect offset p = is_between rect.left p.x rect.right && is_between rect.top (p.y +ℤ offset) rect.bottom

abbrev pub is_under : Option Rect → ℤ → Option Point → Bool
is_under None offset point = false
is_under (Some rect) offset None = false
is_under (Some rect) offset (Some p) = is_inside rect offset p

abbrev pub is_visible : Visibility → Bool
is_visible Visible = true
is_visible Invisible = false
is_visible Gone = false

-- a child is looked at for the acting pointer: it is visible, and the point is on it
abbrev pub is_tried : Visibility → Option Rect → ℤ → Event → Bool
is_tried visibility rect offset event = is_visible visibility && is_under rect offset (acting_point event)

-- a coordinate lies within the slop of a side from `low` to `high`, as seen from `low`
abbrev pub is_near : ℤ → ℤ → ℤ → ℤ → Bool
is_near low high slop x = is_between (pos 0 -ℤ slop) x (high -ℤ low +ℤ slop)

-- a point of a view lies in its bounds, widened by the slop on each side
unfoldable pub is_near_point : Rect → ℤ → Point → Bool
is_near_point rect slop p = is_near rect.left rect.right slop p.x && is_near rect.top rect.bottom slop p.y

abbrev pub is_near_first : Option Rect → ℤ → List Point → Bool
is_near_first None slop points = false
is_near_first (Some rect) slop [] = false
is_near_first (Some rect) slop (p ∷ points) = is_near_point rect slop p
