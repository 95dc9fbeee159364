-- The texts of deliveries.
use Rattle.std.specs.Prelude.{ℕ, ℤ, Bool, true, false, List, codes, Some}
use Rattle.std.specs.Fmt.{decimal, signed_decimal}
use Rattle.text_lines.specs.Joined.{◌⧺◌, texts_of}
use Rattle.touch_dispatch.specs.declared.log.Entry.{Entry}
use Rattle.touch_dispatch.specs.declared.log.Kind.{Kind}
use Rattle.touch_dispatch.specs.declared.log.Kind.TheVariants.{Ask, Touch, Click, Scroll}
use Rattle.touch_event.specs.declared.event.Action.{Action}
use Rattle.touch_event.specs.declared.event.Action.TheVariants.{Down, Up, Move, Cancel, PointerDown, PointerUp}
use Rattle.touch_event.specs.declared.event.Event.{Event}
use Rattle.touch_event.specs.declared.event.Point.{Point}
use Rattle.world_replies.specs.Replies.{scroll_text, view_name}

-- `(p)`, the pointer that acts, if there are others
abbrev pub pointer_text : ℕ → List ℕ
pointer_text pointer = codes "(" ⧺ decimal pointer ⧺ codes ")"

abbrev pub action_text : Action → ℕ → List ℕ
action_text Down pointer = codes "DOWN"
action_text Up pointer = codes "UP"
action_text Move pointer = codes "MOVE"
action_text Cancel pointer = codes "CANCEL"
action_text PointerDown pointer = codes "POINTER_DOWN" ⧺ pointer_text pointer
action_text PointerUp pointer = codes "POINTER_UP" ⧺ pointer_text pointer

-- `x,y`, a place
abbrev pub place_text : ℤ → ℤ → List ℕ
place_text x y = signed_decimal x ⧺ codes "," ⧺ signed_decimal y

-- ` p:x,y`, where a pointer is
abbrev pub point_text : Point → List ℕ
point_text p = codes " " ⧺ decimal p.id ⧺ codes ":" ⧺ place_text p.x p.y

abbrev pub points_text : List Point → List ℕ
points_text points = texts_of point_text points

abbrev pub event_text : Event → List ℕ
event_text event = action_text event.action event.pointer ⧺ points_text event.points.items

abbrev pub said_text : Bool → List ℕ
said_text true = codes " yes\n"
said_text false = codes " no\n"

-- what an entry prints after the name of its view
abbrev pub reported_text : Kind → Entry → List ℕ
reported_text Ask entry = codes " ask " ⧺ event_text entry.event ⧺ said_text entry.yes
reported_text Touch entry = codes " touch " ⧺ event_text entry.event ⧺ said_text entry.yes
reported_text Click entry = codes " click\n"
reported_text Scroll entry = scroll_text (Some entry.offset) ⧺ codes "\n"

abbrev pub entry_text : Entry → List ℕ
entry_text entry = view_name entry.view ⧺ reported_text entry.kind entry

-- the deliveries, a line each
abbrev pub entries_text : List Entry → List ℕ
entries_text entries = texts_of entry_text entries

-- what the root has said to an event
abbrev pub done_text : Bool → List ℕ
done_text yes_ = codes "done" ⧺ said_text yes_
