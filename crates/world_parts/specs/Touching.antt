-- What events do to the plain world.
use Rattle.std.specs.Prelude.{ℕ, ◌==◌, ℤ, pos, Bool, true, ◌&&◌, not, if◌then◌else◌, List, [], ◌∷◌, Option, Some, None}
use Rattle.std.specs.List.{list_any}
use Rattle.std.specs.Option.{unwrap_or}
use Rattle.touch_dispatch.specs.Dispatch.{Scene, cancelled, dispatched}
use Rattle.touch_dispatch.specs.gesture.Gestures.{PlainGesture, closed, set_disallow}
use Rattle.touch_dispatch.specs.handling.Handling.{Progress, Reached, is_nil}
use Rattle.touch_event.specs.declared.event.Event.{Event}
use Rattle.touch_event.specs.declared.event.Point.{Point}
use Rattle.view_model.specs.Dimensions.{px_of}
use Rattle.view_model.specs.Facts.{is_shown}
use Rattle.view_model.specs.Forest.{Forest, Nothing, Branch, has_row, map_rows}
use Rattle.view_model.specs.Geometry.{rect_in}
use Rattle.view_model.specs.Layout.{unscrolled}
use Rattle.view_model.specs.PlainTree.{PlainView, numbers_of, part_of, view_in}
use Rattle.view_model.specs.declared.facts.Facts.{Facts}
use Rattle.world_parts.specs.World.{World}
use Rattle.touch_dispatch.specs.declared.log.Entry.{Entry}
use Rattle.touch_dispatch.specs.handling.Scrolled.{is_scroll}

-- how far a pointer may slip before that counts, in pixels: the word of 8 dip is that of a dimension
unfoldable pub slop_at : ℕ → ℤ
slop_at dpi = unwrap_or (px_of 0x801 dpi) (pos 0)

-- the bounds of views, and how far a pointer may slip
abbrev pub scene_in : World → Scene
scene_in world = record { rects = rect_in world.geometry; slop = slop_at world.dpi }

-- the tree as if nothing was scrolled: offsets move while an event goes through it, and are kept apart
abbrev pub unscrolled_tree : Forest PlainView → Forest PlainView
unscrolled_tree tree = map_rows unscrolled tree

abbrev pub offset_or : Option PlainView → ℤ
offset_or None = pos 0
offset_or (Some view) = view.facts.offset

-- the offset of the view of this number
abbrev pub offsets_in : Forest PlainView → ℕ → ℤ
offsets_in tree number = offset_or (view_in tree number)

-- no view got anything yet
abbrev pub progress_in : World → Progress
progress_in world = record { gesture = world.gesture; offsets = offsets_in world.tree; entries = [] }

abbrev pub scrolled_to : (ℕ → ℤ) → PlainView → PlainView
scrolled_to offsets view = record view { facts = record view.facts { offset = offsets view.number } }

-- the world with the new gesture and offsets of an event
abbrev pub after_progress : World → Progress → World
after_progress world progress =
    record world { tree = map_rows (scrolled_to progress.offsets) world.tree; gesture = progress.gesture }

-- an event of all the pointers
abbrev pub reached_in : World → Event → Reached
reached_in world event = dispatched (scene_in world) (unscrolled_tree world.tree) event (progress_in world)

-- views that go away

-- the numbers of the views around the view of this number, the nearest first, followed by those around the list
abbrev pub around_number : List ℕ → ℕ → Forest PlainView → List ℕ
around_number outer number Nothing = outer
around_number outer number (Branch view below after) =
    if view.number == number
    then outer
    else
    (if has_row (part_of number below) then around_number (view.number ∷ outer) number below
    else around_number outer number after)

-- the numbers of the ancestors of the view of this number, the nearest first
abbrev pub ancestors_of : ℕ → Forest PlainView → List ℕ
ancestors_of number tree = around_number [] number tree

abbrev pub nearest : List ℕ → Option ℕ
nearest [] = None
nearest (number ∷ numbers) = Some number

abbrev pub parent_of : ℕ → Forest PlainView → Option ℕ
parent_of number tree = nearest (ancestors_of number tree)

-- a root gets a cancel when it goes away, if it is not gone and a pointer is down; for another view its parent decides
abbrev pub is_reported : Option ℕ → Facts → List Point → Bool
is_reported None facts pointers = is_shown facts && not (is_nil pointers)
is_reported (Some parent) facts pointers = true

abbrev pub reported_away : World → ℕ → Option ℕ → Option PlainView → Progress
reported_away world number parent None = progress_in world
reported_away world number parent (Some view) =
    if is_reported parent view.facts world.pointers
    then cancelled (scene_in world) parent number (unscrolled_tree (part_of number world.tree)) (progress_in world)
    else progress_in world

-- the view of this number gets a cancel since it goes away
abbrev pub leaving : World → ℕ → Progress
leaving world number = reported_away world number (parent_of number world.tree) (view_in world.tree number)

-- a number is one of these
abbrev pub is_among : ℕ → List ℕ → Bool
is_among number numbers = list_any (λ (n : ℕ). number == n) numbers

-- nothing is kept of these views
abbrev pub all_closed : List ℕ → PlainGesture → PlainGesture
all_closed [] gesture = gesture
all_closed (number ∷ numbers) gesture = all_closed numbers (closed number gesture)

-- nothing is kept of the view of this number and of all below it
abbrev pub without_part : ℕ → World → World
without_part number world = record world { gesture = all_closed (numbers_of (part_of number world.tree)) world.gesture }

-- groups that may not take events away from their children, or that may again
abbrev pub all_disallowed : Bool → List ℕ → PlainGesture → PlainGesture
all_disallowed on [] gesture = gesture
all_disallowed on (number ∷ numbers) gesture = all_disallowed on numbers (set_disallow number on gesture)

-- the view of this number and its ancestors
abbrev pub disallowed : World → ℕ → Bool → World
disallowed world number on =
    record world { gesture = all_disallowed on (number ∷ ancestors_of number world.tree) world.gesture }

-- whether any view has
abbrev pub has_any_scrolled : List Entry → Bool
has_any_scrolled entries = list_any (λ (entry : Entry). is_scroll entry.kind) entries
