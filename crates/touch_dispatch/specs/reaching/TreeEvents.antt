-- A tree of views and a gesture, as the dispatch of an event sees them.
use Rattle.std.specs.Prelude.{◌∷◌, [], ◌≡◌, ◌<◌, ℕ, ◌==◌, ℤ, Bool, true, false, ◌||◌, List, Option, Some, None}
use Rattle.std.specs.Vec.{vec_capacity}
use Rattle.geom_core.specs.Limits.{IsSide}
use Rattle.kept_views.specs.Kept.{IsConsistent, first_place}
use Rattle.touch_dispatch.specs.Dispatch.{EventChild, Scene, event_children, range_for, reached_by, receiver}
use Rattle.touch_dispatch.specs.gesture.Gestures.{PlainGesture}
use Rattle.touch_dispatch.specs.handling.Handling.{Progress, Reached, handled}
use Rattle.touch_dispatch.specs.gesture.Kept.{Kept, gesture_of, is_open}
use Rattle.touch_dispatch.specs.declared.log.Entry.{Entry}
use Rattle.touch_dispatch.specs.declared.log.Log.{Log}
use Rattle.touch_event.specs.declared.event.Event.{Event}
use Rattle.touch_event.specs.Numbers.{max_pointers}
use Rattle.touch_targets.specs.Captures.{Target, first_ids, from_child, is_target}
use Rattle.view_model.specs.Forest.{Forest, Nothing, Branch}
use Rattle.view_model.specs.Classes.{scrolls}
use Rattle.view_model.specs.PlainTree.{PlainView, part_of}
use Rattle.view_tree.specs.Rows.{Later, Row, ancestors, children_of_first, count_of_key, first_tree, head_view}
use Rattle.view_tree.specs.Rows.{key_where, part_from, views_of}
use Rattle.view_tree.specs.Views.{Held, IsLive, IsTree, SameTree, Views, held_of, held_or, number_of, state_of}

abbrev pub held_under : Views → Option ℕ → Held
held_under views None = held_or None
held_under views (Some key) = held_of views key

-- what is kept of the view of a number
abbrev pub held_at : Views → ℕ → Held
held_at views number = held_under views (key_where (λ (view : PlainView). view.number == number) views.tree)

unfoldable pub scene_of : Views → ℤ → Scene
scene_of views slop = record { rects = λ number. (held_at views number).state.bounds; slop = slop }

unfoldable pub offsets_in : Views → ℕ → ℤ
offsets_in views number = (held_at views number).offset

abbrev pub progress_by : (ℕ → ℤ) → PlainGesture → List Entry → Progress
progress_by offsets gesture entries = record { gesture = gesture; offsets = offsets; entries = entries }

-- the progress of an event, by what is kept and recorded
abbrev pub progress_of : Views → Kept → Log → Progress
progress_of views kept log = progress_by (offsets_in views) (gesture_of kept) log.entries.items

-- how many entries a log has room for
abbrev pub room_of : Log → ℕ
room_of log = vec_capacity log.entries

-- there is as much room for entries as before
abbrev pub KeepsRoom : Log → Log → Type 0
KeepsRoom old new = room_of new ≡ room_of old

abbrev pub below_first : Forest PlainView → Forest PlainView
below_first Nothing = Nothing
below_first (Branch view below after) = below

-- one of the trees of a list has this view as its root
abbrev pub is_root : ℕ → Forest PlainView → Bool
is_root number Nothing = false
is_root number (Branch view below after) = (view.number == number) || is_root number after

-- each target of a group is a child of it
abbrev pub AreChildren : Forest PlainView → PlainGesture → Type 0
AreChildren tree gesture =
    (group child : ℕ) → is_target child (gesture.targets group) ≡ true
    → is_root child (below_first (part_of group tree)) ≡ true

-- a gesture has a place for each view of a tree, and each target is a child of its group there
pub record IsGestureIn (tree : Forest Row) (kept : Kept) : Type 0 where
  pub opened : (key : ℕ) → 0 < count_of_key key tree → is_open kept (head_view (part_from key tree)).number ≡ true
  pub children : AreChildren (views_of tree) (gesture_of kept)

-- the range of the offset of the view of a key, which has these bounds, as has its first child
abbrev pub own_range : Views → ℕ → ℤ
own_range views key =
    let own = head_view (part_from key views.tree) in
    range_for (scrolls own.class) own.facts (state_of views key).bounds
    (first_place (held_of views) (children_of_first (part_from key views.tree)))

-- nothing changes except offsets
pub record OnlyScrolls (old new : Views) : Type 0 where
  pub same : SameTree old new
  pub counts : new.counts ≡ old.counts
  pub held : (key : ℕ) → held_of new key ≡ record (held_of old key) { offset = (held_of new key).offset }
  -- an offset within the limits of sizes stays within them
  pub fits : (key : ℕ) → IsSide (held_of old key).offset → IsSide (held_of new key).offset
  -- what every tree keeps between lines is kept, since each offset that is set is in its range
  pub consistent : IsConsistent old → IsConsistent new

-- an event may go to the view of a key
pub record MayReach (views : Views) (kept : Kept) (key : ℕ) (event : Event) : Type 0 where
  pub tree : IsTree views
  pub live : IsLive views key
  pub pointer : event.pointer < max_pointers
  pub caught : IsGestureIn views.tree kept

-- what an event keeps wherever it goes: the tree except for offsets, targets that are children of their groups, the
-- places of views, and the room of the log
pub record KeepsScene (old_tree new_tree : Views) (old new : Kept) (old_log new_log : Log) : Type 0 where
  pub scrolls : OnlyScrolls old_tree new_tree
  pub caught : IsGestureIn new_tree.tree new
  pub opened : (number : ℕ) → is_open new number ≡ is_open old number
  pub room : room_of new_log ≡ room_of old_log

-- the view of a key, as if it was not scrolled
abbrev pub own_of : Views → ℕ → PlainView
own_of views key = head_view (part_from key views.tree)

-- the children of the view of a key
abbrev pub kids_of : Views → ℤ → ℕ → List EventChild
kids_of views slop key = event_children (scene_of views slop) (views_of (children_of_first (part_from key views.tree)))

-- the view of a key as a child
abbrev pub child_at : Views → ℤ → ℕ → EventChild
child_at views slop key = record {
  view = own_of views key;
  reach = reached_by (scene_of views slop) (own_of views key) (kids_of views slop key);
}

-- the view of a key handles an event itself
abbrev pub handled_at : Views → ℤ → ℕ → Event → Progress → Reached
handled_at views slop key event progress =
    handled (receiver (scene_of views slop) (own_of views key) (kids_of views slop key)) event progress

-- the target of a child
abbrev pub target_of : ℕ → List Target → Target
target_of child targets = record { child = child; ids = first_ids (from_child child targets) }

-- a view is a child of another
pub record IsKidAt (views : Views) (view kid : ℕ) : Type 0 where
  pub live : IsLive views kid
  pub within : Later (part_from kid views.tree) (children_of_first (part_from view views.tree))

abbrev pub first_number : Views → List ℕ → Option ℕ
first_number views [] = None
first_number views (key ∷ keys) = Some (number_of views key)

-- the number of the parent of the view of a key
abbrev pub parent_number : Views → ℕ → Option ℕ
parent_number views key = first_number views (ancestors key views.tree)

-- the view of a key with all below it
abbrev pub part_at : Views → ℕ → Forest PlainView
part_at views key = views_of (first_tree (part_from key views.tree))

-- nothing changes
pub record Unchanged (old_tree new_tree : Views) (old new : Kept) (old_log new_log : Log) : Type 0 where
  pub tree : new_tree ≡ old_tree
  pub gesture : new ≡ old
  pub log : new_log ≡ old_log
