-- Scroll views that have moved their children, and damage.
use Rattle.std.specs.Prelude.{◌≡◌, ℕ, ◌==◌, ℤ, true, false, ◌&&◌, List, is_some}
use Rattle.geom_core.specs.Rects.{holds}
use Rattle.geom_core.specs.declared.geometry.Rect.{Rect}
use Rattle.geom_core.specs.declared.geometry.Size.{Size}
use Rattle.damage_rect.specs.Within.{LiesIn}
use Rattle.saved_state.specs.Restored.{wanted}
use Rattle.saved_state.specs.State.{StateEntry}
use Rattle.seen_edits.specs.Shown.{seen_of}
use Rattle.touch_dispatch.specs.handling.Scrolled.{has_scrolled, is_scroll}
use Rattle.touch_dispatch.specs.declared.log.Entry.{Entry}
use Rattle.view_tree.specs.Views.{IsLive, Views, number_of}

-- nothing is seen of a view outside of the damage
abbrev pub IsIn : Size → Rect → Views → ℕ → Type 0
IsIn window damage views key = (x y : ℤ) → holds damage x y ≡ false → holds (seen_of window views key) x y ≡ false

-- what is seen of the view of an entry by which a scroll view has moved its child is damage
abbrev pub NotesEntry : Size → Rect → Views → Entry → Type 0
NotesEntry window damage views entry =
    (key : ℕ) → IsLive views key → (is_scroll entry.kind && entry.view == number_of views key) ≡ true
    → IsIn window damage views key

abbrev pub NotesAll : Size → Rect → Views → List Entry → Type 0
NotesAll window damage views entries =
    (key : ℕ) → IsLive views key → has_scrolled (number_of views key) entries ≡ true → IsIn window damage views key

-- what is seen of the view of an entry by which a scroll view has moved its child is within a rectangle
abbrev pub EntryIn : Size → Rect → Views → Entry → Type 0
EntryIn window box views entry =
    (key : ℕ) → IsLive views key → (is_scroll entry.kind && entry.view == number_of views key) ≡ true
    → LiesIn (seen_of window views key) box

abbrev pub ScrolledIn : Size → Rect → Views → List Entry → Type 0
ScrolledIn window box views entries =
    (key : ℕ) → IsLive views key → has_scrolled (number_of views key) entries ≡ true
    → LiesIn (seen_of window views key) box

-- what is seen of each view that a state gives something is damage
abbrev pub NotesGiven : List StateEntry → Size → Rect → Views → Type 0
NotesGiven entries window damage views =
    (key : ℕ) → IsLive views key → is_some (wanted entries views.tree key) ≡ true → IsIn window damage views key

-- and it is within a rectangle
abbrev pub GivenIn : List StateEntry → Size → Rect → Views → Type 0
GivenIn entries window box views =
    (key : ℕ) → IsLive views key → is_some (wanted entries views.tree key) ≡ true
    → LiesIn (seen_of window views key) box
