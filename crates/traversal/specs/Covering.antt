-- Rectangles around what is seen of the views that have other bounds than before, or another offset.
use Rattle.std.specs.Prelude.{◌≡◌, ◌≢◌, ◌⊎◌, ℕ}
use Rattle.damage_rect.specs.Within.{LiesIn}
use Rattle.geom_core.specs.declared.geometry.Rect.{Rect}
use Rattle.geom_core.specs.declared.geometry.Size.{Size}
use Rattle.seen_parts.specs.Meeting.{seen_at}
use Rattle.view_model.specs.Forest.{Forest, Nothing, Branch}
use Rattle.view_model.specs.Visible.{Canvas, canvas_below, seen_in, whole_window}
use Rattle.view_tree.specs.Rows.{Row}
use Rattle.view_tree.specs.Views.{Held, IsLive, Views, held_of, scrolled}

-- a view has other bounds, or another offset
abbrev pub IsShifted : Held → Held → Type 0
IsShifted old new = (new.state.bounds ≢ old.state.bounds) ⊎ (new.offset ≢ old.offset)

-- a box has what is seen in a window, before and after, of each view that is shifted
abbrev pub HasShifted : Size → Rect → Views → Views → Type 0
HasShifted window box old new =
    (key : ℕ) → IsLive old key → IsShifted (held_of old key) (held_of new key)
    → LiesIn (seen_at (held_of old) (whole_window window) key old.tree) box
    × LiesIn (seen_at (held_of new) (whole_window window) key new.tree) box

-- so it has of each view of a list of a canvas, and below those of them that have the bounds that they had
abbrev pub Covered : Canvas → Rect → (ℕ → Held) → (ℕ → Held) → Forest Row → Type 0
Covered canvas box old new Nothing = Unit {0}
Covered canvas box old new (Branch row kids siblings) =
    ((new row.key).state.bounds ≡ (old row.key).state.bounds
    → Covered (canvas_below (old row.key).state.bounds (scrolled old row).facts canvas) box old new kids)
    ×
    (IsShifted (old row.key) (new row.key) → LiesIn (seen_in (old row.key).state.bounds canvas) box
    × LiesIn (seen_in (new row.key).state.bounds canvas) box)
    × Covered canvas box old new siblings
