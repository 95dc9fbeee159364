-- What a picture shows of a tree of views that has changed since it was painted.
use Rattle.std.specs.Prelude.{◌≡◌, ◌<◌, ℕ, ℤ, pos, Bool, true, false, not}
use Rattle.damage_rect.specs.Within.{LiesIn}
use Rattle.geom_core.specs.Rects.{holds}
use Rattle.geom_core.specs.declared.geometry.Rect.{Rect}
use Rattle.geom_core.specs.declared.geometry.Size.{Size}
use Rattle.pixel_raster.specs.Raster.{Raster, color_at}
use Rattle.tree_edits.specs.declared.edits.Edit.{Edit}
use Rattle.tree_edits.specs.declared.edits.Edit.TheVariants as edit
use Rattle.seen_parts.specs.Meeting.{seen_at}
use Rattle.view_model.specs.declared.changes.Act.{Act}
use Rattle.view_model.specs.Facets.{touched_by}
use Rattle.view_model.specs.Geometry.{rect_at}
use Rattle.view_model.specs.Painting.{pixel_color}
use Rattle.view_model.specs.Visible.{whole_window}
use Rattle.view_tree.specs.Views.{Views, geometry_of, held_of, plain_of}

-- each pixel outside of a rectangle has the colour that the present views give it with their present bounds
abbrev pub Shows : Raster → Rect → Views → Type 0
Shows picture damage views =
    (x y : ℕ) → x < picture.width → y < picture.height → holds damage (pos x) (pos y) ≡ false
    → color_at picture x y ≡ pixel_color (geometry_of views) (plain_of views) (pos x) (pos y)

-- views have changed, and each point of the window that has another colour is within the damage, which has grown
pub record KeepsShown (window : Size) (less more : Rect) (old new : Views) : Type 0 where
  pub grew : LiesIn less more
  pub colors : (x y : ℤ) → holds (rect_at (pos 0) (pos 0) window) x y ≡ true → holds more x y ≡ false
      → pixel_color (geometry_of new) (plain_of new) x y ≡ pixel_color (geometry_of old) (plain_of old) x y

-- the view that an edit changes, if none is added or removed
abbrev pub edited : Edit → ℕ
edited (edit.Add parent class width height) = 0
edited (edit.Remove view) = view
edited (edit.Act view act) = view
edited (edit.Text view text) = view

-- an edit that adds and removes no view
abbrev pub IsChange : Edit → Type 0
IsChange (edit.Add parent class width height) = ⊥
IsChange (edit.Remove view) = ⊥
IsChange (edit.Act view act) = Unit {0}
IsChange (edit.Text view text) = Unit {0}

-- whether an act sets what no picture shows: what layout alone reads, an id, or which views get events
abbrev pub act_is_unseen : Act → Bool
act_is_unseen act = not (touched_by act).shows

-- whether an edit shows in no picture
abbrev pub is_unseen : Edit → Bool
is_unseen (edit.Add parent class width height) = false
is_unseen (edit.Remove view) = false
is_unseen (edit.Act view act) = act_is_unseen act
is_unseen (edit.Text view text) = false

-- the part of a window in which a view is seen
abbrev pub seen_of : Size → Views → ℕ → Rect
seen_of window views key = seen_at (held_of views) (whole_window window) key views.tree

-- damage has grown by no more than what was seen of a view, and what is seen of it now
abbrev pub GrowsWithin : Size → ℕ → Views → Views → Rect → Rect → Type 0
GrowsWithin window view old new less more =
    (box : Rect) → LiesIn less box → LiesIn (seen_of window old view) box → LiesIn (seen_of window new view) box
    → LiesIn more box
