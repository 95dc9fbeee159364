-- What passes and frames leave of a tree of the code.
use Rattle.std.specs.Prelude.{◌≡◌, ◌<◌, ℤ, pos, true, false, List, [], ◌∷◌}
use Rattle.damage_rect.specs.Within.{LiesIn}
use Rattle.geom_core.specs.Rects.{holds}
use Rattle.geom_core.specs.declared.geometry.Rect.{Rect}
use Rattle.geom_core.specs.declared.geometry.Size.{Size}
use Rattle.size_hooks.specs.Hook.{Hook}
use Rattle.view_model.specs.Facts.{new_facts}
use Rattle.view_model.specs.Forest.{map_rows}
use Rattle.view_model.specs.Geometry.{Laid, rect_at}
use Rattle.view_model.specs.Painting.{pixel_color}
use Rattle.view_tree.specs.Rows.{Row}
use Rattle.view_tree.specs.Views.{Views, geometry_of, plain_of}
use Rattle.traversal.specs.declared.outcome.Frame.{Frame}
use Rattle.traversal.specs.Covering.{HasShifted}
use Rattle.traversal.specs.Frames.{Framed, Pass}
use Rattle.traversal.specs.Narrow.{IsNarrow}

-- a row without its facts
abbrev pub bare : Row → Row
bare row = record row { view = record row.view { facts = new_facts (pos 0) (pos 0) } }

-- nothing changes except facts, states and offsets
pub record SameShape (old new : Views) : Type 0 where
  pub rows : map_rows bare new.tree ≡ map_rows bare old.tree
  pub orders : new.orders ≡ old.orders
  pub next : new.next ≡ old.next

-- each view of a geometry has a size that fits in 32 bits
abbrev pub FitAll : List Laid → Type 0
FitAll [] = Unit {0}
FitAll (laid ∷ geometry) = IsNarrow laid.rect × FitAll geometry

-- a tree and its hooks are as a pass leaves them
pub record IsPassed (pass : Pass) (views : Views) (hooks : List Hook) : Type 0 where
  pub plain : plain_of views ≡ pass.tree
  pub hooks_are : hooks ≡ pass.hooks
  pub geometry : geometry_of views ≡ pass.geometry

-- a tree and its hooks are as a frame leaves them, and so is its result
pub record IsFramed (after : Framed) (views : Views) (hooks : List Hook) (frame : Frame) : Type 0 where
  pub plain : plain_of views ≡ after.tree
  pub hooks_are : hooks ≡ after.hooks
  pub settled : frame.settled ≡ after.settled
  pub fired : frame.fired ≡ after.fired
  pub geometry : after.settled ≡ true → geometry_of views ≡ after.geometry

-- What has to be painted. After a frame that has settled each other point of the window has the colour that the views
-- gave before it. If a hook fired it is all of the window; otherwise it is within each box that has what is seen,
-- before and after, of the views that have other bounds or another offset.
pub record IsDamage (old new : Views) (window : Size) (frame : Frame) : Type 0 where
  pub colors : frame.settled ≡ true → (x y : ℤ) → holds (rect_at (pos 0) (pos 0) window) x y ≡ true
      → holds frame.damage x y ≡ false
      → pixel_color (geometry_of new) (plain_of new) x y ≡ pixel_color (geometry_of old) (plain_of old) x y
  pub whole : 0 < frame.fired → frame.damage ≡ rect_at (pos 0) (pos 0) window
  pub within : frame.fired ≡ 0 → (box : Rect) → HasShifted window box old new → LiesIn frame.damage box
