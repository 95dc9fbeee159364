-- Screens of which nothing is left to lay out, what lines leave of that, and what frames count.
use Rattle.std.specs.Prelude.{◌≡◌, ◌≢◌, ℕ, ◌+◌, ◌-◌, ◌*◌, ◌^◌, ◌≤◌, min, true, List, Some, None}
use Rattle.damage_rect.specs.Within.{LiesIn}
use Rattle.damage_rect.specs.Areas.{rect_area}
use Rattle.geom_core.specs.Rects.{is_empty}
use Rattle.geom_core.specs.declared.geometry.Rect.{Rect}
use Rattle.geom_core.specs.declared.geometry.Size.{Size}
use Rattle.kept_views.specs.Laying.{differ}
use Rattle.measure_pass.specs.Caches.{Grew}
use Rattle.pixel_raster.specs.Raster.{size_of}
use Rattle.script_lines.specs.commands.PlainCommands.{PlainCommand}
use Rattle.seen_edits.specs.Differing.{differing}
use Rattle.traversal.specs.Frames.{after_frame as frame_of, fired_in}
use Rattle.traversal.specs.Growing.{IsMeasuredByFrame, IsUnedited, frame_edits}
use Rattle.traversal.specs.Resting.{IsAtRest}
use Rattle.tree_edits.specs.declared.edits.Edit.{Edit}
use Rattle.view_model.specs.Forest.{count_of}
use Rattle.view_model.specs.Visible.{visible_rect}
use Rattle.view_model.specs.declared.work.Work.{Work}
use Rattle.view_tree.specs.Views.{IsLive, cache_of, geometry_of, held_of, number_of, plain_of}
use Rattle.view_tree.specs.declared.counts.Counts.{Counts}
use Rattle.view_world.specs.frames.Asked.{LeavesBut, asked_views, gone_views, numbers_asked, numbers_gone}
use Rattle.view_world.specs.frames.Counting.{FillsAlike, frame_calls}
use Rattle.view_world.specs.screen.KeyedScreen.{KeyedScreen, window_of, world_of}
use Rattle.view_world.specs.world.Marks.{effect_of, effect_of_edit, leaves_layout}
use Rattle.view_world.specs.frames.Seen.{black_picture, changed_views, moved_views, numbers_edited, scrolled_in}
use Rattle.world_parts.specs.Touching.{is_among}
use Rattle.view_world.specs.declared.world.marks.Effect.{Effect}
use Rattle.view_world.specs.declared.world.marks.Effect.TheVariants.{Opens, Touches}
use Rattle.view_world.specs.declared.screen.stage.Stage.TheVariants.{Settled}

-- the last frame has settled, nothing was asked of the root since, and no hook fires: laying out again would change
-- nothing
pub record IsResting (screen : KeyedScreen) : Type 0 where
  pub settled : screen.stage ≡ Settled
  pub laid : IsAtRest screen.views (size_of screen.surface)
  pub unfired : fired_in screen.hooks (geometry_of screen.views) ≡ None

-- nor would painting again: no point of the picture is another than that of the tree as it is
pub record IsShown (screen : KeyedScreen) : Type 0 where
  pub rests : IsResting screen
  pub clean : is_empty screen.damage ≡ true

-- where a view is seen in the window of a screen
abbrev pub seen_on : KeyedScreen → ℕ → Rect
seen_on screen number = visible_rect (plain_of screen.views) (geometry_of screen.views) (size_of screen.surface) number

-- what is seen of some views, on one screen and on another, is within a rectangle
abbrev pub AreSeenIn : Rect → List ℕ → KeyedScreen → KeyedScreen → Type 0
AreSeenIn box numbers old new =
    (number : ℕ) → is_among number numbers ≡ true → LiesIn (seen_on old number) box × LiesIn (seen_on new number) box

-- A line that is no frame measures nothing; if it requests no layout, what rested still does; it leaves all views
-- except those that it has a reason to lay out; unless it opens a window, it damages the picture only where the views
-- that it changes are seen, before or after it; and the deliveries of a touch say which views it has scrolled.
pub record KeepsBut (effect : Effect) (asked gone changed : List ℕ) (old new : KeyedScreen) : Type 0 where
  pub measures : new.views.counts.measures ≡ old.views.counts.measures
  pub rests : leaves_layout effect ≡ true → IsResting old → IsResting new
  pub leaves : LeavesBut asked gone (plain_of old.views) old.views new.views
  pub within : effect ≢ Opens → (box : Rect) → LiesIn old.damage box → AreSeenIn box changed old new
      → LiesIn new.damage box
  pub scrolled : effect ≡ Touches → scrolled_in new.reported ≡ changed
  -- only a window takes another picture, a black one
  pub stage : effect ≢ Opens → new.stage ≡ old.stage
  pub surface : effect ≢ Opens → new.surface ≡ old.surface
  pub opened : effect ≡ Opens → black_picture (window_of new) ≡ new.surface.pixels

-- the same of a line
abbrev pub KeepsLine : PlainCommand → KeyedScreen → KeyedScreen → Type 0
KeepsLine line old new =
    KeepsBut (effect_of line) (asked_views (world_of old) line) (gone_views (world_of old) line)
    (changed_views (world_of old) line) old new

-- and of an edit
abbrev pub KeepsEdit : Edit → KeyedScreen → KeyedScreen → Type 0
KeepsEdit edit old new =
    KeepsBut (effect_of_edit edit) (numbers_asked old.views edit) (numbers_gone old.views edit)
    (numbers_edited old.views edit) old new

-- nothing changes except the density, the resources, the gesture, the pointers, or what is kept for replies
pub record IsIdle (old new : KeyedScreen) : Type 0 where
  pub views : new.views ≡ old.views
  pub stage : new.stage ≡ old.stage
  pub surface : new.surface ≡ old.surface
  pub damage : new.damage ≡ old.damage
  pub hooks : new.hooks ≡ old.hooks

-- each measuring was counted both in the work and in the tree; a count stays at the greatest number once it is there
pub record CountsMeasures (before after : Counts) (old new : Work) : Type 0 where
  pub by : ℕ
  pub work : min new.measured (2 ^ 64 - 1) ≡ min (old.measured + by) (2 ^ 64 - 1)
  pub tree : min after.measures (2 ^ 64 - 1) ≡ min (before.measures + by) (2 ^ 64 - 1)

-- How often a frame sets the bounds of views: at most twice each, and if no hook fires, only those that differ then.
-- What is kept of the sizes of a view grows by those that the frame has to find, unless a hook has edited the view or
-- one below it in the frame.
pub record LaysOut (old new : KeyedScreen) (window : Size) : Type 0 where
  pub once : (frame_of (plain_of old.views) old.hooks window).fired ≡ 0
      → new.views.counts.laid ≤ old.views.counts.laid + differ (held_of old.views) (held_of new.views) old.views.tree
  pub twice : new.views.counts.laid ≤ old.views.counts.laid + 2 * count_of old.views.tree
  pub caches : (key : ℕ) → IsLive old.views key
      → IsUnedited old.views.tree (frame_edits (plain_of old.views) old.hooks window) key
      → Grew (IsMeasuredByFrame (plain_of old.views) old.hooks window (number_of old.views key))
      (cache_of old.views key) (cache_of new.views key)

-- what is seen, on one screen and on another, of the views that have other bounds there or another offset is within a
-- rectangle
abbrev pub MovedIn : Rect → KeyedScreen → KeyedScreen → Type 0
MovedIn box old new = AreSeenIn box (moved_views (world_of old) (world_of new)) old new

-- How many pixels a frame paints: at least those whose colour changes, and if no hook fired, at most the points of a
-- rectangle around the damage and the views that moved, once and twice for each view. The picture counts as many,
-- unless a count is at the greatest number. A frame that has not settled leaves the picture.
pub record FramePaints (old new : KeyedScreen) (before after : Work) : Type 0 where
  pub least : min (before.painted + differing old.surface.pixels new.surface.pixels) (2 ^ 64 - 1) ≤ after.painted
  pub most : old.stage ≡ Settled → new.stage ≡ Settled → (window : Size) → window_of old ≡ Some window
      → (frame_of (plain_of old.views) old.hooks window).fired ≡ 0
      → (box : Rect) → LiesIn old.damage box → MovedIn box old new
      → after.painted ≤ before.painted + (2 * count_of old.views.tree + 1) * rect_area box
  pub filled : FillsAlike old.surface.filled new.surface.filled before.painted after.painted
  pub unsettled : new.stage ≢ Settled → (new.surface ≡ old.surface) × (after.painted ≡ before.painted)

-- what a frame has counted, and what it leaves
pub record IsFrameDone (old new : KeyedScreen) (before after : Work) : Type 0 where
  pub measured : after.measured ≤ before.measured + frame_calls (world_of old)
  pub calm : IsResting old → after.measured ≤ before.measured
  pub counted : CountsMeasures old.views.counts new.views.counts before after
  pub laid : (window : Size) → window_of old ≡ Some window → LaysOut old new window
  pub shows : new.stage ≡ Settled → IsShown new
  pub paints : FramePaints old new before after
