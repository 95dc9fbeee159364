-- The work of frames: what is known besides a world from line to line, and how much a line measures and paints.
use Rattle.std.specs.Prelude.{◌≡◌, ℕ, ◌+◌, ◌*◌, ◌-◌, ◌^◌, ◌≤◌, ◌==◌, Bool, true, ◌&&◌, ◌||◌, not, min, if◌then◌else◌}
use Rattle.std.specs.Prelude.{List, Option, Some, None}
use Rattle.damage_rect.specs.Within.{LiesIn}
use Rattle.damage_rect.specs.Areas.{rect_area}
use Rattle.geom_core.specs.Rects.{empty_rect, hull_of}
use Rattle.geom_core.specs.declared.color.Argb.{Argb}
use Rattle.geom_core.specs.declared.geometry.Rect.{Rect}
use Rattle.geom_core.specs.declared.geometry.Size.{Size}
use Rattle.script_lines.specs.commands.PlainCommands.{PlainCommand}
use Rattle.script_lines.specs.commands.PlainCommands as command
use Rattle.seen_edits.specs.Differing.{differing}
use Rattle.traversal.specs.Frames.{Framed, after_frame as frame_of}
use Rattle.view_model.specs.Forest.{count_of}
use Rattle.view_model.specs.declared.work.Work.{Work}
use Rattle.view_world.specs.frames.Counting.{area_of}
use Rattle.view_world.specs.world.KeyedWorld.{KeyedWorld, world_of}
use Rattle.view_world.specs.world.Marks.{has_settled, marks_after, measure_bound}
use Rattle.view_world.specs.frames.Seen.{black_picture, line_box}
use Rattle.view_world.specs.world.Step.{picture_after, with_frame}
use Rattle.world_parts.specs.World.{World}
use Rattle.view_world.specs.declared.world.marks.Marks.{Marks}

-- a world, what is known of its next frame, and the picture that is shown
pub record Watched : Type 0 where
  pub world : World
  pub marks : Marks
  -- around what was seen of the views that lines have changed since the last frame, if that has settled and no window
  -- came since
  pub box : Rect
  -- the picture of the last frame that has settled since the window opened, and black before that
  pub shown : List Argb

-- the picture that is shown after a line: another one after a window and after a frame that has settled
abbrev pub shown_after : PlainCommand → World → List Argb → List Argb
shown_after (command.Window w h) after shown = black_picture after.window
shown_after command.Frame after shown = if has_settled after.stage then after.picture else shown
shown_after line after shown = shown

-- the box after a line: nothing after a window and a frame
abbrev pub box_after : World → PlainCommand → World → Bool → Rect → Rect
box_after before (command.Window w h) after based box = empty_rect
box_after before command.Frame after based box = empty_rect
box_after before line after based box = if based then hull_of box (line_box before line after) else empty_rect

unfoldable pub watched_after : Watched → PlainCommand → World → Watched
watched_after watched line after = record {
  world = after;
  marks = marks_after watched.world line after watched.marks;
  box = box_after watched.world line after watched.marks.based watched.box;
  shown = shown_after line after watched.shown;
}

-- what contracts see of a world of the code, with a box
abbrev pub watched_in : KeyedWorld → Rect → Watched
watched_in world box =
    record { world = world_of world; marks = world.marks; box = box; shown = world.screen.surface.pixels }

-- the damage of a world is in a box, if it has one
abbrev pub HasBox : KeyedWorld → Rect → Type 0
HasBox world box = world.marks.based ≡ true → LiesIn world.screen.damage box

-- a world of the code is the one that is watched
pub record IsWatched (world : KeyedWorld) (watched : Watched) : Type 0 where
  pub same : watched_in world watched.box ≡ watched
  pub box : HasBox world watched.box

-- what lines cost: at most this many views measured, and between these numbers of pixels painted
pub record LineCosts : Type 0 where
  pub measured : ℕ
  pub least : ℕ
  pub most : ℕ

abbrev pub no_costs : LineCosts
no_costs = record { measured = 0; least = 0; most = 0 }

-- how many pixels a frame paints at least: each whose colour differs from the one that is shown
unfoldable pub painted_least : List Argb → Size → Framed → ℕ
painted_least shown window frame = if frame.settled then differing shown (picture_after window frame) else 0

-- how often a frame paints a pixel at most: black, and twice for each view
abbrev pub layers : World → ℕ
layers world = 2 * count_of world.tree + 1

-- the box of the lines since the last frame and of a frame itself
abbrev pub frame_box : Watched → Size → Framed → Rect
frame_box watched window frame =
    hull_of watched.box (line_box watched.world command.Frame (with_frame watched.world window frame))

-- how many points a frame paints at most: those of the box, or of the window if no box is known or a hook fired
abbrev pub points_most : Watched → Size → Framed → ℕ
points_most watched window frame =
    if watched.marks.based && (frame.fired == 0) then rect_area (frame_box watched window frame)
    else area_of (Some window)

-- how many pixels a frame paints at most: none if it is idle or does not settle
unfoldable pub painted_most : Watched → Size → Framed → ℕ
painted_most watched window frame =
    if watched.marks.idle || not frame.settled then 0 else layers watched.world * points_most watched window frame

abbrev pub costs_of_frame : Watched → Option Size → LineCosts
costs_of_frame watched None = no_costs
costs_of_frame watched (Some window) =
    let frame = frame_of watched.world.tree watched.world.hooks window in
    record {
      measured = measure_bound watched.world watched.marks;
      least = painted_least watched.shown window frame;
      most = painted_most watched window frame;
    }

-- what a line costs that was carried out: only a frame costs anything
abbrev pub costs_of : Watched → PlainCommand → LineCosts
costs_of watched command.Frame = costs_of_frame watched watched.world.window
costs_of watched line = no_costs

-- the greatest number that a count reaches
abbrev pub max_count : ℕ
max_count = 2 ^ 64 - 1

-- what was counted is worth these costs; a count that has reached the greatest number rises no more
pub record IsWorth (costs : LineCosts) (old new : Work) : Type 0 where
  pub measured : new.measured ≤ old.measured + costs.measured
  pub measured_later : min old.measured max_count ≤ new.measured
  pub least : min (old.painted + costs.least) max_count ≤ new.painted
  pub most : new.painted ≤ old.painted + costs.most
