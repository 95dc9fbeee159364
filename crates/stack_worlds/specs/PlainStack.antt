-- A stack of windows, each with a plain world of its own, and what a line does to it.
use Rattle.std.specs.Prelude.{ℕ, ◌+◌, ◌-ℤ◌, ◌&&◌, Bool, true, false, if◌then◌else◌, ℤ, pos, unsigned_abs, int_le}
use Rattle.std.specs.Prelude.{nat_lt, List, [], ◌∷◌, replicate, codes, Option, Some, None, map, slice_set}
use Rattle.std.specs.Prelude.{slice_index_or}
use Rattle.geom_core.specs.declared.color.Argb.{Argb}
use Rattle.geom_core.specs.Numbers.{unpainted}
use Rattle.geom_core.specs.declared.geometry.Size.{Size}
use Rattle.pixel_raster.specs.Raster.{pixel_at}
use Rattle.script_lines.specs.commands.PlainCommands.{PlainCommand}
use Rattle.script_lines.specs.commands.PlainCommands as command
use Rattle.tool_io.specs.Fetched.{Files}
use Rattle.touch_event.specs.declared.event.Point.{Point}
use Rattle.view_model.specs.Refusals.{PlainRefusal, refusal_numbered}
use Rattle.stack_worlds.specs.declared.stack.way.Own.{Own}
use Rattle.stack_worlds.specs.declared.stack.way.Own.TheVariants as own
use Rattle.stack_worlds.specs.Numbers.{max_panes, max_touch, min_touch, no_pane, out_of_range, wrong_pointer}
use Rattle.world_parts.specs.Inflating.{asked_file}
use Rattle.world_replies.specs.Replies.{pixels_text}
use Rattle.world_parts.specs.Reply.{Reply}
use Rattle.view_world.specs.world.Step.{step}
use Rattle.world_parts.specs.Reply as world_reply
use Rattle.world_parts.specs.World.{World, Stage, NoWindow, NoFrame, Unsettled, Settled, empty_world}
use Rattle.window_stack.specs.PlainPanes.{PlainPanes, closed, corner_of, holds_gesture, is_open, no_panes, raised}
use Rattle.window_stack.specs.PlainPanes.{set_at, topmost}
use Rattle.window_stack.specs.StackLines.{PlainLine, At, Raise, Close, In, Compose, Down, Move, Up, Cancel}

pub record PlainStack : Type 0 where
  pub panes : PlainPanes
  -- the worlds by the names of their windows, none where no window is open
  pub worlds : List (Option World)

abbrev pub empty_stack : PlainStack
empty_stack = record { panes = no_panes; worlds = replicate max_panes None }

-- the world of a window, if it is open
abbrev pub world_at : PlainStack → ℕ → Option World
world_at stack k = slice_index_or stack.worlds k None

-- where a line goes before any world is asked
pub data PlainWay : Type 0 where
  -- a command for a window, and the window that has the gesture if the command is accepted
  Given : Option ℕ → ℕ → PlainCommand → PlainWay
  -- a pointer goes down where no window is
  Missed : PlainWay
  -- the number of the refusal
  RefusedBy : ℕ → PlainWay
  -- what the line does to the stack itself
  ToStack : Own → PlainWay

-- how far a coordinate is from an edge, if a touch can be that far from it
abbrev pub from_edge : ℤ → ℤ → Option ℤ
from_edge edge at = if int_le min_touch (at -ℤ edge) && int_le (at -ℤ edge) max_touch then Some (at -ℤ edge) else None

abbrev pub both : Option ℤ → Option ℤ → Option (ℤ × ℤ)
both None y = None
both (Some x) None = None
both (Some x) (Some y) = Some (x, y)

-- a point by the coordinates of the window with this corner, if a touch can be there
abbrev pub from_corner : Option (ℤ × ℤ) → ℤ → ℤ → Option (ℤ × ℤ)
from_corner None x y = None
from_corner (Some corner) x y = both (from_edge corner.0 x) (from_edge corner.1 y)

-- a touch for a window that has the gesture from then on
abbrev pub touch_at : ℕ → (ℤ → ℤ → PlainCommand) → Option (ℤ × ℤ) → PlainWay
touch_at k make None = RefusedBy out_of_range
touch_at k make (Some point) = Given (Some k) k (make point.0 point.1)

-- the size of the window of a world
abbrev pub size_in : Option World → Option Size
size_in None = None
size_in (Some world) = world.window

abbrev pub sizes_of : PlainStack → List (Option Size)
sizes_of stack = map size_in stack.worlds

-- the window that gets a pointer which goes down: the one that has the gesture, or else the topmost one there
abbrev pub target_of : PlainStack → ℤ → ℤ → Option ℕ → Option ℕ
target_of stack x y None = topmost stack.panes x y (sizes_of stack)
target_of stack x y (Some k) = Some k

abbrev pub way_down : PlainStack → ℕ → ℤ → ℤ → Option ℕ → PlainWay
way_down stack p x y None = Missed
way_down stack p x y (Some k) = touch_at k (command.Down p) (from_corner (corner_of stack.panes k) x y)

abbrev pub way_move : PlainStack → ℕ → ℤ → ℤ → Option ℕ → PlainWay
way_move stack p x y None = RefusedBy wrong_pointer
way_move stack p x y (Some k) = touch_at k (command.Move p) (from_corner (corner_of stack.panes k) x y)

-- a command for the window that has the gesture
abbrev pub way_held : PlainCommand → Option ℕ → PlainWay
way_held said None = RefusedBy wrong_pointer
way_held said (Some k) = Given (Some k) k said

-- the way of a line that names a window, which must be open
abbrev pub way_open : PlainStack → ℕ → PlainWay → PlainWay
way_open stack k way = if is_open stack.panes k then way else RefusedBy no_pane

abbrev pub way_of : PlainStack → PlainLine → PlainWay
way_of stack (At k x y) = ToStack (own.At k x y)
way_of stack (Raise k) = way_open stack k (ToStack (own.Raise k))
way_of stack (Close k) = way_open stack k (ToStack (own.Close k))
way_of stack (In k command) = way_open stack k (Given stack.panes.holder k command)
way_of stack (Compose x y w h) = ToStack (own.Compose x y w h)
way_of stack (Down p x y) = way_down stack p x y (target_of stack x y stack.panes.holder)
way_of stack (Move p x y) = way_move stack p x y stack.panes.holder
way_of stack (Up p) = way_held (command.Up p) stack.panes.holder
way_of stack Cancel = way_held command.Cancel stack.panes.holder

-- the size of the window of a world whose last frame has settled
abbrev pub settled_window : Stage → Option Size → Option Size
settled_window NoWindow window = None
settled_window NoFrame window = None
settled_window Unsettled window = None
settled_window Settled window = window

abbrev pub settled_size : Option World → Option Size
settled_size None = None
settled_size (Some world) = settled_window world.stage world.window

abbrev pub settled_sizes : PlainStack → List (Option Size)
settled_sizes stack = map settled_size stack.worlds

-- the colour of a point of a picture of this size, black outside of it
abbrev pub color_of_picture : Option Size → List Argb → ℕ → ℕ → Argb
color_of_picture None picture column row = unpainted
color_of_picture (Some size) picture column row =
    if nat_lt column (unsigned_abs size.w) && nat_lt row (unsigned_abs size.h)
    then pixel_at (unsigned_abs size.w) picture column row
    else unpainted

-- the colour of a point of a window, black if its last frame has not settled
abbrev pub color_of_world : Option World → ℕ → ℕ → Argb
color_of_world None column row = unpainted
color_of_world (Some world) column row = color_of_picture (settled_size (Some world)) world.picture column row

-- the same by the coordinates of the stack, if the window has this corner
abbrev pub color_from : Option (ℤ × ℤ) → ℤ → ℤ → Option World → Argb
color_from None x y world = unpainted
color_from (Some corner) x y world = color_of_world world (unsigned_abs (x -ℤ corner.0)) (unsigned_abs (y -ℤ corner.1))

abbrev pub color_in : PlainStack → ℤ → ℤ → Option ℕ → Argb
color_in stack x y None = unpainted
color_in stack x y (Some k) = color_from (corner_of stack.panes k) x y (world_at stack k)

-- the colour of a point: that of the topmost settled window there, and black if there is none
abbrev pub composed : PlainStack → ℤ → ℤ → Argb
composed stack x y = color_in stack x y (topmost stack.panes x y (settled_sizes stack))

-- the colours of a part, one line per row
abbrev pub composed_text : PlainStack → ℕ → ℕ → ℕ → ℕ → List ℕ
composed_text stack left top width height =
    pixels_text (λ column row. composed stack (pos (left + column)) (pos (top + row))) width height

pub data StackReply : Type 0 where
  Done : PlainStack → List ℕ → StackReply
  Refused : PlainRefusal → StackReply

-- no pointer is down
abbrev pub is_none_down : List Point → Bool
is_none_down [] = true
is_none_down (point ∷ more) = false

-- the window that has the gesture after a command: no longer this one if none of its pointers is down
abbrev pub holder_after : Option ℕ → ℕ → World → Option ℕ
holder_after holder k world = if holds_gesture holder k && is_none_down world.pointers then None else holder

-- the stack with this world of a window, which a command has made
abbrev pub with_world : PlainStack → Option ℕ → ℕ → World → PlainStack
with_world stack holder k world =
    record {
      panes = record stack.panes { holder = holder_after holder k world };
      worlds = slice_set stack.worlds k (Some world);
    }

abbrev pub after_given : PlainStack → Option ℕ → ℕ → Reply → StackReply
after_given stack holder k (world_reply.Done world text) = Done (with_world stack holder k world) text
after_given stack holder k (world_reply.Refused refusal) = Refused refusal

-- what a command does in the world of a window
abbrev pub given_to : Files → PlainStack → Option ℕ → ℕ → PlainCommand → Option World → StackReply
given_to files stack holder k said None = Refused (refusal_numbered no_pane)
given_to files stack holder k said (Some world) = after_given stack holder k (step files world said)

-- a window with this corner, and with an empty world where it was not open
abbrev pub placed_at : PlainStack → ℕ → ℤ → ℤ → PlainStack
placed_at stack k x y =
    record {
      panes = set_at stack.panes k x y;
      worlds = if is_open stack.panes k then stack.worlds else slice_set stack.worlds k (Some empty_world);
    }

-- what a line does to the stack itself
abbrev pub own_step : PlainStack → Own → StackReply
own_step stack (own.At k x y) = Done (placed_at stack k x y) []
own_step stack (own.Raise k) = Done (record stack { panes = raised stack.panes k }) []
own_step stack (own.Close k) = Done (record { panes = closed stack.panes k; worlds = slice_set stack.worlds k None }) []
own_step stack (own.Compose x y w h) =
    Done stack (composed_text stack (unsigned_abs x) (unsigned_abs y) (unsigned_abs w) (unsigned_abs h))

abbrev pub by_way : Files → PlainStack → PlainWay → StackReply
by_way files stack (Given holder k said) = given_to files stack holder k said (world_at stack k)
by_way files stack Missed = Done stack (codes "nobody\n")
by_way files stack (RefusedBy number) = Refused (refusal_numbered number)
by_way files stack (ToStack change) = own_step stack change

-- what a line does with these files at hand
abbrev pub stack_step : Files → PlainStack → PlainLine → StackReply
stack_step files stack line = by_way files stack (way_of stack line)

-- the name of the file that a command asks the shelf for in a window
abbrev pub asked_in : Option World → PlainCommand → Option (List ℕ)
asked_in None said = None
asked_in (Some world) said = asked_file world said

abbrev pub asked_on : PlainStack → PlainWay → Option (List ℕ)
asked_on stack (Given holder k said) = asked_in (world_at stack k) said
asked_on stack Missed = None
asked_on stack (RefusedBy number) = None
asked_on stack (ToStack change) = None

-- the name of the file that a line asks the shelf for
abbrev pub asked_by : PlainStack → PlainLine → Option (List ℕ)
asked_by stack line = asked_on stack (way_of stack line)
