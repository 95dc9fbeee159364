-- A stack of windows with what is known of the next frame of each, and what a line does to it.
use Rattle.std.specs.Prelude.{ℕ, List, [], Option, Some, None, if◌then◌else◌, map, slice_index_or, slice_set}
use Rattle.std.specs.Option.{option_map}
use Rattle.script_lines.specs.commands.PlainCommands.{PlainCommand}
use Rattle.stack_worlds.specs.PlainStack.{PlainStack, PlainWay, Given, Missed, RefusedBy, ToStack}
use Rattle.stack_worlds.specs.declared.stack.way.Own.{Own}
use Rattle.stack_worlds.specs.declared.stack.way.Own.TheVariants as own
use Rattle.tool_io.specs.Fetched.{Files}
use Rattle.view_world.specs.world.Marks.{no_marks}
use Rattle.world_parts.specs.Reply.{Reply, Done, Refused}
use Rattle.view_world.specs.world.Step.{step}
use Rattle.view_world.specs.frames.Watched.{LineCosts, Watched, costs_of, no_costs, watched_after}
use Rattle.world_parts.specs.World.{World, empty_world}
use Rattle.window_stack.specs.PlainPanes.{PlainPanes, is_open}
use Rattle.geom_core.specs.Rects.{empty_rect}

-- a world of which nothing is known
abbrev pub watched_first : World → Watched
watched_first world = record { world = world; marks = no_marks; box = empty_rect; shown = [] }

pub record WatchedStack : Type 0 where
  pub panes : PlainPanes
  -- the worlds by the names of their windows, none where no window is open
  pub worlds : List (Option Watched)

abbrev pub plain_stack : WatchedStack → PlainStack
plain_stack stack =
    record { panes = stack.panes; worlds = map (option_map (λ (watched : Watched). watched.world)) stack.worlds }

-- a stack of which nothing is known
abbrev pub stack_first : PlainStack → WatchedStack
stack_first stack = record { panes = stack.panes; worlds = map (option_map watched_first) stack.worlds }

abbrev pub watched_at : List (Option Watched) → ℕ → Option Watched
watched_at worlds k = slice_index_or worlds k None

-- a window after a command that is accepted
abbrev pub after_accepted : List (Option Watched) → ℕ → Watched → PlainCommand → Reply → List (Option Watched)
after_accepted worlds k watched said (Done world text) = slice_set worlds k (Some (watched_after watched said world))
after_accepted worlds k watched said (Refused refusal) = worlds

abbrev pub after_said : Files → List (Option Watched) → ℕ → PlainCommand → Option Watched → List (Option Watched)
after_said files worlds k said None = worlds
after_said files worlds k said (Some watched) = after_accepted worlds k watched said (step files watched.world said)

-- an empty world where a window is opened, and none where one is closed
abbrev pub after_own : WatchedStack → Own → List (Option Watched)
after_own stack (own.At k x y) =
    if is_open stack.panes k then stack.worlds else slice_set stack.worlds k (Some (watched_first empty_world))
after_own stack (own.Raise k) = stack.worlds
after_own stack (own.Close k) = slice_set stack.worlds k None
after_own stack (own.Compose x y w h) = stack.worlds

abbrev pub after_way : Files → WatchedStack → PlainWay → List (Option Watched)
after_way files stack (Given holder k said) = after_said files stack.worlds k said (watched_at stack.worlds k)
after_way files stack Missed = stack.worlds
after_way files stack (RefusedBy number) = stack.worlds
after_way files stack (ToStack change) = after_own stack change

-- what a line costs that was carried out: only a command of a window costs anything
abbrev pub costs_in : Option Watched → PlainCommand → LineCosts
costs_in None said = no_costs
costs_in (Some watched) said = costs_of watched said

abbrev pub costs_of_way : WatchedStack → PlainWay → LineCosts
costs_of_way stack (Given holder k said) = costs_in (watched_at stack.worlds k) said
costs_of_way stack Missed = no_costs
costs_of_way stack (RefusedBy number) = no_costs
costs_of_way stack (ToStack change) = no_costs
