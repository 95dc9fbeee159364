-- What a line leaves of the worlds of a stack, and what it has counted: in the world of one window, and in all others.
use Rattle.std.specs.Prelude.{◌≡◌, ◌≢◌, ◌⊎◌, ◌+◌, ◌≤◌, ℕ, true, if◌then◌else◌, Option, Some, None, Result, List}
use Rattle.std.specs.Prelude.{slice_set}
use Rattle.geom_core.specs.declared.geometry.Rect.{Rect}
use Rattle.geom_core.specs.declared.geometry.Size.{Size}
use Rattle.script_lines.specs.commands.PlainCommands.{PlainCommand, Frame}
use Rattle.stack_worlds.specs.KeptStack.{KeyedStack, keyed_at}
use Rattle.stack_worlds.specs.Numbers.{max_views}
use Rattle.stack_worlds.specs.PlainStack.{PlainWay, Given, Missed, RefusedBy, ToStack}
use Rattle.stack_worlds.specs.declared.stack.way.Own.{Own}
use Rattle.stack_worlds.specs.declared.stack.way.Own.TheVariants as own
use Rattle.view_model.specs.declared.work.Work.{Work}
use Rattle.view_world.specs.frames.Asked.{LeavesUnasked}
use Rattle.view_world.specs.world.Carried.{IsDone}
use Rattle.view_world.specs.frames.Counting.{FillsAlike, RisesWithin, paint_bound}
use Rattle.view_world.specs.screen.KeyedScreen.{window_of}
use Rattle.view_world.specs.world.KeyedWorld.{KeyedWorld, new_world, world_of}
use Rattle.view_world.specs.world.Marks.{marks_after, measure_bound}
use Rattle.view_world.specs.frames.Resting.{CountsMeasures, LaysOut}
use Rattle.view_world.specs.frames.Watched.{HasBox, IsWatched, IsWorth, costs_of, watched_after, watched_in}
use Rattle.world_parts.specs.declared.fault.StepFault.{StepFault}
use Rattle.window_stack.specs.PlainPanes.{is_open}

-- what a command counts in a world, and what it leaves there
pub record WorksIn (before after : KeyedWorld) (said : PlainCommand) (result : Result (Unit {0}) StepFault)
    (old new : Work) : Type 0 where
  pub numbers : after.screen.views.next ≤ before.screen.views.next + max_views
  pub work : said ≢ Frame → new ≡ old
  pub idle : IsDone result ⊎ (new ≡ old)
  pub still : said ≡ Frame → before.marks.idle ≡ true → new ≡ old
  pub marks : IsDone result → after.marks ≡ marks_after (world_of before) said (world_of after) before.marks
  pub measured : said ≡ Frame → IsDone result
      → new.measured ≤ old.measured + measure_bound (world_of before) before.marks
  pub counted : said ≡ Frame → IsDone result
      → CountsMeasures before.screen.views.counts after.screen.views.counts old new
  pub measures : said ≢ Frame → after.screen.views.counts.measures ≡ before.screen.views.counts.measures
  pub laid : said ≡ Frame → IsDone result → (window : Size) → window_of before.screen ≡ Some window
      → LaysOut before.screen after.screen window
  pub leaves : said ≢ Frame → LeavesUnasked (world_of before) said before.screen.views after.screen.views
  pub painted : RisesWithin (paint_bound (world_of before)) old.painted new.painted
  pub watched : IsDone result → (box : Rect) → HasBox before box
      → IsWatched after (watched_after (watched_in before box) said (world_of after))
  pub worth : IsDone result → (box : Rect) → HasBox before box → IsWorth (costs_of (watched_in before box) said) old new
  pub filled : said ≡ Frame → IsDone result
      → FillsAlike before.screen.surface.filled after.screen.surface.filled old.painted new.painted

-- the worlds after a change of the stack itself: an empty one where a window was opened, none where it was closed
abbrev pub worlds_after : KeyedStack → Own → List (Option KeyedWorld)
worlds_after stack (own.At k x y) =
    if is_open stack.panes k then stack.worlds else slice_set stack.worlds k (Some new_world)
worlds_after stack (own.Raise k) = stack.worlds
worlds_after stack (own.Close k) = slice_set stack.worlds k None
worlds_after stack (own.Compose x y w h) = stack.worlds

-- A line that goes to a window changes the world of that window at most, and counts what that world promises. No other
-- line counts anything.
abbrev pub WorksBy : PlainWay → KeyedStack → KeyedStack → Result (Unit {0}) StepFault → Work → Work → Type 0
WorksBy (Given holder k said) before after result old new =
    (world : KeyedWorld) × (keyed_at before k ≡ Some world)
    × (now : KeyedWorld) × (after.worlds ≡ slice_set before.worlds k (Some now)) × WorksIn world now said result old new
WorksBy Missed before after result old new = (after.worlds ≡ before.worlds) × (new ≡ old)
WorksBy (RefusedBy number) before after result old new = (after.worlds ≡ before.worlds) × (new ≡ old)
WorksBy (ToStack change) before after result old new =
    (IsDone result → after.worlds ≡ worlds_after before change) × (new ≡ old)

-- the number of the view that a world makes next; a world that is not there yet begins with 1
abbrev pub next_in : Option KeyedWorld → ℕ
next_in None = 1
next_in (Some world) = world.screen.views.next

abbrev pub next_at : KeyedStack → ℕ → ℕ
next_at stack k = next_in (keyed_at stack k)
