-- What contracts see of what carries out the lines of a script.
use Rattle.std.specs.Prelude.{◌≡◌, ℕ, max, List, [], ◌∷◌, Option, Some, None, Result, Ok, Err}
use Rattle.std.specs.Io.KnownBytes.{Appends}
use Rattle.stack_worlds.specs.KeptStack.{KeyedStack, no_windows, stack_of}
use Rattle.stack_worlds.specs.WindowLines.{next_in}
use Rattle.text_lines.specs.Prefix.{AppendsPrefix}
use Rattle.tool_io.specs.Counts.{raised}
use Rattle.tool_io.specs.SinkState.{SinkState}
use Rattle.view_model.specs.Refusals.{plain_refusal}
use Rattle.whole_tool.specs.Carried.{Carried, Alone, Stacked, LineReply, Done, Refused}
use Rattle.whole_tool.specs.Tally.{Watching, WatchedWorld, WatchedWindows}
use Rattle.whole_tool.specs.WatchedStack.{WatchedStack}
use Rattle.whole_tool.specs.declared.carrier.Carrier.{Carrier}
use Rattle.whole_tool.specs.declared.carrier.Carrier.TheVariants as carrier
use Rattle.view_world.specs.world.KeyedWorld.{KeyedWorld, new_world, world_of}
use Rattle.view_world.specs.frames.Watched.{IsWatched, Watched}
use Rattle.world_parts.specs.declared.fault.StepFault.{StepFault}
use Rattle.world_parts.specs.declared.fault.StepFault.TheVariants as fault

abbrev pub carried_of : Carrier → Carried
carried_of (carrier.Alone world) = Alone (world_of world)
carried_of (carrier.Stacked stack) = Stacked (stack_of stack)

-- no line was carried out
abbrev pub IsFirst : Carrier → Type 0
IsFirst (carrier.Alone world) = world ≡ new_world
IsFirst (carrier.Stacked stack) = stack ≡ no_windows

-- the lines are those of a stack
abbrev pub IsStacked : Carrier → Type 0
IsStacked (carrier.Alone world) = ⊥
IsStacked (carrier.Stacked stack) = Unit {0}

-- the greatest of the numbers that the next views of worlds get
abbrev pub greatest_next : List (Option KeyedWorld) → ℕ
greatest_next [] = 1
greatest_next (world ∷ more) = max (next_in world) (greatest_next more)

-- the greatest number that the next view may get
abbrev pub next_of : Carrier → ℕ
next_of (carrier.Alone world) = world.screen.views.next
next_of (carrier.Stacked stack) = greatest_next stack.worlds

-- the world of a window is the one that is watched
abbrev pub IsWatchedAt : Option KeyedWorld → Option Watched → Type 0
IsWatchedAt None None = Unit {0}
IsWatchedAt None (Some watched) = ⊥
IsWatchedAt (Some world) None = ⊥
IsWatchedAt (Some world) (Some watched) = IsWatched world watched

abbrev pub AreWatched : List (Option KeyedWorld) → List (Option Watched) → Type 0
AreWatched [] [] = Unit {0}
AreWatched [] (watched ∷ more) = ⊥
AreWatched (world ∷ worlds) [] = ⊥
AreWatched (world ∷ worlds) (watched ∷ more) = IsWatchedAt world watched × AreWatched worlds more

pub record IsWatchedStack (stack : KeyedStack) (watched : WatchedStack) : Type 0 where
  pub panes : stack.panes ≡ watched.panes
  pub worlds : AreWatched stack.worlds watched.worlds

-- what carries out lines is what is watched
abbrev pub IsWatching : Carrier → Watching → Type 0
IsWatching (carrier.Alone world) (WatchedWorld watched) = IsWatched world watched
IsWatching (carrier.Alone world) (WatchedWindows watched) = ⊥
IsWatching (carrier.Stacked stack) (WatchedWorld watched) = ⊥
IsWatching (carrier.Stacked stack) (WatchedWindows watched) = IsWatchedStack stack watched

-- how a line was carried out, as `WritesReply` says it of a command
abbrev pub WritesLine : LineReply → Carried → SinkState → SinkState → Result (Unit {0}) StepFault → Type 0
WritesLine reply new before after (Ok _) =
    (text : List ℕ) × (reply ≡ Done new text) × Appends before.gone after.gone text × (after.faults ≡ before.faults)
WritesLine reply new before after (Err (fault.Refused refusal)) = reply ≡ Refused (plain_refusal refusal)
WritesLine reply new before after (Err fault.NoMemory) = Unit {0}
WritesLine reply new before after (Err fault.Sink) =
    (text : List ℕ) × (reply ≡ Done new text) × AppendsPrefix before.gone after.gone text
    × (after.faults ≡ raised before.faults)
WritesLine reply new before after (Err fault.Shelf) = Unit {0}
