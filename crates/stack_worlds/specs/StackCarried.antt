-- How a line of a stack was carried out.
use Rattle.std.specs.Prelude.{◌≡◌, ◌<◌, ◌≤◌, ◌^◌, ℕ, List, Option, IfSome, Result, Ok, Err, true, false}
use Rattle.std.specs.Io.KnownBytes.{Appends}
use Rattle.script_lines.specs.reading.Commands.{IsInBounds}
use Rattle.script_lines.specs.reading.Pixels.{IsPart}
use Rattle.text_lines.specs.Prefix.{AppendsPrefix}
use Rattle.tool_io.specs.Counts.{raised}
use Rattle.tool_io.specs.SinkState.{SinkState}
use Rattle.view_model.specs.Refusals.{plain_refusal}
use Rattle.stack_worlds.specs.Numbers.{no_pane}
use Rattle.stack_worlds.specs.PlainStack.{PlainStack, PlainWay, Given, Missed, RefusedBy, ToStack, StackReply, Done}
use Rattle.stack_worlds.specs.PlainStack.{Refused, way_of}
use Rattle.tool_io.specs.declared.faults.Failed.{Failed}
use Rattle.stack_worlds.specs.declared.stack.way.Given as given
use Rattle.stack_worlds.specs.declared.stack.way.Own.{Own}
use Rattle.stack_worlds.specs.declared.stack.way.Own.TheVariants as own
use Rattle.stack_worlds.specs.declared.stack.way.Way.{Way}
use Rattle.stack_worlds.specs.declared.stack.way.Way.TheVariants as way
use Rattle.script_lines.specs.commands.PlainCommands.{PlainCommand, plain_command, text_length}
use Rattle.view_world.specs.world.Carried.{MayWantMemory}
use Rattle.world_parts.specs.declared.fault.StepFault.{StepFault}
use Rattle.world_parts.specs.declared.fault.StepFault.TheVariants as fault
use Rattle.window_stack.specs.Numbers.{max_pane}
use Rattle.window_stack.specs.PlainPanes.{is_open}
use Rattle.window_stack.specs.StackLines.{PlainLine}

-- Done: the stack is the reply's, its text was written, and no call on the sink has failed. Refused: as the reply says.
-- If a call on the sink has failed, the stack is the reply's all the same, and before that call a prefix of its text
-- was written. If there was no memory, or the shelf has failed, nothing is stated of the reply.
abbrev pub WritesStack : StackReply → PlainStack → SinkState → SinkState → Result (Unit {0}) StepFault → Type 0
WritesStack reply new before after (Ok _) =
    (text : List ℕ) × (reply ≡ Done new text) × Appends before.gone after.gone text × (after.faults ≡ before.faults)
WritesStack reply new before after (Err (fault.Refused refusal)) = reply ≡ Refused (plain_refusal refusal)
WritesStack reply new before after (Err fault.NoMemory) = Unit {0}
WritesStack reply new before after (Err fault.Sink) =
    (text : List ℕ) × (reply ≡ Done new text) × AppendsPrefix before.gone after.gone text
    × (after.faults ≡ raised before.faults)
WritesStack reply new before after (Err fault.Shelf) = Unit {0}

-- the line was replied to: there was memory, and no fetch failed
abbrev pub IsReplied : Result (Unit {0}) StepFault → Type 0
IsReplied (Ok _) = Unit {0}
IsReplied (Err (fault.Refused refusal)) = Unit {0}
IsReplied (Err fault.NoMemory) = ⊥
IsReplied (Err fault.Sink) = Unit {0}
IsReplied (Err fault.Shelf) = ⊥

-- how a line ends whose text was written so
abbrev pub written : Result (Unit {0}) Failed → Result (Unit {0}) StepFault
written (Ok _) = Ok tt
written (Err _) = Err fault.Sink

-- where a line goes, as the code has it
abbrev pub plain_given : given.Given → PlainWay
plain_given given = Given given.holder given.k (plain_command given.command)

abbrev pub plain_way : Way → PlainWay
plain_way (way.Given given) = plain_given given
plain_way way.Missed = Missed
plain_way (way.Refused number) = RefusedBy number
plain_way (way.Own change) = ToStack change

-- a change of a stack that opens a window, and so may run out of memory
abbrev pub OwnWants : PlainStack → Own → Type 0
OwnWants stack (own.At k x y) = is_open stack.panes k ≡ false
OwnWants stack (own.Raise k) = ⊥
OwnWants stack (own.Close k) = ⊥
OwnWants stack (own.Compose x y w h) = ⊥

abbrev pub WayWants : PlainStack → PlainWay → Type 0
WayWants stack (Given holder k said) = MayWantMemory said
WayWants stack Missed = ⊥
WayWants stack (RefusedBy number) = ⊥
WayWants stack (ToStack change) = OwnWants stack change

-- a line that may run out of memory: one that opens a window, or one that gives a window a command that may
abbrev pub LineWants : PlainStack → PlainLine → Type 0
LineWants stack line = WayWants stack (way_of stack line)

-- a window that is open, and so has the name of a window
pub record IsWindow (stack : PlainStack) (k : ℕ) : Type 0 where
  pub name : k ≤ max_pane
  pub there : is_open stack.panes k ≡ true

-- a command for a window that is open, within its bounds, and the window that has the gesture from then on is open too
pub record IsGivenSound (stack : PlainStack) (holder : Option ℕ) (k : ℕ) (said : PlainCommand) : Type 0 where
  pub window : IsWindow stack k
  pub held : IfSome holder (λ k. is_open stack.panes k ≡ true)
  pub bounds : IsInBounds said
  pub short : text_length said < 2 ^ 31

-- a change of a stack keeps the bounds of its line, and what it names is open
abbrev pub IsOwnSound : PlainStack → Own → Type 0
IsOwnSound stack (own.At k x y) = k ≤ max_pane
IsOwnSound stack (own.Raise k) = IsWindow stack k
IsOwnSound stack (own.Close k) = IsWindow stack k
IsOwnSound stack (own.Compose x y w h) = IsPart x y w h

-- a line goes where there is what it asks for
abbrev pub IsWaySound : PlainStack → PlainWay → Type 0
IsWaySound stack (Given holder k said) = IsGivenSound stack holder k said
IsWaySound stack Missed = Unit {0}
IsWaySound stack (RefusedBy number) = (1 ≤ number) × (number ≤ no_pane)
IsWaySound stack (ToStack change) = IsOwnSound stack change
