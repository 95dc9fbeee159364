-- Each window has its own world: that of the commands that were given to it since it was opened.
use Rattle.std.specs.Prelude.{◌≡◌, ℕ, ◌==◌, Bool, false, not, ◌&&◌, if◌then◌else◌, List, [], ◌∷◌, ◌++◌, Option, Some}
use Rattle.std.specs.Prelude.{None, fold}
use Rattle.script_lines.specs.commands.PlainCommands.{PlainCommand}
use Rattle.tool_io.specs.Fetched.{Files}
use Rattle.stack_worlds.specs.PlainStack.{PlainStack, PlainWay, Given, Missed, RefusedBy, ToStack, StackReply}
use Rattle.stack_worlds.specs.PlainStack.{empty_stack, stack_step, way_of, world_at}
use Rattle.stack_worlds.specs.PlainStack as stack_reply
use Rattle.stack_worlds.specs.declared.stack.way.Own.TheVariants as own
use Rattle.world_parts.specs.Reply.{Reply, Done, Refused}
use Rattle.view_world.specs.world.Step.{step}
use Rattle.world_parts.specs.World.{World, empty_world}
use Rattle.window_stack.specs.PlainPanes.{is_open}
use Rattle.window_stack.specs.StackLines.{PlainLine}

-- the command that a line gives to a window, if it does
abbrev pub given_by : ℕ → PlainWay → List PlainCommand
given_by k (Given holder j said) = if j == k then said ∷ [] else []
given_by k Missed = []
given_by k (RefusedBy number) = []
given_by k (ToStack change) = []

-- whether a line opens a window
abbrev pub opens : PlainStack → ℕ → PlainWay → Bool
opens stack k (Given holder j said) = false
opens stack k Missed = false
opens stack k (RefusedBy number) = false
opens stack k (ToStack (own.At j x y)) = j == k && not (is_open stack.panes j)
opens stack k (ToStack (own.Raise j)) = false
opens stack k (ToStack (own.Close j)) = false
opens stack k (ToStack (own.Compose x y w h)) = false

abbrev pub world_or : World → Reply → World
world_or world (Done after text) = after
world_or world (Refused refusal) = world

-- the replies to commands, one after another, from a world
abbrev pub replies_from : Files → World → List PlainCommand → List Reply
replies_from files world [] = []
replies_from files world (said ∷ more) =
    step files world said ∷ replies_from files (world_or world (step files world said)) more

-- the world that these commands make in a world of their own, and the replies to them
abbrev pub world_alone : Files → List PlainCommand → World
world_alone files share = fold (λ world said. world_or world (step files world said)) empty_world share

abbrev pub replies_alone : Files → List PlainCommand → List Reply
replies_alone files share = replies_from files empty_world share

-- a refused line leaves the stack as it was
abbrev pub stack_or : PlainStack → StackReply → PlainStack
stack_or stack (stack_reply.Done after text) = after
stack_or stack (stack_reply.Refused refusal) = stack

-- the reply of a window to a command, if it is open
abbrev pub reply_in : Files → Option World → PlainCommand → List Reply
reply_in files None said = []
reply_in files (Some world) said = step files world said ∷ []

-- and to a line, if that gives it a command
abbrev pub reply_of : Files → PlainStack → ℕ → PlainWay → List Reply
reply_of files stack k (Given holder j said) = if j == k then reply_in files (world_at stack j) said else []
reply_of files stack k Missed = []
reply_of files stack k (RefusedBy number) = []
reply_of files stack k (ToStack change) = []

-- a stack; and what was given to one of its windows after that was last opened, with the replies to it
pub record Shared : Type 0 where
  pub stack : PlainStack
  pub share : List PlainCommand
  pub replies : List Reply

abbrev pub nothing_shared : Shared
nothing_shared = record { stack = empty_stack; share = []; replies = [] }

abbrev pub after_way : Files → ℕ → Shared → PlainLine → PlainWay → Shared
after_way files k shared line way = record {
  stack = stack_or shared.stack (stack_step files shared.stack line);
  share = if opens shared.stack k way then [] else shared.share ++ given_by k way;
  replies = if opens shared.stack k way then [] else shared.replies ++ reply_of files shared.stack k way;
}

abbrev pub after_shared : Files → ℕ → Shared → PlainLine → Shared
after_shared files k shared line = after_way files k shared line (way_of shared.stack line)

abbrev pub shared_by : Files → ℕ → List PlainLine → Shared
shared_by files k lines = fold (after_shared files k) nothing_shared lines

-- what lines give to a window after it was last opened
abbrev pub share : Files → ℕ → List PlainLine → List PlainCommand
share files k lines = (shared_by files k lines).share

-- the state and the replies of an open window are those of its share alone
abbrev pub IsAlone : Files → Option World → List PlainCommand → List Reply → Type 0
IsAlone files None share replies = Unit {0}
IsAlone files (Some world) share replies = (world ≡ world_alone files share) × (replies ≡ replies_alone files share)

-- a stack after one more line, in which the window is that of its share alone
pub record IsAfterLine (files : Files) (k : ℕ) (shared : Shared) (line : PlainLine) (stack : PlainStack) : Type 0 where
  pub same : (after_shared files k shared line).stack ≡ stack
  pub alone : IsAlone files (world_at stack k) (after_shared files k shared line).share
      (after_shared files k shared line).replies

-- after these lines, whatever they give to other windows
abbrev pub IsIsolated : Files → ℕ → List PlainLine → Type 0
IsIsolated files k lines =
    let shared = shared_by files k lines in IsAlone files (world_at shared.stack k) shared.share shared.replies

-- two scripts that give a window the same share leave it the same world, and get the same replies from it
abbrev pub AreAlike : Option World → List Reply → Option World → List Reply → Type 0
AreAlike None replies other others = Unit {0}
AreAlike (Some world) replies None others = Unit {0}
AreAlike (Some world) replies (Some other) others = (world ≡ other) × (replies ≡ others)

abbrev pub DependsOnShare : Files → ℕ → List PlainLine → List PlainLine → Type 0
DependsOnShare files k lines others =
    share files k lines ≡ share files k others
    → let one = shared_by files k lines in
    let other =
    shared_by files k others in AreAlike (world_at one.stack k) one.replies (world_at other.stack k) other.replies
