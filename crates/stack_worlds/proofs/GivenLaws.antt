-- A stack in which a command was carried out in the world of one window.
use Rattle.std.proofs.Common.{◌≡◌, ◌∙◌, ℕ, List, [], ap, sym, subst, get_or, set}
use Rattle.std.specs.Prelude.{Option, Some, None, Result}
use Rattle.std.specs.Option.{option_map}
use Rattle.std.proofs.lemmas.List.{get_or-set_same, map-set}
use Rattle.script_lines.specs.commands.PlainCommands.{PlainCommand}
use Rattle.stack_worlds.proofs.IsolationLaws.{within}
use Rattle.stack_worlds.proofs.StackLaws.{given_writes, plain_there}
use Rattle.stack_worlds.specs.KeptStack.{KeyedStack, keyed_at, stack_of}
use Rattle.stack_worlds.specs.PlainStack.{PlainStack, Given, StackReply, Done, Refused, after_given, asked_in, by_way, given_to, holder_after, with_world, world_at}
use Rattle.stack_worlds.specs.StackCarried.{WritesStack}
use Rattle.tool_io.specs.Fetched.{Files}
use Rattle.tool_io.specs.SinkState.{SinkState}
use Rattle.view_world.specs.world.Carried.{IsDone, WritesReply}
use Rattle.view_world.specs.world.KeyedWorld.{KeyedWorld, world_of}
use Rattle.world_parts.specs.Inflating.{asked_file}
use Rattle.world_parts.specs.Reply.{Reply}
use Rattle.view_world.specs.world.Step.{step}
use Rattle.world_parts.specs.Reply as world_reply
use Rattle.world_parts.specs.World.{World}
use Rattle.world_parts.specs.declared.fault.StepFault.{StepFault}

-- what the world of the window replies, the stack replies
pub given_done : (files : Files) (old new : KeyedStack) (holder : Option ℕ) (k : ℕ) (said : PlainCommand) (world after : KeyedWorld) (before now : SinkState) (result : Result (Unit {0}) StepFault)
    → keyed_at old k ≡ Some world → WritesReply (step files (world_of world) said) (world_of after) before now result
    → (IsDone result → stack_of new ≡ with_world (stack_of old) holder k (world_of after))
    → WritesStack (by_way files (stack_of old) (Given holder k said)) (stack_of new) before now result
given_done files old new holder k said world after before now result e writes is =
    subst (λ (there : Option World). WritesStack (given_to files (stack_of old) holder k said there) (stack_of new) before now result) (sym (plain_there old k world e))
    (given_writes (step files (world_of world) said) (stack_of old) (stack_of new) holder k (world_of after) before now result writes is)

-- the world that a window has after it
pub at_after : (old : KeyedStack) (k : ℕ) (world after : KeyedWorld) → keyed_at old k ≡ Some world → get_or (set old.worlds k (Some after)) k None ≡ Some after
at_after old k world after e = get_or-set_same old.worlds k (Some after) None (within old.worlds k world e)

-- the gesture goes by the world that the window has now
pub held_after : (old mid new : KeyedStack) (holder : Option ℕ) (k : ℕ) (world after : KeyedWorld) → keyed_at old k ≡ Some world
    → mid ≡ record old { worlds = set old.worlds k (Some after) }
    → ((world : KeyedWorld) → keyed_at mid k ≡ Some world → new ≡ record mid { panes = record mid.panes { holder = holder_after holder k (world_of world) } })
    → stack_of new ≡ with_world (stack_of old) holder k (world_of after)
held_after old mid new holder k world after e is hold =
    ap stack_of (hold after (ap (λ (s : KeyedStack). keyed_at s k) is ∙ at_after old k world after e)
    ∙ ap (λ (s : KeyedStack). record s { panes = record s.panes { holder = holder_after holder k (world_of after) } }) is)
    ∙ ap (λ (l : List (Option World)). record { panes = record old.panes { holder = holder_after holder k (world_of after) }; worlds = l })
    (map-set (option_map world_of) old.worlds k (Some after))

-- the file that a command asks for is that of the window's world
pub asked_there : (old : KeyedStack) (k : ℕ) (said : PlainCommand) (world : KeyedWorld) → keyed_at old k ≡ Some world → asked_in (world_at (stack_of old) k) said ≡ asked_file (world_of world) said
asked_there old k said world e = ap (λ (there : Option World). asked_in there said) (plain_there old k world e)

abbrev pub text_in : StackReply → List ℕ
text_in (Done stack text) = text
text_in (Refused refusal) = []

silent_reply : (stack : PlainStack) (holder : Option ℕ) (k : ℕ) (reply : Reply) (new : PlainStack) → after_given stack holder k reply ≡ Done new [] → (world : World) × (reply ≡ world_reply.Done world [])
silent_reply stack holder k (world_reply.Refused refusal) new e = absurd (cc e)
silent_reply stack holder k (world_reply.Done world text) new e = (world, ap (world_reply.Done world) (ap text_in e))

-- a stack that replies nothing has a world that does
pub silent_there : (files : Files) (old : KeyedStack) (holder : Option ℕ) (k : ℕ) (said : PlainCommand) (world : KeyedWorld) (new : PlainStack) → keyed_at old k ≡ Some world
    → by_way files (stack_of old) (Given holder k said) ≡ Done new [] → (plain : World) × (step files (world_of world) said ≡ world_reply.Done plain [])
silent_there files old holder k said world new e done =
    silent_reply (stack_of old) holder k (step files (world_of world) said) new
    (sym (ap (λ (there : Option World). given_to files (stack_of old) holder k said there) (plain_there old k world e)) ∙ done)
