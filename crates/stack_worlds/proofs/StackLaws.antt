-- How a plain stack follows the stack of the code.
use Rattle.std.proofs.Common.{◌≡◌, ◌∙◌, ℕ, zero, suc, true, List, [], ◌∷◌, refl, ap, sym, subst, get_or, inl, inr}
use Rattle.std.specs.Prelude.{◌⊎◌, Option, Some, None, Result, Ok, Err, map}
use Rattle.std.specs.Option.{is_some, option_map}
use Rattle.tool_io.specs.Fetched.{Files}
use Rattle.tool_io.specs.SinkState.{SinkState}
use Rattle.stack_worlds.proofs.IsolationLaws.{alone_after}
use Rattle.stack_worlds.specs.Isolation.{IsAfterLine, IsAlone, Shared, after_shared, stack_or}
use Rattle.stack_worlds.specs.KeptStack.{HasWorlds, KeyedStack, keyed_at, stack_of}
use Rattle.stack_worlds.specs.PlainStack.{PlainStack, Done, after_given, stack_step, with_world, world_at}
use Rattle.stack_worlds.specs.StackCarried.{IsReplied, WritesStack}
use Rattle.view_world.specs.world.Carried.{IsDone, WritesReply}
use Rattle.view_world.specs.world.KeyedWorld.{KeyedWorld, world_of}
use Rattle.world_parts.specs.Reply.{Reply}
use Rattle.world_parts.specs.World.{World}
use Rattle.world_parts.specs.declared.fault.StepFault.{StepFault}
use Rattle.world_parts.specs.declared.fault.StepFault.TheVariants as fault
use Rattle.window_stack.specs.PlainPanes.{is_open}
use Rattle.window_stack.specs.StackLines.{PlainLine}

-- the plain world of a window is that of its world
pub plain_at : (worlds : List (Option KeyedWorld)) (k : ℕ) → get_or (map (option_map world_of) worlds) k None ≡ option_map world_of (get_or worlds k None)
plain_at [] k = refl
plain_at (world ∷ worlds) zero = refl
plain_at (world ∷ worlds) (suc k) = plain_at worlds k

some_there : (world : Option KeyedWorld) → is_some world ≡ true → (one : KeyedWorld) × (world ≡ Some one)
some_there None e = absurd (cc e)
some_there (Some one) e = (one, refl)

-- an open window has a world
pub there : (stack : KeyedStack) (k : ℕ) → HasWorlds stack → is_open stack.panes k ≡ true → (one : KeyedWorld) × (keyed_at stack k ≡ Some one)
there stack k has is = some_there (keyed_at stack k) (has.there k ∙ is)

-- and that is its plain one
pub plain_there : (stack : KeyedStack) (k : ℕ) (one : KeyedWorld) → keyed_at stack k ≡ Some one → world_at (stack_of stack) k ≡ Some (world_of one)
plain_there stack k one e = plain_at stack.worlds k ∙ ap (option_map world_of) e

-- what a command wrote in a world, the stack wrote
pub given_writes : (reply : Reply) (stack new : PlainStack) (holder : Option ℕ) (k : ℕ) (after : World) (before now : SinkState) (result : Result (Unit {0}) StepFault)
    → WritesReply reply after before now result → (IsDone result → new ≡ with_world stack holder k after)
    → WritesStack (after_given stack holder k reply) new before now result
given_writes reply stack new holder k after before now (Ok u) w is =
    (w.0, ap (after_given stack holder k) w.1 ∙ ap (λ (s : PlainStack). Done s w.0) (sym (is tt)), w.2, w.3)
given_writes reply stack new holder k after before now (Err (fault.Refused refusal)) w is = ap (after_given stack holder k) w
given_writes reply stack new holder k after before now (Err fault.NoMemory) w is = tt
given_writes reply stack new holder k after before now (Err fault.Sink) w is =
    (w.0, ap (after_given stack holder k) w.1 ∙ ap (λ (s : PlainStack). Done s w.0) (sym (is tt)), w.2, w.3)
given_writes reply stack new holder k after before now (Err fault.Shelf) w is = tt

after_reply : (files : Files) (k : ℕ) (shared : Shared) (line : PlainLine) (new : PlainStack) → IsAlone files (world_at shared.stack k) shared.share shared.replies
    → stack_or shared.stack (stack_step files shared.stack line) ≡ new → IsAfterLine files k shared line new
after_reply files k shared line new is same = record {
  same = same;
  alone = subst (λ (s : PlainStack). IsAlone files (world_at s k) (after_shared files k shared line).share (after_shared files k shared line).replies) same (alone_after files k shared line is);
}

-- a line that was replied to keeps each window that of its share alone
pub isolated_line : (files : Files) (k : ℕ) (shared : Shared) (line : PlainLine) (new : PlainStack) (before now : SinkState) (result : Result (Unit {0}) StepFault)
    → WritesStack (stack_step files shared.stack line) new before now result → IsDone result ⊎ (new ≡ shared.stack) → IsReplied result
    → IsAlone files (world_at shared.stack k) shared.share shared.replies → IsAfterLine files k shared line new
isolated_line files k shared line new before now (Ok u) w same replied is = after_reply files k shared line new is (ap (stack_or shared.stack) w.1)
isolated_line files k shared line new before now (Err (fault.Refused refusal)) w (inl done) replied is = absurd done
isolated_line files k shared line new before now (Err (fault.Refused refusal)) w (inr same) replied is = after_reply files k shared line new is (ap (stack_or shared.stack) w ∙ sym same)
isolated_line files k shared line new before now (Err fault.NoMemory) w same replied is = absurd replied
isolated_line files k shared line new before now (Err fault.Sink) w same replied is = after_reply files k shared line new is (ap (stack_or shared.stack) w.1)
isolated_line files k shared line new before now (Err fault.Shelf) w same replied is = absurd replied
