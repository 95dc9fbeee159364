-- What carries out the lines of a script, and what is watched of it.
use Rattle.std.proofs.Common.{◌≡◌, ◌≤◌, ◌<◌, ◌+◌, ◌∙◌, ℕ, List, ap, arith, inl, inr, refl, subst, sym, true, false}
use Rattle.std.specs.Prelude.{◌⊎◌, IfSome, Option, Some, None, Result, Ok, Err, slice_index_or}
use Rattle.stack_worlds.specs.KeptStack.{KeyedStack}
use Rattle.stack_worlds.specs.PlainStack.{PlainStack, StackReply}
use Rattle.stack_worlds.specs.StackCarried.{WritesStack}
use Rattle.stack_worlds.specs.WindowLines.{next_in}
use Rattle.tool_io.specs.SinkState.{SinkState}
use Rattle.view_model.specs.declared.limits.TheConstants.{MAX_VIEWS, NUMBERS_END}
use Rattle.whole_tool.proofs.stacks.WatchedLaws.{all_within, next_within, none_watched, stack_same}
use Rattle.whole_tool.specs.Carried.{Alone, Stacked, of_stack, of_world}
use Rattle.whole_tool.specs.Carrier.{IsFirst, IsWatching, WritesLine, carried_of, greatest_next, next_of}
use Rattle.whole_tool.specs.Tally.{Watching, WatchedWorld, WatchedWindows, carried_in, watching_first}
use Rattle.whole_tool.specs.declared.carrier.Carrier.{Carrier}
use Rattle.whole_tool.specs.declared.carrier.Carrier.TheVariants as carrier
use Rattle.view_world.specs.world.Carried.{IsDone, WritesReply}
use Rattle.view_world.specs.world.KeyedWorld.{KeyedWorld}
use Rattle.world_parts.specs.Reply.{Reply}
use Rattle.view_world.specs.frames.Watched.{Watched}
use Rattle.world_parts.specs.World.{World}
use Rattle.world_parts.specs.declared.fault.StepFault.{StepFault}
use Rattle.world_parts.specs.declared.fault.StepFault.TheVariants as fault

-- the numbers of the views of a stack

numbered : (world : Option KeyedWorld) (most : ℕ) → next_in world ≤ most → most < NUMBERS_END → IfSome world (λ world. world.screen.views.next < NUMBERS_END)
numbered None most within low = tt
numbered (Some world) most within low = omega (arith, within, low)

pub have_numbers : (worlds : List (Option KeyedWorld)) → greatest_next worlds < NUMBERS_END → (k : ℕ) → IfSome (slice_index_or worlds k None) (λ world. world.screen.views.next < NUMBERS_END)
have_numbers worlds low k = numbered (slice_index_or worlds k None) (greatest_next worlds) (next_within worlds k) low

pub numbers_after : (before after : List (Option KeyedWorld)) → ((k : ℕ) → next_in (slice_index_or after k None) ≤ next_in (slice_index_or before k None) + MAX_VIEWS)
    → greatest_next after ≤ greatest_next before + MAX_VIEWS
numbers_after before after each = all_within after (greatest_next before + MAX_VIEWS) (omega arith) (λ k. let one = each k in let past = next_within before k in omega (arith, one, past))

-- before the first line

pub first_next : (carrier : Carrier) → IsFirst carrier → next_of carrier ≡ 1
first_next (carrier.Alone world) first = ap (λ (w : KeyedWorld). w.screen.views.next) first
first_next (carrier.Stacked stack) first = ap (λ (s : KeyedStack). greatest_next s.worlds) first

pub first_watching : (carrier : Carrier) → IsFirst carrier → IsWatching carrier (watching_first (carried_of carrier))
first_watching (carrier.Alone world) first =
    subst (λ (w : KeyedWorld). IsWatching (carrier.Alone w) (watching_first (carried_of (carrier.Alone w)))) (sym first)
    (record { same = refl; box = λ based. (let clash : false ≡ true = based in absurd (cc)) })
first_watching (carrier.Stacked stack) first =
    subst (λ (s : KeyedStack). IsWatching (carrier.Stacked s) (watching_first (carried_of (carrier.Stacked s)))) (sym first)
    (record { panes = refl; worlds = none_watched 8 })

-- what carries out lines is what is watched of it
pub watching_same : (carrier : Carrier) (watching : Watching) → IsWatching carrier watching → carried_of carrier ≡ carried_in watching
watching_same (carrier.Alone world) (WatchedWorld watched) seen = ap (λ (w : Watched). Alone w.world) seen.same
watching_same (carrier.Alone world) (WatchedWindows watched) seen = absurd seen
watching_same (carrier.Stacked stack) (WatchedWorld watched) seen = absurd seen
watching_same (carrier.Stacked stack) (WatchedWindows watched) seen = ap Stacked (stack_same stack watched seen)

-- a line that a world carried out
pub writes_world : (reply : Reply) (new : World) (before after : SinkState) (result : Result (Unit {0}) StepFault) → WritesReply reply new before after result → WritesLine (of_world reply) (Alone new) before after result
writes_world reply new before after (Ok _) w = (w.0, ap of_world w.1, w.2, w.3)
writes_world reply new before after (Err (fault.Refused refusal)) w = ap of_world w
writes_world reply new before after (Err fault.NoMemory) w = tt
writes_world reply new before after (Err fault.Sink) w = (w.0, ap of_world w.1, w.2, w.3)
writes_world reply new before after (Err fault.Shelf) w = tt

-- and one that a stack carried out
pub writes_stack : (reply : StackReply) (new : PlainStack) (before after : SinkState) (result : Result (Unit {0}) StepFault) → WritesStack reply new before after result → WritesLine (of_stack reply) (Stacked new) before after result
writes_stack reply new before after (Ok _) w = (w.0, ap of_stack w.1, w.2, w.3)
writes_stack reply new before after (Err (fault.Refused refusal)) w = ap of_stack w
writes_stack reply new before after (Err fault.NoMemory) w = tt
writes_stack reply new before after (Err fault.Sink) w = (w.0, ap of_stack w.1, w.2, w.3)
writes_stack reply new before after (Err fault.Shelf) w = tt

-- a line that was not carried out leaves what carries out lines as it was

pub same_world : {S : Type 0} (result : Result (Unit {0}) StepFault) (whole : Carrier) (old new : KeyedWorld) (before after : S) → whole ≡ carrier.Alone old
    → IsDone result ⊎ ((new ≡ old) × (after ≡ before)) → IsDone result ⊎ ((carrier.Alone new ≡ whole) × (after ≡ before))
same_world result whole old new before after is (inl done) = inl done
same_world result whole old new before after is (inr same) = inr (ap carrier.Alone same.0 ∙ sym is, same.1)

pub same_stack : {S : Type 0} (result : Result (Unit {0}) StepFault) (whole : Carrier) (old new : KeyedStack) (before after : S) → whole ≡ carrier.Stacked old
    → IsDone result ⊎ ((new ≡ old) × (after ≡ before)) → IsDone result ⊎ ((carrier.Stacked new ≡ whole) × (after ≡ before))
same_stack result whole old new before after is (inl done) = inl done
same_stack result whole old new before after is (inr same) = inr (ap carrier.Stacked same.0 ∙ sym is, same.1)
