-- What lines cost, one after another, and what was counted for it.
use Rattle.std.proofs.Common.{◌≡◌, ℕ, ◌∷◌, ◌++◌, List, [], refl, ap, sym, subst, ◌∙◌, inl, inr}
use Rattle.std.specs.Prelude.{true, false, Result, Ok, Err, fold}
use Rattle.std.proofs.lemmas.Bool.{cases_Bool}
use Rattle.std.proofs.lemmas.Grind.{fold-append}
use Rattle.geom_core.specs.declared.geometry.Rect.{Rect}
use Rattle.script_lines.specs.reading.Commands.{command_of}
use Rattle.script_lines.specs.cutting.Lines.{Line, Text, LongLine, is_idle, is_passed_over}
use Rattle.script_lines.specs.commands.PlainCommands.{PlainCommand}
use Rattle.line_words.specs.declared.fault.LineFault.{LineFault}
use Rattle.stack_worlds.specs.KeptStack.{KeyedStack, stack_of}
use Rattle.stack_worlds.specs.PlainStack.{PlainStack, StackReply, stack_step, way_of}
use Rattle.stack_worlds.specs.PlainStack as stack_reply
use Rattle.stack_worlds.specs.StackCarried.{WritesStack}
use Rattle.stack_worlds.specs.WindowLines.{WorksBy}
use Rattle.tool_io.specs.Fetched.{Files}
use Rattle.tool_io.specs.SinkState.{SinkState}
use Rattle.view_model.specs.Refusals.{PlainRefusal}
use Rattle.view_model.specs.declared.work.Work.{Work}
use Rattle.whole_tool.specs.Carried.{Carried, Refused, of_stack, of_world, reply_to_bytes, reply_to_command, reply_to_read}
use Rattle.whole_tool.specs.Carrier.{IsWatching}
use Rattle.whole_tool.specs.Run.{HasTallied}
use Rattle.whole_tool.specs.Tally.{Tally, Watching, WatchedWorld, WatchedWindows, after_bytes, after_change, after_command, after_read, after_done, at_first, carried_in, tally_from, with_cost}
use Rattle.whole_tool.specs.Transcript.{reply_to_line}
use Rattle.whole_tool.specs.declared.carrier.Carrier.TheVariants as carrier
use Rattle.whole_tool.specs.WatchedStack.{WatchedStack, plain_stack}
use Rattle.whole_tool.proofs.costs.SumLaws.{worth_both}
use Rattle.whole_tool.proofs.stacks.WatchedLaws.{stack_same, way_watched}
use Rattle.view_world.specs.world.Carried.{IsDone, WritesReply}
use Rattle.view_world.specs.world.KeyedWorld.{KeyedWorld, world_of}
use Rattle.world_parts.specs.Reply.{Reply}
use Rattle.view_world.specs.world.Step.{step}
use Rattle.world_parts.specs.Reply as world
use Rattle.view_world.specs.frames.Watched.{LineCosts, HasBox, IsWatched, IsWorth, Watched, costs_of, watched_after, watched_in}
use Rattle.world_parts.specs.World.{World}
use Rattle.world_parts.specs.declared.fault.StepFault.{StepFault}
use Rattle.world_parts.specs.declared.fault.StepFault.TheVariants as fault
use Rattle.window_stack.specs.StackLines.{PlainLine, stack_line_of}

-- more lines

pub tally_from-append : (start : Carried) (files : Files) (lines more : List Line) → tally_from start files (lines ++ more) ≡ fold (with_cost files) (tally_from start files lines) more
unfolding tally_from
tally_from-append start files lines more = fold-append (with_cost files) (at_first start) lines more

pub tally_from-push : (start : Carried) (files : Files) (lines : List Line) (line : Line) → tally_from start files (lines ++ line ∷ []) ≡ with_cost files (tally_from start files lines) line
tally_from-push start files lines line = tally_from-append start files lines (line ∷ [])

pub passed_cost : (files : Files) (tally : Tally) (line : Line) → is_idle line ≡ true → with_cost files tally line ≡ tally
unfolding with_cost
passed_cost files tally LongLine e = refl
passed_cost files tally (Text bytes) e = rw e refl

refused_in_world : (reply : Reply) (refusal : PlainRefusal) → of_world reply ≡ Refused refusal → reply ≡ world.Refused refusal
refused_in_world (world.Done after text) refusal e = absurd (cc)
refused_in_world (world.Refused other) refusal e = cc

refused_command : (files : Files) (costs : LineCosts) (watched : Watched) (refusal : PlainRefusal) (command : Result PlainCommand LineFault) → reply_to_command files watched.world command ≡ world.Refused refusal
    → after_command files costs watched command ≡ record { watched = WatchedWorld watched; costs = costs }
refused_command files costs watched refusal (Ok command) e = ap (after_done costs watched command) e
refused_command files costs watched refusal (Err fault) e = refl

refused_in_stack : (reply : StackReply) (refusal : PlainRefusal) → of_stack reply ≡ Refused refusal → reply ≡ stack_reply.Refused refusal
refused_in_stack (stack_reply.Done after text) refusal e = absurd (cc)
refused_in_stack (stack_reply.Refused other) refusal e = cc

refused_read : (files : Files) (costs : LineCosts) (watched : WatchedStack) (refusal : PlainRefusal) (line : Result PlainLine LineFault) → reply_to_read files (plain_stack watched) line ≡ stack_reply.Refused refusal
    → after_read files costs watched line ≡ record { watched = WatchedWindows watched; costs = costs }
refused_read files costs watched refusal (Ok line) e = ap (after_change files costs watched line) e
refused_read files costs watched refusal (Err fault) e = refl

refused_bytes : (files : Files) (costs : LineCosts) (watching : Watching) (refusal : PlainRefusal) (bytes : List ℕ) → reply_to_bytes files (carried_in watching) bytes ≡ Refused refusal
    → after_bytes files costs watching bytes ≡ record { watched = watching; costs = costs }
refused_bytes files costs (WatchedWorld watched) refusal bytes e = refused_command files costs watched refusal (command_of bytes) (refused_in_world _ refusal e)
refused_bytes files costs (WatchedWindows watched) refusal bytes e = refused_read files costs watched refusal (stack_line_of bytes) (refused_in_stack _ refusal e)

-- a refused line costs nothing
pub refused_cost : (files : Files) (tally : Tally) (refusal : PlainRefusal) (line : Line) → reply_to_line files (carried_in tally.watched) line ≡ Refused refusal → with_cost files tally line ≡ tally
unfolding with_cost reply_to_line
refused_cost files tally refusal LongLine e = refl
refused_cost files tally refusal (Text bytes) e = elim (cases_Bool (is_passed_over bytes)) [
  | inl passed ↦ rw passed refl
  | inr read ↦ (let f = rw read at e in rw read (refused_bytes files tally.costs tally.watched refusal bytes f))
]

-- the bytes of a line that is not passed over cost what the line does
pub bytes_cost : (files : Files) (tally : Tally) (bytes : List ℕ) → is_passed_over bytes ≡ false → with_cost files tally (Text bytes) ≡ after_bytes files tally.costs tally.watched bytes
unfolding with_cost
bytes_cost files tally bytes read = rw read refl

-- a command that was carried out has left what its reply says
pub done_reply : (reply : Reply) (new : World) (before after : SinkState) (outcome : Result (Unit {0}) StepFault) → WritesReply reply new before after outcome → IsDone outcome → (text : List ℕ) × (reply ≡ world.Done new text)
done_reply reply new before after (Ok _) w done = (w.0, w.1)
done_reply reply new before after (Err (fault.Refused refusal)) w done = absurd done
done_reply reply new before after (Err fault.NoMemory) w done = absurd done
done_reply reply new before after (Err fault.Sink) w done = (w.0, w.1)
done_reply reply new before after (Err fault.Shelf) w done = absurd done

-- a line that a world carried out costs what its command does
pub tallied_world : (files : Files) (first old new : Work) (before after : KeyedWorld) (costs : LineCosts) (watching : Watching) (bytes text : List ℕ) (command : PlainCommand)
    → command_of bytes ≡ Ok command → IsWatching (carrier.Alone before) watching → IsWorth costs first old → step files (world_of before) command ≡ world.Done (world_of after) text
    → ((box : Rect) → HasBox before box → IsWatched after (watched_after (watched_in before box) command (world_of after)))
    → ((box : Rect) → HasBox before box → IsWorth (costs_of (watched_in before box) command) old new)
    → HasTallied first new (carrier.Alone after) (after_bytes files costs watching bytes)
tallied_world files first old new before after costs (WatchedWorld watched) bytes text command read reached so_far done seen worth =
    let cost : after_bytes files costs (WatchedWorld watched) bytes ≡ after_done costs watched command (step files watched.world command) = ap (after_command files costs watched) read in
    let stepped : step files watched.world command ≡ world.Done (world_of after) text = ap (λ (w : Watched). step files w.world command) (sym reached.same) ∙ done in
    subst (HasTallied first new (carrier.Alone after)) (sym (cost ∙ ap (after_done costs watched command) stepped)) (record {
      watched = subst (λ (w : Watched). IsWatched after (watched_after w command (world_of after))) reached.same (seen watched.box reached.box);
      worth = worth_both costs (costs_of watched command) first old new so_far (subst (λ (w : Watched). IsWorth (costs_of w command) old new) reached.same (worth watched.box reached.box));
    })
tallied_world files first old new before after costs (WatchedWindows watched) bytes text command read reached so_far done seen worth = absurd reached

-- and a line that a stack carried out costs what it costs in its windows

pub done_in_stack : (reply : StackReply) (new : PlainStack) (before after : SinkState) (outcome : Result (Unit {0}) StepFault) → WritesStack reply new before after outcome → IsDone outcome → (text : List ℕ) × (reply ≡ stack_reply.Done new text)
done_in_stack reply new before after (Ok _) w done = (w.0, w.1)
done_in_stack reply new before after (Err (fault.Refused refusal)) w done = absurd done
done_in_stack reply new before after (Err fault.NoMemory) w done = absurd done
done_in_stack reply new before after (Err fault.Sink) w done = (w.0, w.1)
done_in_stack reply new before after (Err fault.Shelf) w done = absurd done

pub tallied_stack : (files : Files) (first old new : Work) (before after : KeyedStack) (costs : LineCosts) (watching : Watching) (bytes text : List ℕ) (line : PlainLine) (result : Result (Unit {0}) StepFault)
    → stack_line_of bytes ≡ Ok line → IsWatching (carrier.Stacked before) watching → IsWorth costs first old → stack_step files (stack_of before) line ≡ stack_reply.Done (stack_of after) text
    → WorksBy (way_of (stack_of before) line) before after result old new → IsDone result
    → HasTallied first new (carrier.Stacked after) (after_bytes files costs watching bytes)
tallied_stack files first old new before after costs (WatchedWorld watched) bytes text line result read reached so_far done works ended = absurd reached
tallied_stack files first old new before after costs (WatchedWindows watched) bytes text line result read reached so_far done works ended =
    let same = stack_same before watched reached in
    let cost : after_bytes files costs (WatchedWindows watched) bytes ≡ after_change files costs watched line (stack_step files (plain_stack watched) line) = ap (after_read files costs watched) read in
    let stepped : stack_step files (plain_stack watched) line ≡ stack_reply.Done (stack_of after) text = ap (λ (s : PlainStack). stack_step files s line) (sym same) ∙ done in
    let by = subst (λ (s : PlainStack). WorksBy (way_of s line) before after result old new) same works in
    let left = way_watched files before after watched (way_of (plain_stack watched) line) result old new text reached by stepped ended in
    subst (HasTallied first new (carrier.Stacked after)) (sym (cost ∙ ap (after_change files costs watched line) stepped))
    (record { watched = record { panes = refl; worlds = left.0 }; worth = worth_both costs _ first old new so_far left.1 })

-- a command whose text could not be written was carried out
pub is_done_sink : (f : StepFault) → f ≡ fault.Sink → IsDone (Err f)
is_done_sink f e = subst (λ (x : StepFault). IsDone (Err x)) (sym e) tt
