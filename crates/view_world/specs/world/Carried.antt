-- How a command was carried out.
use Rattle.std.specs.Prelude.{◌≡◌, ◌⊎◌, true, ℕ, List, Result, Ok, Err}
use Rattle.std.specs.Io.KnownBytes.{Appends}
use Rattle.script_lines.specs.commands.PlainCommands.{PlainCommand}
use Rattle.script_lines.specs.commands.PlainCommands as command
use Rattle.text_lines.specs.Prefix.{AppendsPrefix}
use Rattle.tool_io.specs.Counts.{raised}
use Rattle.tool_io.specs.SinkState.{SinkState}
use Rattle.tree_edits.specs.Editing.{names_views}
use Rattle.view_model.specs.Refusals.{plain_refusal}
use Rattle.world_parts.specs.World.{World}
use Rattle.world_parts.specs.declared.fault.StepFault.{StepFault}
use Rattle.world_parts.specs.declared.fault.StepFault.TheVariants as fault
use Rattle.world_parts.specs.Reply.{Reply, Done, Refused}

-- Done: the world is the reply's, its text was written, and no call on the sink has failed. Refused: as the reply says.
-- If a call on the sink has failed, the world is the reply's all the same, and before that call a prefix of its text
-- was written. If there was no memory, or the shelf has failed, nothing is stated of the reply.
abbrev pub WritesReply : Reply → World → SinkState → SinkState → Result (Unit {0}) StepFault → Type 0
WritesReply reply new before after (Ok _) =
    (text : List ℕ) × (reply ≡ Done new text) × Appends before.gone after.gone text × (after.faults ≡ before.faults)
WritesReply reply new before after (Err (fault.Refused refusal)) = reply ≡ Refused (plain_refusal refusal)
WritesReply reply new before after (Err fault.NoMemory) = Unit {0}
WritesReply reply new before after (Err fault.Sink) =
    (text : List ℕ) × (reply ≡ Done new text) × AppendsPrefix before.gone after.gone text
    × (after.faults ≡ raised before.faults)
WritesReply reply new before after (Err fault.Shelf) = Unit {0}

-- the command was carried out, whether its text was written or not
abbrev pub IsDone : Result (Unit {0}) StepFault → Type 0
IsDone (Ok _) = Unit {0}
IsDone (Err (fault.Refused refusal)) = ⊥
IsDone (Err fault.NoMemory) = ⊥
IsDone (Err fault.Sink) = Unit {0}
IsDone (Err fault.Shelf) = ⊥

-- a command was carried out, or this is as it was
abbrev pub IsDoneOrKeeps : {A : Type 0} → Result (Unit {0}) StepFault → A → A → Type 0
IsDoneOrKeeps result old new = IsDone result ⊎ (new ≡ old)

-- a command was carried out, or each of two is as it was
abbrev pub IsDoneOrKeepsBoth : {A B : Type 0} → Result (Unit {0}) StepFault → A → A → B → B → Type 0
IsDoneOrKeepsBoth result old new before after = IsDone result ⊎ ((new ≡ old) × (after ≡ before))

-- a command that may run out of memory: a window, a resource, the views of a file, a new view, an id, a rule, a text,
-- or a state that is made or read
abbrev pub MayWantMemory : PlainCommand → Type 0
MayWantMemory (command.Window w h) = Unit {0}
MayWantMemory (command.Dpi dpi) = ⊥
MayWantMemory (command.Res id value) = Unit {0}
MayWantMemory (command.Inflate name into) = Unit {0}
MayWantMemory (command.Add parent class width height) = Unit {0}
MayWantMemory (command.Remove view) = ⊥
MayWantMemory (command.Act view act) = names_views act ≡ true
MayWantMemory (command.SetText view text) = Unit {0}
MayWantMemory (command.Disallow view on) = ⊥
MayWantMemory (command.Hook view edits bad) = ⊥
MayWantMemory (command.Down p x y) = ⊥
MayWantMemory (command.Move p x y) = ⊥
MayWantMemory (command.Up p) = ⊥
MayWantMemory command.Cancel = ⊥
MayWantMemory command.Frame = ⊥
MayWantMemory (command.Bounds view) = ⊥
MayWantMemory (command.Pixels x y w h) = ⊥
MayWantMemory command.Digest = ⊥
MayWantMemory command.Save = Unit {0}
MayWantMemory (command.Restore text) = Unit {0}

-- a sink's count of failed calls once a command was carried out, or was not: a failed write raises it by one
abbrev pub faults_after_line : {A : Type 0} → Result A StepFault → ℕ → ℕ
faults_after_line (Ok _) faults = faults
faults_after_line (Err (fault.Refused refusal)) faults = faults
faults_after_line (Err fault.NoMemory) faults = faults
faults_after_line (Err fault.Sink) faults = raised faults
faults_after_line (Err fault.Shelf) faults = faults

-- a sink's count of failed calls after a command
abbrev pub CountsSink : {A : Type 0} → SinkState → SinkState → Result A StepFault → Type 0
CountsSink before after result = after.faults ≡ faults_after_line result before.faults
