-- What the lines since the last frame have left for the next one to do.
use Rattle.std.specs.Prelude.{ℕ, Bool, true, false, ◌&&◌, not, if◌then◌else◌}
use Rattle.script_lines.specs.commands.PlainCommands.{PlainCommand}
use Rattle.script_lines.specs.commands.PlainCommands as command
use Rattle.tree_edits.specs.Asking.{requests_layout as act_requests}
use Rattle.tree_edits.specs.declared.edits.Edit.{Edit}
use Rattle.tree_edits.specs.declared.edits.Edit.TheVariants as edit
use Rattle.view_model.specs.declared.changes.Act.{Act}
use Rattle.view_world.specs.frames.Counting.{frame_calls}
use Rattle.world_parts.specs.World.{World, Stage, NoWindow, NoFrame, Unsettled, Settled}
use Rattle.view_world.specs.declared.world.marks.Effect.{Effect}
use Rattle.view_world.specs.frames.Seen.{act_paints, line_deliveries}
use Rattle.world_parts.specs.Touching.{has_any_scrolled}
use Rattle.view_world.specs.declared.world.marks.Effect.TheVariants.{Opens, Lays, Asks, Repaints, Touches, Leaves}
use Rattle.view_world.specs.declared.world.marks.Marks.{Marks}

-- nothing is known of the next frame
abbrev pub no_marks : Marks
no_marks = record { based = false; quiet = false; idle = false }

-- whether the last frame has settled, and no window came since
abbrev pub has_settled : Stage → Bool
has_settled NoWindow = false
has_settled NoFrame = false
has_settled Unsettled = false
has_settled Settled = true

abbrev pub effect_by : Bool → Bool → Effect
effect_by requests paints = if requests then Asks else (if paints then Repaints else Leaves)

-- what an act does to the marks
abbrev pub effect_of_act : Act → Effect
effect_of_act act = effect_by (act_requests act) (act_paints act)

-- what a line does to them
abbrev pub effect_of : PlainCommand → Effect
effect_of (command.Window w h) = Opens
effect_of (command.Dpi dpi) = Leaves
effect_of (command.Res id value) = Leaves
effect_of (command.Inflate name into) = Asks
effect_of (command.Add parent class width height) = Asks
effect_of (command.Remove view) = Asks
effect_of (command.Act view act) = effect_of_act act
effect_of (command.SetText view text) = Asks
effect_of (command.Disallow view on) = Leaves
effect_of (command.Hook view edits bad) = Leaves
effect_of (command.Down p x y) = Touches
effect_of (command.Move p x y) = Touches
effect_of (command.Up p) = Touches
effect_of command.Cancel = Touches
effect_of command.Frame = Lays
effect_of (command.Bounds view) = Leaves
effect_of (command.Pixels x y w h) = Leaves
effect_of command.Digest = Leaves
effect_of command.Save = Leaves
effect_of (command.Restore text) = Asks

-- what an edit does to them
abbrev pub effect_of_edit : Edit → Effect
effect_of_edit (edit.Add parent class width height) = Asks
effect_of_edit (edit.Remove view) = Asks
effect_of_edit (edit.Act view act) = effect_of_act act
effect_of_edit (edit.Text view text) = Asks

-- whether the layout stays
abbrev pub leaves_layout : Effect → Bool
leaves_layout Opens = false
leaves_layout Lays = false
leaves_layout Asks = false
leaves_layout Repaints = true
leaves_layout Touches = true
leaves_layout Leaves = true

-- the marks after a line with this effect, by whether the last frame has settled then, and whether a touch has scrolled
abbrev pub marked : Effect → Marks → Bool → Bool → Marks
marked Opens marks settled scrolled = no_marks
marked Lays marks settled scrolled = record { based = settled; quiet = settled; idle = settled }
marked Asks marks settled scrolled = record { based = marks.based; quiet = false; idle = false }
marked Repaints marks settled scrolled = record { based = marks.based; quiet = marks.quiet; idle = false }
marked Touches marks settled scrolled =
    record { based = marks.based; quiet = marks.quiet; idle = marks.idle && not scrolled }
marked Leaves marks settled scrolled = marks

-- the marks after a line that was carried out, from what they were and the worlds before and after it
abbrev pub marks_after : World → PlainCommand → World → Marks → Marks
marks_after before line after marks =
    marked (effect_of line) marks (has_settled after.stage) (has_any_scrolled (line_deliveries before line))

-- how many views a frame of this world measures at most: none if it is quiet
abbrev pub measure_bound : World → Marks → ℕ
measure_bound world marks = if marks.quiet then 0 else frame_calls world
