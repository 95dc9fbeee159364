-- Worked marks.
use Rattle.std.proofs.Common.{◌≡◌, true, false, [], None, refl}
use Rattle.std.specs.Prelude.{pos}
use Rattle.script_lines.specs.commands.PlainCommands as command
use Rattle.line_words.specs.declared.words.naming.Name.TheVariants.{Number}
use Rattle.view_model.specs.declared.changes.Act.TheVariants as act
use Rattle.view_model.specs.declared.changes.Change.TheVariants as change
use Rattle.view_world.specs.world.Marks.{marks_after, measure_bound, no_marks}
use Rattle.world_parts.specs.World.{Settled, Unsettled, World, empty_world}
use Rattle.view_world.specs.declared.world.marks.Marks.{Marks}

abbrev settled_world : World
settled_world = record empty_world { stage = Settled }

abbrev all_marks : Marks
all_marks = record { based = true; quiet = true; idle = true }

a_settled_frame_sets_the_marks : marks_after settled_world command.Frame settled_world no_marks ≡ all_marks
a_settled_frame_sets_the_marks = refl

an_unsettled_frame_takes_them_away : marks_after settled_world command.Frame (record empty_world { stage = Unsettled }) all_marks ≡ no_marks
an_unsettled_frame_takes_them_away = refl

and_so_does_a_window : marks_after settled_world (command.Window (pos 100) (pos 50)) settled_world all_marks ≡ no_marks
and_so_does_a_window = refl

-- the frame after a text is still based, but not quiet, nor idle
a_text_requests_layout : marks_after settled_world (command.SetText (Number 2) []) settled_world all_marks ≡ record { based = true; quiet = false; idle = false }
a_text_requests_layout = refl

a_colour_asks_for_a_picture : marks_after settled_world (command.Act (Number 2) (act.Change (change.Background (record { 0 = 0 })))) settled_world all_marks ≡ record { based = true; quiet = true; idle = false }
a_colour_asks_for_a_picture = refl

-- a touch that scrolls no view leaves all
a_touch_leaves_the_layout : marks_after settled_world (command.Move 0 (pos 3) (pos 4)) settled_world all_marks ≡ all_marks
a_touch_leaves_the_layout = refl

and_a_restored_state_does : marks_after settled_world (command.Restore None) settled_world all_marks ≡ record { based = true; quiet = false; idle = false }
and_a_restored_state_does = refl

a_hook_leaves_all : marks_after settled_world (command.Hook (Number 2) [] false) settled_world all_marks ≡ all_marks
a_hook_leaves_all = refl

a_quiet_frame_measures_nothing : measure_bound settled_world all_marks ≡ 0
a_quiet_frame_measures_nothing = refl
