-- What frames cost in short scripts, by computation.
use Rattle.std.specs.Prelude.{◌≡◌, pos, negsuc, refl, List, [], ◌∷◌, ◌++◌, fold, Some, None}
use Rattle.std.specs.Fmt.{digits}
use Rattle.geom_core.specs.Color.{alpha_of, blend_of, blue_of, green_of, mixed, opaque_of, red_of}
use Rattle.geom_core.specs.Limits.{clamp_coordinate}
use Rattle.geom_core.specs.Rects.{empty_rect, hull_of, larger_of, meet_of, smaller_of}
use Rattle.geom_core.specs.Spec.{child_spec_of, default_size_of, remaining_of, resolve_of}
use Rattle.geom_core.specs.declared.geometry.Insets.{Insets}
use Rattle.pixel_raster.specs.Cuts.{from_zero}
use Rattle.script_lines.specs.commands.PlainCommands.{PlainCommand, Window, Add, Act, Frame}
use Rattle.line_words.specs.declared.words.naming.Name.TheVariants.{Number}
use Rattle.seen_edits.specs.Differing.{differing}
use Rattle.text_lines.specs.Joined.{◌⧺◌}
use Rattle.view_model.specs.declared.changes.Act.TheVariants as act
use Rattle.view_model.specs.declared.changes.Change.TheVariants as change
use Rattle.view_model.specs.declared.class.Class.TheVariants as class
use Rattle.view_model.specs.Growth.{growth_refusal}
use Rattle.world_parts.specs.Reply.{Reply, Done, Refused}
use Rattle.view_world.specs.world.Step.{step}
use Rattle.view_world.specs.world.Marks.{no_marks}
use Rattle.view_world.specs.frames.Watched.{LineCosts, Watched, costs_of, no_costs, painted_least, painted_most, watched_after}
use Rattle.world_parts.specs.World.{empty_world}

unfoldable pub watched_reply : Watched → PlainCommand → Reply → Watched
watched_reply watched line (Done world text) = watched_after watched line world
watched_reply watched line (Refused refusal) = watched

unfoldable pub watched_from : List PlainCommand → Watched
watched_from lines =
    fold (λ (watched : Watched) (line : PlainCommand). watched_reply watched line (step [] watched.world line)) (record { world = empty_world; marks = no_marks; box = empty_rect; shown = [] }) lines

-- what a frame costs after these lines
unfoldable pub cost_after : List PlainCommand → LineCosts
cost_after lines = costs_of (watched_from lines) Frame

abbrev sides : Insets
sides = record { left = pos 1; top = pos 1; right = pos 1; bottom = pos 1 }

abbrev corner : Insets
corner = record { left = negsuc 0; top = negsuc 0; right = pos 0; bottom = pos 0 }

-- a view that covers two of the twelve points of its window
abbrev covered : List PlainCommand
covered =
    Window (pos 4) (pos 3) ∷ Add None class.FrameLayout (negsuc 0) (negsuc 0)
    ∷ Act (Number 1) (act.Change (change.Background (record { 0 = 4278190335 })))
    ∷ Act (Number 1) (act.Change (change.Padding sides))
    ∷ Add (Some (Number 1)) class.View (pos 10) (pos 10)
    ∷ Act (Number 2) (act.Change (change.Margins corner))
    ∷ Act (Number 2) (act.Change (change.Background (record { 0 = 2164195328 }))) ∷ []

abbrev shown : List PlainCommand
shown = covered ++ Frame ∷ []

abbrev recolored : List PlainCommand
recolored = shown ++ Act (Number 2) (act.Change (change.Background (record { 0 = 4278255360 }))) ∷ []

-- the first frame paints the window
a_first_frame : cost_after covered ≡ record { measured = 2; least = 12; most = 60 }
unfolding cost_after watched_from watched_reply watched_after painted_least painted_most differing growth_refusal digits ◌⧺◌ child_spec_of remaining_of resolve_of default_size_of clamp_coordinate alpha_of blend_of blue_of green_of mixed opaque_of red_of hull_of larger_of meet_of smaller_of from_zero
a_first_frame = refl

-- another colour of a view measures nothing, and paints what is seen of it
another_color : cost_after recolored ≡ record { measured = 0; least = 2; most = 10 }
unfolding cost_after watched_from watched_reply watched_after painted_least painted_most differing growth_refusal digits ◌⧺◌ child_spec_of remaining_of resolve_of default_size_of clamp_coordinate alpha_of blend_of blue_of green_of mixed opaque_of red_of hull_of larger_of meet_of smaller_of from_zero
another_color = refl

-- a frame after a frame costs nothing
an_idle_frame : cost_after (recolored ++ Frame ∷ []) ≡ no_costs
unfolding cost_after watched_from watched_reply watched_after painted_least painted_most differing growth_refusal digits ◌⧺◌ child_spec_of remaining_of resolve_of default_size_of clamp_coordinate alpha_of blend_of blue_of green_of mixed opaque_of red_of hull_of larger_of meet_of smaller_of from_zero
an_idle_frame = refl

-- what another size of the view costs: all is measured, and the box has its old place and its new one
another_size : cost_after (shown ++ Act (Number 2) (act.Change (change.Size (pos 1) (pos 1))) ∷ []) ≡ record { measured = 2; least = 2; most = 10 }
unfolding cost_after watched_from watched_reply watched_after painted_least painted_most differing growth_refusal digits ◌⧺◌ child_spec_of remaining_of resolve_of default_size_of clamp_coordinate alpha_of blend_of blue_of green_of mixed opaque_of red_of hull_of larger_of meet_of smaller_of from_zero
another_size = refl
