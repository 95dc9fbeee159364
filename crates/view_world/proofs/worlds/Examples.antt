-- What short scripts make of the plain world, by computation.
use Rattle.std.specs.Prelude.{◌≡◌, ℕ, pos, negsuc, refl, List, [], ◌∷◌, ◌++◌, codes, fold, Some, None, Result, Ok, Err}
use Rattle.std.specs.Fmt.{digits}
use Rattle.geom_core.specs.Limits.{clamp_coordinate}
use Rattle.geom_core.specs.Spec.{child_spec_of, default_size_of, remaining_of, resolve_of}
use Rattle.script_lines.specs.commands.PlainCommands.{PlainCommand}
use Rattle.script_lines.specs.commands.PlainCommands.{Window, Add, Remove, Act, Frame, Bounds}
use Rattle.line_words.specs.declared.words.naming.Name.TheVariants.{Number, Id}
use Rattle.text_lines.specs.Joined.{◌⧺◌}
use Rattle.view_model.specs.declared.changes.Act.TheVariants as act
use Rattle.view_model.specs.declared.class.Class.TheVariants as class
use Rattle.view_model.specs.declared.visibility.Visibility.TheVariants.{Visible, Gone}
use Rattle.view_model.specs.Growth.{growth_refusal}
use Rattle.view_model.specs.Refusals.{PlainRefusal, refusal_numbered}
use Rattle.world_parts.specs.World.{World, empty_world}
use Rattle.world_parts.specs.Reply.{Reply, Done, Refused}
use Rattle.view_world.specs.world.Step.{step}

-- a refused line leaves the world as it was
unfoldable pub world_after : World → Reply → World
world_after world (Done new text) = new
world_after world (Refused refusal) = world

unfoldable pub after : List PlainCommand → World
after commands = fold (λ world command. world_after world (step [] world command)) empty_world commands

unfoldable pub text_or_refusal : Reply → Result (List ℕ) PlainRefusal
text_or_refusal (Done world text) = Ok text
text_or_refusal (Refused refusal) = Err refusal

-- what a line prints after these
unfoldable pub reported : List PlainCommand → PlainCommand → Result (List ℕ) PlainRefusal
reported before command = text_or_refusal (step [] (after before) command)

window : PlainCommand
window = Window (pos 100) (pos 50)

-- a root as large as the window
root : PlainCommand
root = Add None class.FrameLayout (negsuc 0) (negsuc 0)

-- a view of 10 by 20 below the view of this number
small : ℕ → PlainCommand
small parent = Add (Some (Number parent)) class.View (pos 10) (pos 20)

laid_out : List PlainCommand
laid_out = window ∷ root ∷ small 1 ∷ Frame ∷ []

hide : PlainCommand
hide = Act (Number 2) (act.Visible Gone)

show : PlainCommand
show = Act (Number 2) (act.Visible Visible)

reported_then : List PlainCommand → List PlainCommand → PlainCommand → Result (List ℕ) PlainRefusal
reported_then first then line = text_or_refusal (step [] (after (first ++ then)) line)

views_are_numbered_as_they_are_made : reported (root ∷ []) (small 1) ≡ Ok (codes "v2\n")
unfolding reported text_or_refusal after world_after root small digits growth_refusal ◌⧺◌
views_are_numbered_as_they_are_made = refl

a_frame_settles : reported (window ∷ root ∷ []) Frame ≡ Ok (codes "settled 0\n")
unfolding reported text_or_refusal after world_after window root digits ◌⧺◌ child_spec_of
a_frame_settles = refl

bounds_of_all_views : reported laid_out (Bounds None) ≡ Ok (codes "v1 0 0 100 50\nv2 0 0 10 20\n")
unfolding reported text_or_refusal after world_after laid_out window root small digits growth_refusal ◌⧺◌ child_spec_of remaining_of resolve_of default_size_of clamp_coordinate
bounds_of_all_views = refl

bounds_of_one_view : reported laid_out (Bounds (Some (Number 2))) ≡ Ok (codes "v2 0 0 10 20\n")
unfolding reported text_or_refusal after world_after laid_out window root small digits growth_refusal ◌⧺◌ child_spec_of remaining_of resolve_of default_size_of clamp_coordinate
bounds_of_one_view = refl

-- a view that is gone has no bounds at once
a_hidden_view_has_no_bounds : reported_then laid_out (hide ∷ []) (Bounds None) ≡ Ok (codes "v1 0 0 100 50\nv2 none\n")
unfolding reported text_or_refusal after world_after reported_then hide laid_out window root small digits growth_refusal ◌⧺◌ child_spec_of remaining_of resolve_of default_size_of clamp_coordinate
a_hidden_view_has_no_bounds = refl

a_view_that_is_shown_again_waits_for_a_frame : reported_then laid_out (hide ∷ show ∷ []) (Bounds (Some (Number 2))) ≡ Ok (codes "v2 none\n")
unfolding reported text_or_refusal after world_after reported_then hide show laid_out window root small digits growth_refusal ◌⧺◌ child_spec_of remaining_of resolve_of default_size_of clamp_coordinate
a_view_that_is_shown_again_waits_for_a_frame = refl

a_frame_lays_it_out_again : reported_then laid_out (hide ∷ show ∷ Frame ∷ []) (Bounds (Some (Number 2))) ≡ Ok (codes "v2 0 0 10 20\n")
unfolding reported text_or_refusal after world_after reported_then hide show laid_out window root small digits growth_refusal ◌⧺◌ child_spec_of remaining_of resolve_of default_size_of clamp_coordinate
a_frame_lays_it_out_again = refl

a_removed_view_is_in_no_report : reported_then laid_out (Remove (Number 2) ∷ []) (Bounds None) ≡ Ok (codes "v1 0 0 100 50\n")
unfolding reported text_or_refusal after world_after reported_then laid_out window root small digits growth_refusal ◌⧺◌ child_spec_of remaining_of resolve_of default_size_of clamp_coordinate
a_removed_view_is_in_no_report = refl

a_new_window_forgets_the_layout : reported_then laid_out (window ∷ []) (Bounds None) ≡ Err (refusal_numbered 37)
unfolding reported text_or_refusal after world_after reported_then laid_out window root small digits growth_refusal ◌⧺◌ child_spec_of remaining_of resolve_of default_size_of clamp_coordinate
a_new_window_forgets_the_layout = refl

no_window_comes_before_no_root : reported [] Frame ≡ Err (refusal_numbered 33)
unfolding reported text_or_refusal after world_after
no_window_comes_before_no_root = refl

no_root_comes_before_no_view : reported [] (Remove (Number 7)) ≡ Err (refusal_numbered 34)
unfolding reported text_or_refusal after world_after
no_root_comes_before_no_view = refl

no_root_comes_before_no_frame : reported (window ∷ []) (Bounds (Some (Number 7))) ≡ Err (refusal_numbered 34)
unfolding reported text_or_refusal after world_after window
no_root_comes_before_no_frame = refl

no_frame_comes_before_no_view : reported (window ∷ root ∷ []) (Bounds (Some (Number 7))) ≡ Err (refusal_numbered 37)
unfolding reported text_or_refusal after world_after window root
no_frame_comes_before_no_view = refl

a_second_root_is_refused : reported (root ∷ []) root ≡ Err (refusal_numbered 35)
unfolding reported text_or_refusal after world_after root
a_second_root_is_refused = refl

-- no view has an id here, which is the id 0, and yet `@0` means none of them
the_id_0_names_no_view : reported (root ∷ []) (Remove (Id 0)) ≡ Err (refusal_numbered 28)
unfolding reported text_or_refusal after world_after root
the_id_0_names_no_view = refl

an_id_names_the_first_view_that_has_it : text_or_refusal (step [] (after (root ∷ small 1 ∷ small 1 ∷ Act (Number 3) (act.Id 5) ∷ Act (Number 2) (act.Id 5) ∷ Remove (Id 5) ∷ [])) (Remove (Number 2))) ≡ Err (refusal_numbered 28)
unfolding reported text_or_refusal after world_after root small growth_refusal
an_id_names_the_first_view_that_has_it = refl
