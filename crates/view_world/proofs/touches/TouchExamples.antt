-- What short scripts with touches print, by computation.
use Rattle.std.specs.Prelude.{◌≡◌, pos, negsuc, refl, List, [], ◌∷◌, ◌++◌, codes, Some, None, Ok, Err}
use Rattle.std.specs.Fmt.{digits}
use Rattle.geom_core.specs.Limits.{clamp_coordinate}
use Rattle.geom_core.specs.Spec.{child_spec_of, default_size_of, remaining_of, resolve_of}
use Rattle.script_lines.specs.commands.PlainCommands.{PlainCommand, Window, Add, Remove, Act, Frame, Down, Move, Up, Cancel}
use Rattle.line_words.specs.declared.words.naming.Name.TheVariants.{Number}
use Rattle.text_lines.specs.Joined.{◌⧺◌, texts_of}
use Rattle.touch_dispatch.specs.reaching.Points.{is_inside, local_point}
use Rattle.view_model.specs.declared.changes.Act.TheVariants as act
use Rattle.view_model.specs.declared.answer.Answer.TheVariants as answer
use Rattle.view_model.specs.declared.class.Class.TheVariants as class
use Rattle.view_model.specs.declared.visibility.Visibility.TheVariants.{Gone}
use Rattle.view_model.specs.Growth.{growth_refusal}
use Rattle.view_model.specs.LinearLayout.{alignment_on, dim_on, extent, first_dim, is_skipped, line_begin, low_margin, low_padding, margins_on, padding_on, size_on, spec_on}
use Rattle.view_model.specs.Refusals.{refusal_numbered}
use Rattle.view_world.proofs.worlds.Examples.{after, reported, text_or_refusal, world_after}

-- a view that fills the window takes touches
abbrev filled : List PlainCommand
filled =
    Window (pos 20) (pos 20) ∷ Add None class.FrameLayout (negsuc 0) (negsuc 0) ∷ Add (Some (Number 1)) class.View (negsuc 0) (negsuc 0)
    ∷ Act (Number 2) (act.Answer answer.Yes) ∷ Frame ∷ []

abbrev touched : List PlainCommand
touched = filled ++ Down 0 (pos 5) (pos 5) ∷ []

a_touch_goes_to_the_view_under_it : reported filled (Down 0 (pos 5) (pos 5)) ≡ Ok (codes "v1 ask DOWN 0:5,5 no\nv2 touch DOWN 0:5,5 yes\ndone yes\n")
unfolding reported text_or_refusal after world_after digits growth_refusal ◌⧺◌ texts_of child_spec_of remaining_of resolve_of default_size_of clamp_coordinate is_inside local_point
a_touch_goes_to_the_view_under_it = refl

a_view_that_is_removed_gets_a_cancel : reported touched (Remove (Number 2)) ≡ Ok (codes "v2 touch CANCEL yes\n")
unfolding reported text_or_refusal after world_after digits growth_refusal ◌⧺◌ texts_of child_spec_of remaining_of resolve_of default_size_of clamp_coordinate is_inside local_point
a_view_that_is_removed_gets_a_cancel = refl

and_so_does_one_that_is_hidden : reported touched (Act (Number 2) (act.Visible Gone)) ≡ Ok (codes "v2 touch CANCEL yes\n")
unfolding reported text_or_refusal after world_after digits growth_refusal ◌⧺◌ texts_of child_spec_of remaining_of resolve_of default_size_of clamp_coordinate is_inside local_point
and_so_does_one_that_is_hidden = refl

the_pointer_is_down_still : reported (touched ++ Remove (Number 2) ∷ []) (Move 0 (pos 6) (pos 6)) ≡ Ok (codes "v1 touch MOVE 0:6,6 no\ndone no\n")
unfolding reported text_or_refusal after world_after digits growth_refusal ◌⧺◌ texts_of child_spec_of remaining_of resolve_of default_size_of clamp_coordinate is_inside local_point
the_pointer_is_down_still = refl

it_goes_up_where_it_was : reported (touched ++ Remove (Number 2) ∷ Move 0 (pos 6) (pos 6) ∷ []) (Up 0) ≡ Ok (codes "v1 touch UP 0:6,6 no\ndone no\n")
unfolding reported text_or_refusal after world_after digits growth_refusal ◌⧺◌ texts_of child_spec_of remaining_of resolve_of default_size_of clamp_coordinate is_inside local_point
it_goes_up_where_it_was = refl

a_pointer_goes_down_once : reported touched (Down 0 (pos 1) (pos 1)) ≡ Err (refusal_numbered 38)
unfolding reported text_or_refusal after world_after growth_refusal child_spec_of remaining_of resolve_of default_size_of clamp_coordinate is_inside local_point
a_pointer_goes_down_once = refl

a_pointer_that_is_not_down_does_not_go_up : reported filled (Up 0) ≡ Err (refusal_numbered 38)
unfolding reported text_or_refusal after world_after growth_refusal child_spec_of remaining_of resolve_of default_size_of clamp_coordinate
a_pointer_that_is_not_down_does_not_go_up = refl

no_window_comes_before_no_root : reported [] Cancel ≡ Err (refusal_numbered 33)
unfolding reported text_or_refusal after world_after
no_window_comes_before_no_root = refl

no_root_comes_before_no_frame : reported (Window (pos 20) (pos 20) ∷ []) Cancel ≡ Err (refusal_numbered 34)
unfolding reported text_or_refusal after world_after
no_root_comes_before_no_frame = refl

no_frame_comes_before_the_pointer : reported (Window (pos 20) (pos 20) ∷ Add None class.View (pos 1) (pos 1) ∷ []) (Up 0) ≡ Err (refusal_numbered 37)
unfolding reported text_or_refusal after world_after growth_refusal
no_frame_comes_before_the_pointer = refl

-- two views side by side, and a pointer on each
abbrev pair : List PlainCommand
pair =
    Window (pos 100) (pos 20) ∷ Add None class.LinearLayout (negsuc 0) (negsuc 0) ∷ Add (Some (Number 1)) class.View (pos 50) (negsuc 0)
    ∷ Add (Some (Number 1)) class.View (pos 50) (negsuc 0) ∷ Act (Number 2) (act.Answer answer.Yes) ∷ Act (Number 3) (act.Answer answer.Yes) ∷ Frame
    ∷ Down 0 (pos 10) (pos 5) ∷ []

a_second_pointer_goes_to_the_view_under_it : reported pair (Down 1 (pos 60) (pos 5))
    ≡ Ok (codes "v1 ask POINTER_DOWN(1) 0:10,5 1:60,5 no\nv3 touch DOWN 1:10,5 yes\nv2 touch MOVE 0:10,5 yes\ndone yes\n")
unfolding reported text_or_refusal after world_after digits growth_refusal ◌⧺◌ texts_of child_spec_of remaining_of resolve_of default_size_of clamp_coordinate is_inside local_point alignment_on dim_on extent first_dim is_skipped line_begin low_margin low_padding margins_on padding_on size_on spec_on
a_second_pointer_goes_to_the_view_under_it = refl

the_greatest_pointer_beside_the_first : reported pair (Down 31 (pos 60) (pos 5))
    ≡ Ok (codes "v1 ask POINTER_DOWN(31) 0:10,5 31:60,5 no\nv3 touch DOWN 31:10,5 yes\nv2 touch MOVE 0:10,5 yes\ndone yes\n")
unfolding reported text_or_refusal after world_after digits growth_refusal ◌⧺◌ texts_of child_spec_of remaining_of resolve_of default_size_of clamp_coordinate is_inside local_point alignment_on dim_on extent first_dim is_skipped line_begin low_margin low_padding margins_on padding_on size_on spec_on
the_greatest_pointer_beside_the_first = refl
