-- Lines, and what they ask for.
use Rattle.std.proofs.Common.{◌≡◌, refl, [], ◌∷◌}
use Rattle.std.specs.Prelude.{codes, Ok, Err, Some, None, pos, negsuc}
use Rattle.std.specs.Str.{is_utf8, chars}
use lib.Utf8.{encode}
use Rattle.script_lines.specs.commands.PlainCommands.{Window, Add, Remove, Frame, Bounds}
use Rattle.line_words.specs.declared.fault.LineFault.TheVariants.{Syntax, Range}
use Rattle.line_words.specs.declared.words.naming.Name.TheVariants.{Number, Id}
use Rattle.view_model.specs.declared.class.Class.TheVariants as class
use Rattle.view_model.specs.Classes.{class_named}
use Rattle.script_lines.specs.reading.Commands.{add_of, bounds_of, command_by, command_in, command_of, frame_of, remove_of, set_of}
use Rattle.script_lines.specs.reading.Verbs.{act_named, change_named, verb_named}
use Rattle.line_words.specs.words.Dimensions.{dimension_of, extents_of}
use Rattle.line_words.specs.words.Names.{hex_digit_of, hex_of, id_of, name_of, parent_of}
use Rattle.line_words.specs.words.Numbers.{integer_of, natural_of, pair_of, within_of}
use Rattle.line_words.specs.words.Words.{after_word, words}

pub a_window : command_of (codes "window 100 50") ≡ Ok (Window (pos 100) (pos 50))
unfolding is_utf8 chars encode words natural_of integer_of within_of pair_of hex_digit_of hex_of id_of name_of parent_of dimension_of extents_of class_named add_of remove_of frame_of bounds_of set_of change_named act_named verb_named command_by command_in command_of after_word
a_window = refl

pub the_smallest_window : command_of (codes "window 1 1") ≡ Ok (Window (pos 1) (pos 1))
unfolding is_utf8 chars encode words natural_of integer_of within_of pair_of hex_digit_of hex_of id_of name_of parent_of dimension_of extents_of class_named add_of remove_of frame_of bounds_of set_of change_named act_named verb_named command_by command_in command_of after_word
the_smallest_window = refl

pub the_largest_window : command_of (codes "window 4096 4096") ≡ Ok (Window (pos 4096) (pos 4096))
unfolding is_utf8 chars encode words natural_of integer_of within_of pair_of hex_digit_of hex_of id_of name_of parent_of dimension_of extents_of class_named add_of remove_of frame_of bounds_of set_of change_named act_named verb_named command_by command_in command_of after_word
the_largest_window = refl

pub a_side_of_0 : command_of (codes "window 0 50") ≡ Err Range
unfolding is_utf8 chars encode words natural_of integer_of within_of pair_of hex_digit_of hex_of id_of name_of parent_of dimension_of extents_of class_named add_of remove_of frame_of bounds_of set_of change_named act_named verb_named command_by command_in command_of after_word
a_side_of_0 = refl

pub a_side_of_4097 : command_of (codes "window 50 4097") ≡ Err Range
unfolding is_utf8 chars encode words natural_of integer_of within_of pair_of hex_digit_of hex_of id_of name_of parent_of dimension_of extents_of class_named add_of remove_of frame_of bounds_of set_of change_named act_named verb_named command_by command_in command_of after_word
a_side_of_4097 = refl

pub a_side_below_0 : command_of (codes "window -1 50") ≡ Err Range
unfolding is_utf8 chars encode words natural_of integer_of within_of pair_of hex_digit_of hex_of id_of name_of parent_of dimension_of extents_of class_named add_of remove_of frame_of bounds_of set_of change_named act_named verb_named command_by command_in command_of after_word
a_side_below_0 = refl

pub ten_digits : command_of (codes "window 9999999999 50") ≡ Err Range
unfolding is_utf8 chars encode words natural_of integer_of within_of pair_of hex_digit_of hex_of id_of name_of parent_of dimension_of extents_of class_named add_of remove_of frame_of bounds_of set_of change_named act_named verb_named command_by command_in command_of after_word
ten_digits = refl

pub eleven_digits : command_of (codes "window 10000000000 50") ≡ Err Syntax
unfolding is_utf8 chars encode words natural_of integer_of within_of pair_of hex_digit_of hex_of id_of name_of parent_of dimension_of extents_of class_named add_of remove_of frame_of bounds_of set_of change_named act_named verb_named command_by command_in command_of after_word
eleven_digits = refl

pub minus_0 : command_of (codes "window -0 50") ≡ Err Syntax
unfolding is_utf8 chars encode words natural_of integer_of within_of pair_of hex_digit_of hex_of id_of name_of parent_of dimension_of extents_of class_named add_of remove_of frame_of bounds_of set_of change_named act_named verb_named command_by command_in command_of after_word
minus_0 = refl

pub a_leading_0 : command_of (codes "window 01 50") ≡ Err Syntax
unfolding is_utf8 chars encode words natural_of integer_of within_of pair_of hex_digit_of hex_of id_of name_of parent_of dimension_of extents_of class_named add_of remove_of frame_of bounds_of set_of change_named act_named verb_named command_by command_in command_of after_word
a_leading_0 = refl

pub a_plus_sign : command_of (codes "window +1 50") ≡ Err Syntax
unfolding is_utf8 chars encode words natural_of integer_of within_of pair_of hex_digit_of hex_of id_of name_of parent_of dimension_of extents_of class_named add_of remove_of frame_of bounds_of set_of change_named act_named verb_named command_by command_in command_of after_word
a_plus_sign = refl

pub syntax_before_range : command_of (codes "window 0 x") ≡ Err Syntax
unfolding is_utf8 chars encode words natural_of integer_of within_of pair_of hex_digit_of hex_of id_of name_of parent_of dimension_of extents_of class_named add_of remove_of frame_of bounds_of set_of change_named act_named verb_named command_by command_in command_of after_word
syntax_before_range = refl

pub a_side_too_few : command_of (codes "window 100") ≡ Err Syntax
unfolding is_utf8 chars encode words natural_of integer_of within_of pair_of hex_digit_of hex_of id_of name_of parent_of dimension_of extents_of class_named add_of remove_of frame_of bounds_of set_of change_named act_named verb_named command_by command_in command_of after_word
a_side_too_few = refl

pub a_side_too_many : command_of (codes "window 100 50 1") ≡ Err Syntax
unfolding is_utf8 chars encode words natural_of integer_of within_of pair_of hex_digit_of hex_of id_of name_of parent_of dimension_of extents_of class_named add_of remove_of frame_of bounds_of set_of change_named act_named verb_named command_by command_in command_of after_word
a_side_too_many = refl

pub spaces_around_words : command_of (codes "  window   320 480  ") ≡ Ok (Window (pos 320) (pos 480))
unfolding is_utf8 chars encode words natural_of integer_of within_of pair_of hex_digit_of hex_of id_of name_of parent_of dimension_of extents_of class_named add_of remove_of frame_of bounds_of set_of change_named act_named verb_named command_by command_in command_of after_word
spaces_around_words = refl

pub a_tab_parts_no_words : command_of (codes "window\t100 50") ≡ Err Syntax
unfolding is_utf8 chars encode words natural_of integer_of within_of pair_of hex_digit_of hex_of id_of name_of parent_of dimension_of extents_of class_named add_of remove_of frame_of bounds_of set_of change_named act_named verb_named command_by command_in command_of after_word
a_tab_parts_no_words = refl

pub a_return_is_part_of_a_word : command_of (codes "frame\r") ≡ Err Syntax
unfolding is_utf8 chars encode words natural_of integer_of within_of pair_of hex_digit_of hex_of id_of name_of parent_of dimension_of extents_of class_named add_of remove_of frame_of bounds_of set_of change_named act_named verb_named command_by command_in command_of after_word
a_return_is_part_of_a_word = refl

pub a_root : command_of (codes "add root FrameLayout match wrap") ≡ Ok (Add None class.FrameLayout (negsuc 0) (negsuc 1))
unfolding is_utf8 chars encode words natural_of integer_of within_of pair_of hex_digit_of hex_of id_of name_of parent_of dimension_of extents_of class_named add_of remove_of frame_of bounds_of set_of change_named act_named verb_named command_by command_in command_of after_word
a_root = refl

pub a_root_of_another_class : command_of (codes "add root View 10 0") ≡ Ok (Add None class.View (pos 10) (pos 0))
unfolding is_utf8 chars encode words natural_of integer_of within_of pair_of hex_digit_of hex_of id_of name_of parent_of dimension_of extents_of class_named add_of remove_of frame_of bounds_of set_of change_named act_named verb_named command_by command_in command_of after_word
a_root_of_another_class = refl

pub a_view : command_of (codes "add v1 View 10 20") ≡ Ok (Add (Some (Number 1)) class.View (pos 10) (pos 20))
unfolding is_utf8 chars encode words natural_of integer_of within_of pair_of hex_digit_of hex_of id_of name_of parent_of dimension_of extents_of class_named add_of remove_of frame_of bounds_of set_of change_named act_named verb_named command_by command_in command_of after_word
a_view = refl

pub a_view_below_any_other : command_of (codes "add v12 FrameLayout match 16777215") ≡ Ok (Add (Some (Number 12)) class.FrameLayout (negsuc 0) (pos 16777215))
unfolding is_utf8 chars encode words natural_of integer_of within_of pair_of hex_digit_of hex_of id_of name_of parent_of dimension_of extents_of class_named add_of remove_of frame_of bounds_of set_of change_named act_named verb_named command_by command_in command_of after_word
a_view_below_any_other = refl

pub a_view_below_an_id : command_of (codes "add @7f View wrap 1") ≡ Ok (Add (Some (Id 127)) class.View (negsuc 1) (pos 1))
unfolding is_utf8 chars encode words natural_of integer_of within_of pair_of hex_digit_of hex_of id_of name_of parent_of dimension_of extents_of class_named add_of remove_of frame_of bounds_of set_of change_named act_named verb_named command_by command_in command_of after_word
a_view_below_an_id = refl

pub a_dimension_too_large : command_of (codes "add v1 View 10 16777216") ≡ Err Range
unfolding is_utf8 chars encode words natural_of integer_of within_of pair_of hex_digit_of hex_of id_of name_of parent_of dimension_of extents_of class_named add_of remove_of frame_of bounds_of set_of change_named act_named verb_named command_by command_in command_of after_word
a_dimension_too_large = refl

pub a_dimension_below_0 : command_of (codes "add v1 View -1 10") ≡ Err Range
unfolding is_utf8 chars encode words natural_of integer_of within_of pair_of hex_digit_of hex_of id_of name_of parent_of dimension_of extents_of class_named add_of remove_of frame_of bounds_of set_of change_named act_named verb_named command_by command_in command_of after_word
a_dimension_below_0 = refl

pub another_class : command_of (codes "add v1 Button 10 10") ≡ Err Syntax
unfolding is_utf8 chars encode words natural_of integer_of within_of pair_of hex_digit_of hex_of id_of name_of parent_of dimension_of extents_of class_named add_of remove_of frame_of bounds_of set_of change_named act_named verb_named command_by command_in command_of after_word
another_class = refl

pub no_class : command_of (codes "add v1 10 10") ≡ Err Syntax
unfolding is_utf8 chars encode words natural_of integer_of within_of pair_of hex_digit_of hex_of id_of name_of parent_of dimension_of extents_of class_named add_of remove_of frame_of bounds_of set_of change_named act_named verb_named command_by command_in command_of after_word
no_class = refl

pub no_parent : command_of (codes "add") ≡ Err Syntax
unfolding is_utf8 chars encode words natural_of integer_of within_of pair_of hex_digit_of hex_of id_of name_of parent_of dimension_of extents_of class_named add_of remove_of frame_of bounds_of set_of change_named act_named verb_named command_by command_in command_of after_word
no_parent = refl

pub view_0 : command_of (codes "remove v0") ≡ Ok (Remove (Number 0))
unfolding is_utf8 chars encode words natural_of integer_of within_of pair_of hex_digit_of hex_of id_of name_of parent_of dimension_of extents_of class_named add_of remove_of frame_of bounds_of set_of change_named act_named verb_named command_by command_in command_of after_word
view_0 = refl

pub the_greatest_view : command_of (codes "remove v9999999999") ≡ Ok (Remove (Number 9999999999))
unfolding is_utf8 chars encode words natural_of integer_of within_of pair_of hex_digit_of hex_of id_of name_of parent_of dimension_of extents_of class_named add_of remove_of frame_of bounds_of set_of change_named act_named verb_named command_by command_in command_of after_word
the_greatest_view = refl

pub a_view_of_eleven_digits : command_of (codes "remove v10000000000") ≡ Err Syntax
unfolding is_utf8 chars encode words natural_of integer_of within_of pair_of hex_digit_of hex_of id_of name_of parent_of dimension_of extents_of class_named add_of remove_of frame_of bounds_of set_of change_named act_named verb_named command_by command_in command_of after_word
a_view_of_eleven_digits = refl

pub a_view_with_a_leading_0 : command_of (codes "remove v01") ≡ Err Syntax
unfolding is_utf8 chars encode words natural_of integer_of within_of pair_of hex_digit_of hex_of id_of name_of parent_of dimension_of extents_of class_named add_of remove_of frame_of bounds_of set_of change_named act_named verb_named command_by command_in command_of after_word
a_view_with_a_leading_0 = refl

pub a_view_below_0 : command_of (codes "remove v-1") ≡ Err Syntax
unfolding is_utf8 chars encode words natural_of integer_of within_of pair_of hex_digit_of hex_of id_of name_of parent_of dimension_of extents_of class_named add_of remove_of frame_of bounds_of set_of change_named act_named verb_named command_by command_in command_of after_word
a_view_below_0 = refl

pub no_number_of_a_view : command_of (codes "remove v") ≡ Err Syntax
unfolding is_utf8 chars encode words natural_of integer_of within_of pair_of hex_digit_of hex_of id_of name_of parent_of dimension_of extents_of class_named add_of remove_of frame_of bounds_of set_of change_named act_named verb_named command_by command_in command_of after_word
no_number_of_a_view = refl

pub root_is_no_view : command_of (codes "remove root") ≡ Err Syntax
unfolding is_utf8 chars encode words natural_of integer_of within_of pair_of hex_digit_of hex_of id_of name_of parent_of dimension_of extents_of class_named add_of remove_of frame_of bounds_of set_of change_named act_named verb_named command_by command_in command_of after_word
root_is_no_view = refl

pub id_0 : command_of (codes "remove @0") ≡ Ok (Remove (Id 0))
unfolding is_utf8 chars encode words natural_of integer_of within_of pair_of hex_digit_of hex_of id_of name_of parent_of dimension_of extents_of class_named add_of remove_of frame_of bounds_of set_of change_named act_named verb_named command_by command_in command_of after_word
id_0 = refl

pub an_id_in_either_case : command_of (codes "remove @aBcDeF09") ≡ Ok (Remove (Id 2882400009))
unfolding is_utf8 chars encode words natural_of integer_of within_of pair_of hex_digit_of hex_of id_of name_of parent_of dimension_of extents_of class_named add_of remove_of frame_of bounds_of set_of change_named act_named verb_named command_by command_in command_of after_word
an_id_in_either_case = refl

pub the_greatest_id : command_of (codes "remove @ffffffff") ≡ Ok (Remove (Id 4294967295))
unfolding is_utf8 chars encode words natural_of integer_of within_of pair_of hex_digit_of hex_of id_of name_of parent_of dimension_of extents_of class_named add_of remove_of frame_of bounds_of set_of change_named act_named verb_named command_by command_in command_of after_word
the_greatest_id = refl

pub an_id_with_leading_0s : command_of (codes "remove @0000000a") ≡ Ok (Remove (Id 10))
unfolding is_utf8 chars encode words natural_of integer_of within_of pair_of hex_digit_of hex_of id_of name_of parent_of dimension_of extents_of class_named add_of remove_of frame_of bounds_of set_of change_named act_named verb_named command_by command_in command_of after_word
an_id_with_leading_0s = refl

pub nine_digits_of_an_id : command_of (codes "remove @123456789") ≡ Err Syntax
unfolding is_utf8 chars encode words natural_of integer_of within_of pair_of hex_digit_of hex_of id_of name_of parent_of dimension_of extents_of class_named add_of remove_of frame_of bounds_of set_of change_named act_named verb_named command_by command_in command_of after_word
nine_digits_of_an_id = refl

pub no_digit_of_an_id : command_of (codes "remove @") ≡ Err Syntax
unfolding is_utf8 chars encode words natural_of integer_of within_of pair_of hex_digit_of hex_of id_of name_of parent_of dimension_of extents_of class_named add_of remove_of frame_of bounds_of set_of change_named act_named verb_named command_by command_in command_of after_word
no_digit_of_an_id = refl

pub no_digit_is_g : command_of (codes "remove @g") ≡ Err Syntax
unfolding is_utf8 chars encode words natural_of integer_of within_of pair_of hex_digit_of hex_of id_of name_of parent_of dimension_of extents_of class_named add_of remove_of frame_of bounds_of set_of change_named act_named verb_named command_by command_in command_of after_word
no_digit_is_g = refl

pub a_frame : command_of (codes "frame") ≡ Ok Frame
unfolding is_utf8 chars encode words natural_of integer_of within_of pair_of hex_digit_of hex_of id_of name_of parent_of dimension_of extents_of class_named add_of remove_of frame_of bounds_of set_of change_named act_named verb_named command_by command_in command_of after_word
a_frame = refl

pub a_word_after_a_frame : command_of (codes "frame x") ≡ Err Syntax
unfolding is_utf8 chars encode words natural_of integer_of within_of pair_of hex_digit_of hex_of id_of name_of parent_of dimension_of extents_of class_named add_of remove_of frame_of bounds_of set_of change_named act_named verb_named command_by command_in command_of after_word
a_word_after_a_frame = refl

pub another_case : command_of (codes "Frame") ≡ Err Syntax
unfolding is_utf8 chars encode words natural_of integer_of within_of pair_of hex_digit_of hex_of id_of name_of parent_of dimension_of extents_of class_named add_of remove_of frame_of bounds_of set_of change_named act_named verb_named command_by command_in command_of after_word
another_case = refl

pub a_word_that_begins_alike : command_of (codes "frames") ≡ Err Syntax
unfolding is_utf8 chars encode words natural_of integer_of within_of pair_of hex_digit_of hex_of id_of name_of parent_of dimension_of extents_of class_named add_of remove_of frame_of bounds_of set_of change_named act_named verb_named command_by command_in command_of after_word
a_word_that_begins_alike = refl

pub all_bounds : command_of (codes "bounds") ≡ Ok (Bounds None)
unfolding is_utf8 chars encode words natural_of integer_of within_of pair_of hex_digit_of hex_of id_of name_of parent_of dimension_of extents_of class_named add_of remove_of frame_of bounds_of set_of change_named act_named verb_named command_by command_in command_of after_word
all_bounds = refl

pub the_bounds_of_a_view : command_of (codes "bounds v1") ≡ Ok (Bounds (Some (Number 1)))
unfolding is_utf8 chars encode words natural_of integer_of within_of pair_of hex_digit_of hex_of id_of name_of parent_of dimension_of extents_of class_named add_of remove_of frame_of bounds_of set_of change_named act_named verb_named command_by command_in command_of after_word
the_bounds_of_a_view = refl

pub the_bounds_of_two_views : command_of (codes "bounds v1 v2") ≡ Err Syntax
unfolding is_utf8 chars encode words natural_of integer_of within_of pair_of hex_digit_of hex_of id_of name_of parent_of dimension_of extents_of class_named add_of remove_of frame_of bounds_of set_of change_named act_named verb_named command_by command_in command_of after_word
the_bounds_of_two_views = refl

pub bytes_that_are_no_text : command_of (102 ∷ 255 ∷ []) ≡ Err Syntax
unfolding is_utf8 chars encode words natural_of integer_of within_of pair_of hex_digit_of hex_of id_of name_of parent_of dimension_of extents_of class_named add_of remove_of frame_of bounds_of set_of change_named act_named verb_named command_by command_in command_of after_word
bytes_that_are_no_text = refl

pub a_comment_after_a_space : command_of (codes " # frame") ≡ Err Syntax
unfolding is_utf8 chars encode words natural_of integer_of within_of pair_of hex_digit_of hex_of id_of name_of parent_of dimension_of extents_of class_named add_of remove_of frame_of bounds_of set_of change_named act_named verb_named command_by command_in command_of after_word
a_comment_after_a_space = refl

pub a_comment : command_of (codes "# frame") ≡ Err Syntax
unfolding is_utf8 chars encode words natural_of integer_of within_of pair_of hex_digit_of hex_of id_of name_of parent_of dimension_of extents_of class_named add_of remove_of frame_of bounds_of set_of change_named act_named verb_named command_by command_in command_of after_word
a_comment = refl

pub nothing : command_of [] ≡ Err Syntax
unfolding is_utf8 chars encode words natural_of integer_of within_of pair_of hex_digit_of hex_of id_of name_of parent_of dimension_of extents_of class_named add_of remove_of frame_of bounds_of set_of change_named act_named verb_named command_by command_in command_of after_word
nothing = refl

pub a_linear_layout : command_of (codes "add root LinearLayout wrap 7") ≡ Ok (Add None class.LinearLayout (negsuc 1) (pos 7))
unfolding is_utf8 chars encode words natural_of integer_of within_of pair_of hex_digit_of hex_of id_of name_of parent_of dimension_of extents_of class_named add_of remove_of frame_of bounds_of set_of change_named act_named verb_named command_by command_in command_of after_word
a_linear_layout = refl
