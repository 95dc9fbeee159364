-- Lines that set something of a view.
use Rattle.std.proofs.Common.{◌≡◌, refl}
use Rattle.std.specs.Prelude.{codes, Ok, Err, false, true, pos, negsuc}
use Rattle.std.specs.Str.{is_utf8, chars}
use lib.Utf8.{encode}
use Rattle.script_lines.specs.commands.PlainCommands.{Act}
use Rattle.line_words.specs.declared.fault.LineFault.TheVariants.{Syntax, Range}
use Rattle.line_words.specs.declared.words.naming.Name.TheVariants.{Number, Id}
use Rattle.view_model.specs.declared.changes.Act.TheVariants as act
use Rattle.view_model.specs.declared.changes.Change.TheVariants as change
use Rattle.view_model.specs.declared.changes.Flag.TheVariants as flag
use Rattle.view_model.specs.declared.visibility.Visibility.TheVariants as visibility
use Rattle.view_model.specs.declared.placing.Across.TheVariants as across
use Rattle.view_model.specs.declared.placing.Down.TheVariants as down
use Rattle.view_model.specs.Classes.{class_named}
use Rattle.view_model.specs.Facts.{no_gravity}
use Rattle.script_lines.specs.reading.Changes.{flag_named, flag_of, insets_of, new_id_of, scroll_of, gravity_change_of, kids_of, sides_of, visibility_of, visible_of, orient_of, vertical_of}
use Rattle.script_lines.specs.reading.Commands.{add_of, bounds_of, command_by, command_in, command_of, frame_of, remove_of, set_of}
use Rattle.script_lines.specs.reading.Verbs.{act_named, change_named, verb_named}
use Rattle.line_words.specs.words.Dimensions.{dimension_of, extents_of}
use Rattle.line_words.specs.words.Gravities.{across_of, down_of, gravity_of, one_across, one_down, with_word, with_words}
use Rattle.line_words.specs.words.Names.{hex_digit_of, hex_of, id_of, name_of, parent_of}
use Rattle.line_words.specs.words.Numbers.{integer_of, natural_of, pair_of, within_of, natural_within}
use Rattle.line_words.specs.words.Weights.{last_number, weight_of}
use Rattle.line_words.specs.words.Words.{on_of, after_word, words}

pub a_size : command_of (codes "size v1 10 match") ≡ Ok (Act (Number 1) (act.Change (change.Size (pos 10) (negsuc 0))))
unfolding is_utf8 chars encode words natural_of integer_of within_of pair_of hex_digit_of hex_of id_of name_of parent_of dimension_of extents_of class_named add_of remove_of frame_of bounds_of set_of change_named act_named verb_named command_by command_in command_of after_word across_of down_of one_across one_down with_word with_words gravity_of gravity_change_of kids_of sides_of insets_of visibility_of visible_of new_id_of
a_size = refl

pub no_dimension_is_below_0 : command_of (codes "size v1 match -1") ≡ Err Range
unfolding is_utf8 chars encode words natural_of integer_of within_of pair_of hex_digit_of hex_of id_of name_of parent_of dimension_of extents_of class_named add_of remove_of frame_of bounds_of set_of change_named act_named verb_named command_by command_in command_of after_word across_of down_of one_across one_down with_word with_words gravity_of gravity_change_of kids_of sides_of insets_of visibility_of visible_of new_id_of
no_dimension_is_below_0 = refl

pub a_size_without_a_view : command_of (codes "size 10 10") ≡ Err Syntax
unfolding is_utf8 chars encode words natural_of integer_of within_of pair_of hex_digit_of hex_of id_of name_of parent_of dimension_of extents_of class_named add_of remove_of frame_of bounds_of set_of change_named act_named verb_named command_by command_in command_of after_word across_of down_of one_across one_down with_word with_words gravity_of gravity_change_of kids_of sides_of insets_of visibility_of visible_of new_id_of
a_size_without_a_view = refl

pub a_least_size : command_of (codes "min v2 0 16777215") ≡ Ok (Act (Number 2) (act.Change (change.Min (record { w = pos 0; h = pos 16777215 }))))
unfolding is_utf8 chars encode words natural_of integer_of within_of pair_of hex_digit_of hex_of id_of name_of parent_of dimension_of extents_of class_named add_of remove_of frame_of bounds_of set_of change_named act_named verb_named command_by command_in command_of after_word across_of down_of one_across one_down with_word with_words gravity_of gravity_change_of kids_of sides_of insets_of visibility_of visible_of new_id_of
a_least_size = refl

pub a_least_size_below_0 : command_of (codes "min v1 -1 1") ≡ Err Range
unfolding is_utf8 chars encode words natural_of integer_of within_of pair_of hex_digit_of hex_of id_of name_of parent_of dimension_of extents_of class_named add_of remove_of frame_of bounds_of set_of change_named act_named verb_named command_by command_in command_of after_word across_of down_of one_across one_down with_word with_words gravity_of gravity_change_of kids_of sides_of insets_of visibility_of visible_of new_id_of
a_least_size_below_0 = refl

pub a_fault_after_a_number_outside_its_bounds : command_of (codes "min v1 -1 x") ≡ Err Syntax
unfolding is_utf8 chars encode words natural_of integer_of within_of pair_of hex_digit_of hex_of id_of name_of parent_of dimension_of extents_of class_named add_of remove_of frame_of bounds_of set_of change_named act_named verb_named command_by command_in command_of after_word across_of down_of one_across one_down with_word with_words gravity_of gravity_change_of kids_of sides_of insets_of visibility_of visible_of new_id_of
a_fault_after_a_number_outside_its_bounds = refl

pub a_least_size_is_no_match : command_of (codes "min v1 match 1") ≡ Err Syntax
unfolding is_utf8 chars encode words natural_of integer_of within_of pair_of hex_digit_of hex_of id_of name_of parent_of dimension_of extents_of class_named add_of remove_of frame_of bounds_of set_of change_named act_named verb_named command_by command_in command_of after_word across_of down_of one_across one_down with_word with_words gravity_of gravity_change_of kids_of sides_of insets_of visibility_of visible_of new_id_of
a_least_size_is_no_match = refl

pub margins_below_0 : command_of (codes "margins v1 -5 0 0 0") ≡ Ok (Act (Number 1) (act.Change (change.Margins (record { left = negsuc 4; top = pos 0; right = pos 0; bottom = pos 0 }))))
unfolding is_utf8 chars encode words natural_of integer_of within_of pair_of hex_digit_of hex_of id_of name_of parent_of dimension_of extents_of class_named add_of remove_of frame_of bounds_of set_of change_named act_named verb_named command_by command_in command_of after_word across_of down_of one_across one_down with_word with_words gravity_of gravity_change_of kids_of sides_of insets_of visibility_of visible_of new_id_of
margins_below_0 = refl

pub the_widest_margins : command_of (codes "margins @1 -1048575 1048575 1 2") ≡ Ok (Act (Id 1) (act.Change (change.Margins (record { left = negsuc 1048574; top = pos 1048575; right = pos 1; bottom = pos 2 }))))
unfolding is_utf8 chars encode words natural_of integer_of within_of pair_of hex_digit_of hex_of id_of name_of parent_of dimension_of extents_of class_named add_of remove_of frame_of bounds_of set_of change_named act_named verb_named command_by command_in command_of after_word across_of down_of one_across one_down with_word with_words gravity_of gravity_change_of kids_of sides_of insets_of visibility_of visible_of new_id_of
the_widest_margins = refl

pub a_margin_too_wide : command_of (codes "margins v1 0 0 0 1048576") ≡ Err Range
unfolding is_utf8 chars encode words natural_of integer_of within_of pair_of hex_digit_of hex_of id_of name_of parent_of dimension_of extents_of class_named add_of remove_of frame_of bounds_of set_of change_named act_named verb_named command_by command_in command_of after_word across_of down_of one_across one_down with_word with_words gravity_of gravity_change_of kids_of sides_of insets_of visibility_of visible_of new_id_of
a_margin_too_wide = refl

pub a_margin_too_far_below_0 : command_of (codes "margins v1 0 -1048576 0 0") ≡ Err Range
unfolding is_utf8 chars encode words natural_of integer_of within_of pair_of hex_digit_of hex_of id_of name_of parent_of dimension_of extents_of class_named add_of remove_of frame_of bounds_of set_of change_named act_named verb_named command_by command_in command_of after_word across_of down_of one_across one_down with_word with_words gravity_of gravity_change_of kids_of sides_of insets_of visibility_of visible_of new_id_of
a_margin_too_far_below_0 = refl

pub three_margins : command_of (codes "margins v1 0 0 0") ≡ Err Syntax
unfolding is_utf8 chars encode words natural_of integer_of within_of pair_of hex_digit_of hex_of id_of name_of parent_of dimension_of extents_of class_named add_of remove_of frame_of bounds_of set_of change_named act_named verb_named command_by command_in command_of after_word across_of down_of one_across one_down with_word with_words gravity_of gravity_change_of kids_of sides_of insets_of visibility_of visible_of new_id_of
three_margins = refl

pub padding : command_of (codes "padding v1 1 2 3 1048575") ≡ Ok (Act (Number 1) (act.Change (change.Padding (record { left = pos 1; top = pos 2; right = pos 3; bottom = pos 1048575 }))))
unfolding is_utf8 chars encode words natural_of integer_of within_of pair_of hex_digit_of hex_of id_of name_of parent_of dimension_of extents_of class_named add_of remove_of frame_of bounds_of set_of change_named act_named verb_named command_by command_in command_of after_word across_of down_of one_across one_down with_word with_words gravity_of gravity_change_of kids_of sides_of insets_of visibility_of visible_of new_id_of
padding = refl

pub padding_below_0 : command_of (codes "padding v1 0 -1 0 0") ≡ Err Range
unfolding is_utf8 chars encode words natural_of integer_of within_of pair_of hex_digit_of hex_of id_of name_of parent_of dimension_of extents_of class_named add_of remove_of frame_of bounds_of set_of change_named act_named verb_named command_by command_in command_of after_word across_of down_of one_across one_down with_word with_words gravity_of gravity_change_of kids_of sides_of insets_of visibility_of visible_of new_id_of
padding_below_0 = refl

pub padding_too_wide : command_of (codes "padding v1 0 0 1048576 0") ≡ Err Range
unfolding is_utf8 chars encode words natural_of integer_of within_of pair_of hex_digit_of hex_of id_of name_of parent_of dimension_of extents_of class_named add_of remove_of frame_of bounds_of set_of change_named act_named verb_named command_by command_in command_of after_word across_of down_of one_across one_down with_word with_words gravity_of gravity_change_of kids_of sides_of insets_of visibility_of visible_of new_id_of
padding_too_wide = refl

pub a_gravity : command_of (codes "gravity v1 self right|bottom") ≡ Ok (Act (Number 1) (act.Change (change.Gravity false (record { given = true; across = across.Right; down = down.Bottom }))))
unfolding is_utf8 chars encode words natural_of integer_of within_of pair_of hex_digit_of hex_of id_of name_of parent_of dimension_of extents_of class_named add_of remove_of frame_of bounds_of set_of change_named act_named verb_named command_by command_in command_of after_word across_of down_of one_across one_down with_word with_words gravity_of gravity_change_of kids_of sides_of insets_of visibility_of visible_of new_id_of
a_gravity = refl

pub a_gravity_the_other_way_round : command_of (codes "gravity v1 self center_vertical|start") ≡ Ok (Act (Number 1) (act.Change (change.Gravity false (record { given = true; across = across.Start; down = down.Center }))))
unfolding is_utf8 chars encode words natural_of integer_of within_of pair_of hex_digit_of hex_of id_of name_of parent_of dimension_of extents_of class_named add_of remove_of frame_of bounds_of set_of change_named act_named verb_named command_by command_in command_of after_word across_of down_of one_across one_down with_word with_words gravity_of gravity_change_of kids_of sides_of insets_of visibility_of visible_of new_id_of
a_gravity_the_other_way_round = refl

pub a_gravity_for_one_axis : command_of (codes "gravity v1 self end") ≡ Ok (Act (Number 1) (act.Change (change.Gravity false (record { given = true; across = across.End; down = down.Unset }))))
unfolding is_utf8 chars encode words natural_of integer_of within_of pair_of hex_digit_of hex_of id_of name_of parent_of dimension_of extents_of class_named add_of remove_of frame_of bounds_of set_of change_named act_named verb_named command_by command_in command_of after_word across_of down_of one_across one_down with_word with_words gravity_of gravity_change_of kids_of sides_of insets_of visibility_of visible_of new_id_of
a_gravity_for_one_axis = refl

pub a_gravity_for_the_other_axis : command_of (codes "gravity v1 self top") ≡ Ok (Act (Number 1) (act.Change (change.Gravity false (record { given = true; across = across.Unset; down = down.Top }))))
unfolding is_utf8 chars encode words natural_of integer_of within_of pair_of hex_digit_of hex_of id_of name_of parent_of dimension_of extents_of class_named add_of remove_of frame_of bounds_of set_of change_named act_named verb_named command_by command_in command_of after_word across_of down_of one_across one_down with_word with_words gravity_of gravity_change_of kids_of sides_of insets_of visibility_of visible_of new_id_of
a_gravity_for_the_other_axis = refl

pub a_gravity_for_both_axes : command_of (codes "gravity v1 self center") ≡ Ok (Act (Number 1) (act.Change (change.Gravity false (record { given = true; across = across.Center; down = down.Center }))))
unfolding is_utf8 chars encode words natural_of integer_of within_of pair_of hex_digit_of hex_of id_of name_of parent_of dimension_of extents_of class_named add_of remove_of frame_of bounds_of set_of change_named act_named verb_named command_by command_in command_of after_word across_of down_of one_across one_down with_word with_words gravity_of gravity_change_of kids_of sides_of insets_of visibility_of visible_of new_id_of
a_gravity_for_both_axes = refl

pub two_centres : command_of (codes "gravity v1 self center_horizontal|center_vertical") ≡ Ok (Act (Number 1) (act.Change (change.Gravity false (record { given = true; across = across.Center; down = down.Center }))))
unfolding is_utf8 chars encode words natural_of integer_of within_of pair_of hex_digit_of hex_of id_of name_of parent_of dimension_of extents_of class_named add_of remove_of frame_of bounds_of set_of change_named act_named verb_named command_by command_in command_of after_word across_of down_of one_across one_down with_word with_words gravity_of gravity_change_of kids_of sides_of insets_of visibility_of visible_of new_id_of
two_centres = refl

pub no_gravity_is_that_of_a_new_view : command_of (codes "gravity v1 self none") ≡ Ok (Act (Number 1) (act.Change (change.Gravity false no_gravity)))
unfolding is_utf8 chars encode words natural_of integer_of within_of pair_of hex_digit_of hex_of id_of name_of parent_of dimension_of extents_of class_named add_of remove_of frame_of bounds_of set_of change_named act_named verb_named command_by command_in command_of after_word across_of down_of one_across one_down with_word with_words gravity_of gravity_change_of kids_of sides_of insets_of visibility_of visible_of new_id_of
no_gravity_is_that_of_a_new_view = refl

pub two_words_for_one_axis : command_of (codes "gravity v1 self left|right") ≡ Err Syntax
unfolding is_utf8 chars encode words natural_of integer_of within_of pair_of hex_digit_of hex_of id_of name_of parent_of dimension_of extents_of class_named add_of remove_of frame_of bounds_of set_of change_named act_named verb_named command_by command_in command_of after_word across_of down_of one_across one_down with_word with_words gravity_of gravity_change_of kids_of sides_of insets_of visibility_of visible_of new_id_of
two_words_for_one_axis = refl

pub one_word_twice : command_of (codes "gravity v1 self left|left") ≡ Err Syntax
unfolding is_utf8 chars encode words natural_of integer_of within_of pair_of hex_digit_of hex_of id_of name_of parent_of dimension_of extents_of class_named add_of remove_of frame_of bounds_of set_of change_named act_named verb_named command_by command_in command_of after_word across_of down_of one_across one_down with_word with_words gravity_of gravity_change_of kids_of sides_of insets_of visibility_of visible_of new_id_of
one_word_twice = refl

pub a_word_beside_one_for_both_axes : command_of (codes "gravity v1 self center|top") ≡ Err Syntax
unfolding is_utf8 chars encode words natural_of integer_of within_of pair_of hex_digit_of hex_of id_of name_of parent_of dimension_of extents_of class_named add_of remove_of frame_of bounds_of set_of change_named act_named verb_named command_by command_in command_of after_word across_of down_of one_across one_down with_word with_words gravity_of gravity_change_of kids_of sides_of insets_of visibility_of visible_of new_id_of
a_word_beside_one_for_both_axes = refl

pub one_for_both_axes_after_a_word : command_of (codes "gravity v1 self left|center") ≡ Err Syntax
unfolding is_utf8 chars encode words natural_of integer_of within_of pair_of hex_digit_of hex_of id_of name_of parent_of dimension_of extents_of class_named add_of remove_of frame_of bounds_of set_of change_named act_named verb_named command_by command_in command_of after_word across_of down_of one_across one_down with_word with_words gravity_of gravity_change_of kids_of sides_of insets_of visibility_of visible_of new_id_of
one_for_both_axes_after_a_word = refl

pub three_words : command_of (codes "gravity v1 self left|top|bottom") ≡ Err Syntax
unfolding is_utf8 chars encode words natural_of integer_of within_of pair_of hex_digit_of hex_of id_of name_of parent_of dimension_of extents_of class_named add_of remove_of frame_of bounds_of set_of change_named act_named verb_named command_by command_in command_of after_word across_of down_of one_across one_down with_word with_words gravity_of gravity_change_of kids_of sides_of insets_of visibility_of visible_of new_id_of
three_words = refl

pub none_beside_another : command_of (codes "gravity v1 self none|left") ≡ Err Syntax
unfolding is_utf8 chars encode words natural_of integer_of within_of pair_of hex_digit_of hex_of id_of name_of parent_of dimension_of extents_of class_named add_of remove_of frame_of bounds_of set_of change_named act_named verb_named command_by command_in command_of after_word across_of down_of one_across one_down with_word with_words gravity_of gravity_change_of kids_of sides_of insets_of visibility_of visible_of new_id_of
none_beside_another = refl

pub none_after_another : command_of (codes "gravity v1 self left|none") ≡ Err Syntax
unfolding is_utf8 chars encode words natural_of integer_of within_of pair_of hex_digit_of hex_of id_of name_of parent_of dimension_of extents_of class_named add_of remove_of frame_of bounds_of set_of change_named act_named verb_named command_by command_in command_of after_word across_of down_of one_across one_down with_word with_words gravity_of gravity_change_of kids_of sides_of insets_of visibility_of visible_of new_id_of
none_after_another = refl

pub an_empty_part : command_of (codes "gravity v1 self left||top") ≡ Err Syntax
unfolding is_utf8 chars encode words natural_of integer_of within_of pair_of hex_digit_of hex_of id_of name_of parent_of dimension_of extents_of class_named add_of remove_of frame_of bounds_of set_of change_named act_named verb_named command_by command_in command_of after_word across_of down_of one_across one_down with_word with_words gravity_of gravity_change_of kids_of sides_of insets_of visibility_of visible_of new_id_of
an_empty_part = refl

pub an_empty_part_at_the_end : command_of (codes "gravity v1 self left|") ≡ Err Syntax
unfolding is_utf8 chars encode words natural_of integer_of within_of pair_of hex_digit_of hex_of id_of name_of parent_of dimension_of extents_of class_named add_of remove_of frame_of bounds_of set_of change_named act_named verb_named command_by command_in command_of after_word across_of down_of one_across one_down with_word with_words gravity_of gravity_change_of kids_of sides_of insets_of visibility_of visible_of new_id_of
an_empty_part_at_the_end = refl

pub words_that_spaces_part : command_of (codes "gravity v1 self left | top") ≡ Err Syntax
unfolding is_utf8 chars encode words natural_of integer_of within_of pair_of hex_digit_of hex_of id_of name_of parent_of dimension_of extents_of class_named add_of remove_of frame_of bounds_of set_of change_named act_named verb_named command_by command_in command_of after_word across_of down_of one_across one_down with_word with_words gravity_of gravity_change_of kids_of sides_of insets_of visibility_of visible_of new_id_of
words_that_spaces_part = refl

pub a_gravity_without_words : command_of (codes "gravity v1 self") ≡ Err Syntax
unfolding is_utf8 chars encode words natural_of integer_of within_of pair_of hex_digit_of hex_of id_of name_of parent_of dimension_of extents_of class_named add_of remove_of frame_of bounds_of set_of change_named act_named verb_named command_by command_in command_of after_word across_of down_of one_across one_down with_word with_words gravity_of gravity_change_of kids_of sides_of insets_of visibility_of visible_of new_id_of
a_gravity_without_words = refl

pub a_view_that_is_visible : command_of (codes "visible v2 visible") ≡ Ok (Act (Number 2) (act.Visible visibility.Visible))
unfolding is_utf8 chars encode words natural_of integer_of within_of pair_of hex_digit_of hex_of id_of name_of parent_of dimension_of extents_of class_named add_of remove_of frame_of bounds_of set_of change_named act_named verb_named command_by command_in command_of after_word across_of down_of one_across one_down with_word with_words gravity_of gravity_change_of kids_of sides_of insets_of visibility_of visible_of new_id_of
a_view_that_is_visible = refl

pub a_view_that_is_invisible : command_of (codes "visible v2 invisible") ≡ Ok (Act (Number 2) (act.Visible visibility.Invisible))
unfolding is_utf8 chars encode words natural_of integer_of within_of pair_of hex_digit_of hex_of id_of name_of parent_of dimension_of extents_of class_named add_of remove_of frame_of bounds_of set_of change_named act_named verb_named command_by command_in command_of after_word across_of down_of one_across one_down with_word with_words gravity_of gravity_change_of kids_of sides_of insets_of visibility_of visible_of new_id_of
a_view_that_is_invisible = refl

pub a_view_that_is_gone : command_of (codes "visible v2 gone") ≡ Ok (Act (Number 2) (act.Visible visibility.Gone))
unfolding is_utf8 chars encode words natural_of integer_of within_of pair_of hex_digit_of hex_of id_of name_of parent_of dimension_of extents_of class_named add_of remove_of frame_of bounds_of set_of change_named act_named verb_named command_by command_in command_of after_word across_of down_of one_across one_down with_word with_words gravity_of gravity_change_of kids_of sides_of insets_of visibility_of visible_of new_id_of
a_view_that_is_gone = refl

pub another_visibility : command_of (codes "visible v2 hidden") ≡ Err Syntax
unfolding is_utf8 chars encode words natural_of integer_of within_of pair_of hex_digit_of hex_of id_of name_of parent_of dimension_of extents_of class_named add_of remove_of frame_of bounds_of set_of change_named act_named verb_named command_by command_in command_of after_word across_of down_of one_across one_down with_word with_words gravity_of gravity_change_of kids_of sides_of insets_of visibility_of visible_of new_id_of
another_visibility = refl

pub a_new_id : command_of (codes "id v1 @2A") ≡ Ok (Act (Number 1) (act.Id 42))
unfolding is_utf8 chars encode words natural_of integer_of within_of pair_of hex_digit_of hex_of id_of name_of parent_of dimension_of extents_of class_named add_of remove_of frame_of bounds_of set_of change_named act_named verb_named command_by command_in command_of after_word across_of down_of one_across one_down with_word with_words gravity_of gravity_change_of kids_of sides_of insets_of visibility_of visible_of new_id_of
a_new_id = refl

pub no_id : command_of (codes "id v1 @0") ≡ Ok (Act (Number 1) (act.Id 0))
unfolding is_utf8 chars encode words natural_of integer_of within_of pair_of hex_digit_of hex_of id_of name_of parent_of dimension_of extents_of class_named add_of remove_of frame_of bounds_of set_of change_named act_named verb_named command_by command_in command_of after_word across_of down_of one_across one_down with_word with_words gravity_of gravity_change_of kids_of sides_of insets_of visibility_of visible_of new_id_of
no_id = refl

pub an_id_without_its_sign : command_of (codes "id v1 2a") ≡ Err Syntax
unfolding is_utf8 chars encode words natural_of integer_of within_of pair_of hex_digit_of hex_of id_of name_of parent_of dimension_of extents_of class_named add_of remove_of frame_of bounds_of set_of change_named act_named verb_named command_by command_in command_of after_word across_of down_of one_across one_down with_word with_words gravity_of gravity_change_of kids_of sides_of insets_of visibility_of visible_of new_id_of
an_id_without_its_sign = refl

pub the_gravity_of_children : command_of (codes "gravity v1 kids left") ≡ Ok (Act (Number 1) (act.Change (change.Gravity true (record { given = true; across = across.Left; down = down.Unset }))))
unfolding is_utf8 chars encode words natural_of integer_of within_of pair_of hex_digit_of hex_of id_of name_of parent_of dimension_of extents_of class_named add_of remove_of frame_of bounds_of set_of change_named act_named verb_named command_by command_in command_of after_word across_of down_of one_across one_down with_word with_words gravity_of gravity_change_of kids_of sides_of insets_of visibility_of visible_of new_id_of
the_gravity_of_children = refl

pub a_gravity_of_no_view : command_of (codes "gravity v1 left") ≡ Err Syntax
unfolding is_utf8 chars encode words natural_of integer_of within_of pair_of hex_digit_of hex_of id_of name_of parent_of dimension_of extents_of class_named add_of remove_of frame_of bounds_of set_of change_named act_named verb_named command_by command_in command_of after_word across_of down_of one_across one_down with_word with_words gravity_of gravity_change_of kids_of sides_of insets_of visibility_of visible_of new_id_of
a_gravity_of_no_view = refl

pub a_weight : command_of (codes "weight v1 1") ≡ Ok (Act (Number 1) (act.Change (change.Weight 256)))
unfolding is_utf8 chars encode words natural_of integer_of within_of pair_of hex_digit_of hex_of id_of name_of parent_of dimension_of extents_of class_named add_of remove_of frame_of bounds_of set_of change_named act_named verb_named command_by command_in command_of after_word across_of down_of one_across one_down with_word with_words gravity_of gravity_change_of kids_of sides_of insets_of visibility_of visible_of new_id_of weight_of last_number natural_within
a_weight = refl

pub a_weight_of_256ths : command_of (codes "weight @2 0 255") ≡ Ok (Act (Id 2) (act.Change (change.Weight 255)))
unfolding is_utf8 chars encode words natural_of integer_of within_of pair_of hex_digit_of hex_of id_of name_of parent_of dimension_of extents_of class_named add_of remove_of frame_of bounds_of set_of change_named act_named verb_named command_by command_in command_of after_word across_of down_of one_across one_down with_word with_words gravity_of gravity_change_of kids_of sides_of insets_of visibility_of visible_of new_id_of weight_of last_number natural_within
a_weight_of_256ths = refl

pub the_greatest_weight : command_of (codes "weight v1 65535") ≡ Ok (Act (Number 1) (act.Change (change.Weight 16776960)))
unfolding is_utf8 chars encode words natural_of integer_of within_of pair_of hex_digit_of hex_of id_of name_of parent_of dimension_of extents_of class_named add_of remove_of frame_of bounds_of set_of change_named act_named verb_named command_by command_in command_of after_word across_of down_of one_across one_down with_word with_words gravity_of gravity_change_of kids_of sides_of insets_of visibility_of visible_of new_id_of weight_of last_number natural_within
the_greatest_weight = refl

pub too_great_a_weight : command_of (codes "weight v1 65535 1") ≡ Err Range
unfolding is_utf8 chars encode words natural_of integer_of within_of pair_of hex_digit_of hex_of id_of name_of parent_of dimension_of extents_of class_named add_of remove_of frame_of bounds_of set_of change_named act_named verb_named command_by command_in command_of after_word across_of down_of one_across one_down with_word with_words gravity_of gravity_change_of kids_of sides_of insets_of visibility_of visible_of new_id_of weight_of last_number natural_within
too_great_a_weight = refl

pub too_many_whole_ones : command_of (codes "weight v1 65536") ≡ Err Range
unfolding is_utf8 chars encode words natural_of integer_of within_of pair_of hex_digit_of hex_of id_of name_of parent_of dimension_of extents_of class_named add_of remove_of frame_of bounds_of set_of change_named act_named verb_named command_by command_in command_of after_word across_of down_of one_across one_down with_word with_words gravity_of gravity_change_of kids_of sides_of insets_of visibility_of visible_of new_id_of weight_of last_number natural_within
too_many_whole_ones = refl

pub a_weight_of_256_256ths : command_of (codes "weight v1 0 256") ≡ Err Range
unfolding is_utf8 chars encode words natural_of integer_of within_of pair_of hex_digit_of hex_of id_of name_of parent_of dimension_of extents_of class_named add_of remove_of frame_of bounds_of set_of change_named act_named verb_named command_by command_in command_of after_word across_of down_of one_across one_down with_word with_words gravity_of gravity_change_of kids_of sides_of insets_of visibility_of visible_of new_id_of weight_of last_number natural_within
a_weight_of_256_256ths = refl

pub a_weight_below_0 : command_of (codes "weight v1 -1 255") ≡ Err Range
unfolding is_utf8 chars encode words natural_of integer_of within_of pair_of hex_digit_of hex_of id_of name_of parent_of dimension_of extents_of class_named add_of remove_of frame_of bounds_of set_of change_named act_named verb_named command_by command_in command_of after_word across_of down_of one_across one_down with_word with_words gravity_of gravity_change_of kids_of sides_of insets_of visibility_of visible_of new_id_of weight_of last_number natural_within
a_weight_below_0 = refl

pub a_weight_of_256ths_below_0 : command_of (codes "weight v1 1 -1") ≡ Err Range
unfolding is_utf8 chars encode words natural_of integer_of within_of pair_of hex_digit_of hex_of id_of name_of parent_of dimension_of extents_of class_named add_of remove_of frame_of bounds_of set_of change_named act_named verb_named command_by command_in command_of after_word across_of down_of one_across one_down with_word with_words gravity_of gravity_change_of kids_of sides_of insets_of visibility_of visible_of new_id_of weight_of last_number natural_within
a_weight_of_256ths_below_0 = refl

pub a_fault_after_too_great_a_weight : command_of (codes "weight v1 65536 x") ≡ Err Syntax
unfolding is_utf8 chars encode words natural_of integer_of within_of pair_of hex_digit_of hex_of id_of name_of parent_of dimension_of extents_of class_named add_of remove_of frame_of bounds_of set_of change_named act_named verb_named command_by command_in command_of after_word across_of down_of one_across one_down with_word with_words gravity_of gravity_change_of kids_of sides_of insets_of visibility_of visible_of new_id_of weight_of last_number natural_within
a_fault_after_too_great_a_weight = refl

pub a_weight_of_three_numbers : command_of (codes "weight v1 1 2 3") ≡ Err Syntax
unfolding is_utf8 chars encode words natural_of integer_of within_of pair_of hex_digit_of hex_of id_of name_of parent_of dimension_of extents_of class_named add_of remove_of frame_of bounds_of set_of change_named act_named verb_named command_by command_in command_of after_word across_of down_of one_across one_down with_word with_words gravity_of gravity_change_of kids_of sides_of insets_of visibility_of visible_of new_id_of weight_of last_number natural_within
a_weight_of_three_numbers = refl

pub a_weight_without_a_number : command_of (codes "weight v1") ≡ Err Syntax
unfolding is_utf8 chars encode words natural_of integer_of within_of pair_of hex_digit_of hex_of id_of name_of parent_of dimension_of extents_of class_named add_of remove_of frame_of bounds_of set_of change_named act_named verb_named command_by command_in command_of after_word across_of down_of one_across one_down with_word with_words gravity_of gravity_change_of kids_of sides_of insets_of visibility_of visible_of new_id_of weight_of last_number natural_within
a_weight_without_a_number = refl

pub a_sum_of_weights : command_of (codes "weightsum v1 4") ≡ Ok (Act (Number 1) (act.WeightSum 1024))
unfolding is_utf8 chars encode words natural_of integer_of within_of pair_of hex_digit_of hex_of id_of name_of parent_of dimension_of extents_of class_named add_of remove_of frame_of bounds_of set_of change_named act_named verb_named command_by command_in command_of after_word across_of down_of one_across one_down with_word with_words gravity_of gravity_change_of kids_of sides_of insets_of visibility_of visible_of new_id_of weight_of last_number natural_within
a_sum_of_weights = refl

pub no_sum_of_weights : command_of (codes "weightsum v1 0 0") ≡ Ok (Act (Number 1) (act.WeightSum 0))
unfolding is_utf8 chars encode words natural_of integer_of within_of pair_of hex_digit_of hex_of id_of name_of parent_of dimension_of extents_of class_named add_of remove_of frame_of bounds_of set_of change_named act_named verb_named command_by command_in command_of after_word across_of down_of one_across one_down with_word with_words gravity_of gravity_change_of kids_of sides_of insets_of visibility_of visible_of new_id_of weight_of last_number natural_within
no_sum_of_weights = refl

pub too_great_a_sum_of_weights : command_of (codes "weightsum v1 65535 255") ≡ Err Range
unfolding is_utf8 chars encode words natural_of integer_of within_of pair_of hex_digit_of hex_of id_of name_of parent_of dimension_of extents_of class_named add_of remove_of frame_of bounds_of set_of change_named act_named verb_named command_by command_in command_of after_word across_of down_of one_across one_down with_word with_words gravity_of gravity_change_of kids_of sides_of insets_of visibility_of visible_of new_id_of weight_of last_number natural_within
too_great_a_sum_of_weights = refl

pub from_left_to_right : command_of (codes "orient v1 horizontal") ≡ Ok (Act (Number 1) (act.Orient false))
unfolding is_utf8 chars encode words natural_of integer_of within_of pair_of hex_digit_of hex_of id_of name_of parent_of dimension_of extents_of class_named add_of remove_of frame_of bounds_of set_of change_named act_named verb_named command_by command_in command_of after_word across_of down_of one_across one_down with_word with_words gravity_of gravity_change_of kids_of sides_of insets_of visibility_of visible_of new_id_of orient_of vertical_of
from_left_to_right = refl

pub from_top_to_bottom : command_of (codes "orient v1 vertical") ≡ Ok (Act (Number 1) (act.Orient true))
unfolding is_utf8 chars encode words natural_of integer_of within_of pair_of hex_digit_of hex_of id_of name_of parent_of dimension_of extents_of class_named add_of remove_of frame_of bounds_of set_of change_named act_named verb_named command_by command_in command_of after_word across_of down_of one_across one_down with_word with_words gravity_of gravity_change_of kids_of sides_of insets_of visibility_of visible_of new_id_of orient_of vertical_of
from_top_to_bottom = refl

pub no_way : command_of (codes "orient v1 diagonal") ≡ Err Syntax
unfolding is_utf8 chars encode words natural_of integer_of within_of pair_of hex_digit_of hex_of id_of name_of parent_of dimension_of extents_of class_named add_of remove_of frame_of bounds_of set_of change_named act_named verb_named command_by command_in command_of after_word across_of down_of one_across one_down with_word with_words gravity_of gravity_change_of kids_of sides_of insets_of visibility_of visible_of new_id_of orient_of vertical_of
no_way = refl

pub a_line_that_is_not_there : command_of (codes "weigh v1 1") ≡ Err Syntax
unfolding is_utf8 chars encode words natural_of integer_of within_of pair_of hex_digit_of hex_of id_of name_of parent_of dimension_of extents_of class_named add_of remove_of frame_of bounds_of set_of change_named act_named verb_named command_by command_in command_of after_word across_of down_of one_across one_down with_word with_words gravity_of gravity_change_of kids_of sides_of insets_of visibility_of visible_of new_id_of
a_line_that_is_not_there = refl

pub a_child_fills : command_of (codes "flag v1 fill yes") ≡ Ok (Act (Number 1) (act.Flag flag.Fill true))
unfolding is_utf8 chars encode words natural_of integer_of within_of pair_of hex_digit_of hex_of id_of name_of parent_of dimension_of extents_of class_named add_of remove_of frame_of bounds_of set_of change_named act_named verb_named command_by command_in command_of after_word across_of down_of one_across one_down with_word with_words gravity_of gravity_change_of kids_of sides_of insets_of visibility_of visible_of new_id_of orient_of vertical_of flag_of flag_named on_of scroll_of
a_child_fills = refl

pub a_flag_that_is_not_there : command_of (codes "flag v1 full yes") ≡ Err Syntax
unfolding is_utf8 chars encode words natural_of integer_of within_of pair_of hex_digit_of hex_of id_of name_of parent_of dimension_of extents_of class_named add_of remove_of frame_of bounds_of set_of change_named act_named verb_named command_by command_in command_of after_word across_of down_of one_across one_down with_word with_words gravity_of gravity_change_of kids_of sides_of insets_of visibility_of visible_of new_id_of orient_of vertical_of flag_of flag_named on_of scroll_of
a_flag_that_is_not_there = refl

pub an_offset : command_of (codes "scroll v1 60") ≡ Ok (Act (Number 1) (act.Scroll (pos 60)))
unfolding is_utf8 chars encode words natural_of integer_of within_of pair_of hex_digit_of hex_of id_of name_of parent_of dimension_of extents_of class_named add_of remove_of frame_of bounds_of set_of change_named act_named verb_named command_by command_in command_of after_word across_of down_of one_across one_down with_word with_words gravity_of gravity_change_of kids_of sides_of insets_of visibility_of visible_of new_id_of orient_of vertical_of flag_of flag_named on_of scroll_of
an_offset = refl

pub an_offset_below_the_begin : command_of (codes "scroll v1 -1") ≡ Err Range
unfolding is_utf8 chars encode words natural_of integer_of within_of pair_of hex_digit_of hex_of id_of name_of parent_of dimension_of extents_of class_named add_of remove_of frame_of bounds_of set_of change_named act_named verb_named command_by command_in command_of after_word across_of down_of one_across one_down with_word with_words gravity_of gravity_change_of kids_of sides_of insets_of visibility_of visible_of new_id_of orient_of vertical_of flag_of flag_named on_of scroll_of
an_offset_below_the_begin = refl

pub too_great_an_offset : command_of (codes "scroll v1 16777216") ≡ Err Range
unfolding is_utf8 chars encode words natural_of integer_of within_of pair_of hex_digit_of hex_of id_of name_of parent_of dimension_of extents_of class_named add_of remove_of frame_of bounds_of set_of change_named act_named verb_named command_by command_in command_of after_word across_of down_of one_across one_down with_word with_words gravity_of gravity_change_of kids_of sides_of insets_of visibility_of visible_of new_id_of orient_of vertical_of flag_of flag_named on_of scroll_of
too_great_an_offset = refl
