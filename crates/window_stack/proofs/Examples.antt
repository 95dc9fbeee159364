-- Lines of small stacks, and which window is under a point.
use Rattle.std.proofs.Common.{◌≡◌, List, [], ◌∷◌, Option, Some, None, refl}
use Rattle.std.specs.Prelude.{codes, Ok, Err, pos, negsuc}
use Rattle.std.specs.Str.{is_utf8, chars}
use lib.Utf8.{encode}
use Rattle.geom_core.specs.declared.geometry.Size.{Size}
use Rattle.script_lines.specs.reading.Commands.{command_by, command_in, command_of, frame_of, set_of}
use Rattle.line_words.specs.words.Names.{id_of, name_of}
use Rattle.line_words.specs.words.Numbers.{integer_of, natural_of, natural_within, pair_of, within_of}
use Rattle.script_lines.specs.reading.Pixels.{is_small}
use Rattle.script_lines.specs.commands.PlainCommands.{Frame, Window}
use Rattle.script_lines.specs.reading.Touches.{pointer_of, touch_of}
use Rattle.script_lines.specs.reading.Verbs.{act_named, change_named, verb_named}
use Rattle.line_words.specs.words.Words.{after_word, words}
use Rattle.line_words.specs.declared.fault.LineFault.TheVariants.{Syntax, Range}
use Rattle.window_stack.specs.PlainPanes.{PlainPanes, closed, corner_of, no_panes, order_of, raised, set_at, topmost}
use Rattle.window_stack.specs.StackLines.{At, Cancel, Close, Compose, Down, In, Move, Raise, Up, at_of, close_of, compose_of, given_of, in_of, is_touch_word, pane_of, part_by, raise_of, scancel_of, stack_line_by, stack_line_of, sup_of}

pub a_window_is_opened : stack_line_of (codes "at 0 0 0") ≡ Ok (At 0 (pos 0) (pos 0))
unfolding is_utf8 chars encode words after_word natural_of integer_of within_of natural_within pane_of at_of raise_of close_of stack_line_by stack_line_of
a_window_is_opened = refl

pub a_window_at_another_corner : stack_line_of (codes "at 1 2 2") ≡ Ok (At 1 (pos 2) (pos 2))
unfolding is_utf8 chars encode words after_word natural_of integer_of within_of natural_within pane_of at_of raise_of close_of stack_line_by stack_line_of
a_window_at_another_corner = refl

pub the_last_window_at_the_last_corners : stack_line_of (codes "at 7 -4096 4096") ≡ Ok (At 7 (negsuc 4095) (pos 4096))
unfolding is_utf8 chars encode words after_word natural_of integer_of within_of natural_within pane_of at_of raise_of close_of stack_line_by stack_line_of
the_last_window_at_the_last_corners = refl

pub an_eighth_name_is_out_of_range : stack_line_of (codes "at 8 0 0") ≡ Err Range
unfolding is_utf8 chars encode words after_word natural_of integer_of within_of natural_within pane_of at_of raise_of close_of stack_line_by stack_line_of
an_eighth_name_is_out_of_range = refl

pub a_corner_is_out_of_range : stack_line_of (codes "at 0 4097 0") ≡ Err Range
unfolding is_utf8 chars encode words after_word natural_of integer_of within_of natural_within pane_of at_of raise_of close_of stack_line_by stack_line_of
a_corner_is_out_of_range = refl

pub syntax_comes_before_range : stack_line_of (codes "at 8 0") ≡ Err Syntax
unfolding is_utf8 chars encode words after_word natural_of integer_of within_of natural_within pane_of at_of raise_of close_of stack_line_by stack_line_of
syntax_comes_before_range = refl

pub a_window_is_raised : stack_line_of (codes "raise 0") ≡ Ok (Raise 0)
unfolding is_utf8 chars encode words after_word natural_of integer_of within_of natural_within pane_of at_of raise_of close_of stack_line_by stack_line_of
a_window_is_raised = refl

pub a_window_is_closed : stack_line_of (codes "close 7") ≡ Ok (Close 7)
unfolding is_utf8 chars encode words after_word natural_of integer_of within_of natural_within pane_of at_of raise_of close_of stack_line_by stack_line_of
a_window_is_closed = refl

pub a_window_gets_a_size : stack_line_of (codes "in 0 window 4 4") ≡ Ok (In 0 (Window (pos 4) (pos 4)))
unfolding is_utf8 chars encode words after_word natural_of integer_of within_of natural_within pair_of id_of name_of pane_of is_touch_word given_of in_of frame_of set_of change_named act_named verb_named command_by command_in command_of stack_line_by stack_line_of
a_window_gets_a_size = refl

pub a_window_has_a_frame : stack_line_of (codes "in 5 frame") ≡ Ok (In 5 Frame)
unfolding is_utf8 chars encode words after_word natural_of integer_of within_of natural_within pair_of id_of name_of pane_of is_touch_word given_of in_of frame_of set_of change_named act_named verb_named command_by command_in command_of stack_line_by stack_line_of
a_window_has_a_frame = refl

pub a_command_of_touch_is_none_of_the_grammar : stack_line_of (codes "in 0 down 0 1 1") ≡ Err Syntax
unfolding is_utf8 chars encode words after_word natural_of integer_of within_of natural_within pair_of id_of name_of pane_of is_touch_word given_of in_of frame_of set_of change_named act_named verb_named command_by command_in command_of stack_line_by stack_line_of
a_command_of_touch_is_none_of_the_grammar = refl

pub also_where_its_numbers_are_out_of_range : stack_line_of (codes "in 0 down 0 99999999 1") ≡ Err Syntax
unfolding is_utf8 chars encode words after_word natural_of integer_of within_of natural_within pair_of id_of name_of pane_of is_touch_word given_of in_of frame_of set_of change_named act_named verb_named command_by command_in command_of stack_line_by stack_line_of
also_where_its_numbers_are_out_of_range = refl

pub a_comment_is_no_command : stack_line_of (codes "in 0 # x") ≡ Err Syntax
unfolding is_utf8 chars encode words after_word natural_of integer_of within_of natural_within pair_of id_of name_of pane_of is_touch_word given_of in_of frame_of set_of change_named act_named verb_named command_by command_in command_of stack_line_by stack_line_of
a_comment_is_no_command = refl

pub no_command : stack_line_of (codes "in 0") ≡ Err Syntax
unfolding is_utf8 chars encode words after_word natural_of integer_of within_of natural_within pair_of id_of name_of pane_of is_touch_word given_of in_of frame_of set_of change_named act_named verb_named command_by command_in command_of stack_line_by stack_line_of
no_command = refl

pub syntax_of_a_command_comes_before_the_range_of_a_name : stack_line_of (codes "in 9 frame 1") ≡ Err Syntax
unfolding is_utf8 chars encode words after_word natural_of integer_of within_of natural_within pair_of id_of name_of pane_of is_touch_word given_of in_of frame_of set_of change_named act_named verb_named command_by command_in command_of stack_line_by stack_line_of
syntax_of_a_command_comes_before_the_range_of_a_name = refl

pub colours_are_composed : stack_line_of (codes "compose 1 1 3 2") ≡ Ok (Compose (pos 1) (pos 1) (pos 3) (pos 2))
unfolding is_utf8 chars encode words after_word natural_of integer_of within_of natural_within is_small part_by compose_of stack_line_by stack_line_of
colours_are_composed = refl

pub the_largest_part : stack_line_of (codes "compose 0 0 4096 16") ≡ Ok (Compose (pos 0) (pos 0) (pos 4096) (pos 16))
unfolding is_utf8 chars encode words after_word natural_of integer_of within_of natural_within is_small part_by compose_of stack_line_by stack_line_of
the_largest_part = refl

pub a_part_is_too_large : stack_line_of (codes "compose 0 0 4096 17") ≡ Err Range
unfolding is_utf8 chars encode words after_word natural_of integer_of within_of natural_within is_small part_by compose_of stack_line_by stack_line_of
a_part_is_too_large = refl

pub a_pointer_goes_down : stack_line_of (codes "sdown 0 3 3") ≡ Ok (Down 0 (pos 3) (pos 3))
unfolding is_utf8 chars encode words after_word natural_of integer_of within_of natural_within pointer_of touch_of sup_of scancel_of stack_line_by stack_line_of
a_pointer_goes_down = refl

pub a_pointer_moves : stack_line_of (codes "smove 31 -1 4") ≡ Ok (Move 31 (negsuc 0) (pos 4))
unfolding is_utf8 chars encode words after_word natural_of integer_of within_of natural_within pointer_of touch_of sup_of scancel_of stack_line_by stack_line_of
a_pointer_moves = refl

pub a_pointer_goes_up : stack_line_of (codes "sup 0") ≡ Ok (Up 0)
unfolding is_utf8 chars encode words after_word natural_of integer_of within_of natural_within pointer_of touch_of sup_of scancel_of stack_line_by stack_line_of
a_pointer_goes_up = refl

pub a_gesture_ends : stack_line_of (codes "scancel") ≡ Ok Cancel
unfolding is_utf8 chars encode words after_word natural_of integer_of within_of natural_within pointer_of touch_of sup_of scancel_of stack_line_by stack_line_of
a_gesture_ends = refl

pub pointer_32_is_out_of_range : stack_line_of (codes "sup 32") ≡ Err Range
unfolding is_utf8 chars encode words after_word natural_of integer_of within_of natural_within pointer_of touch_of sup_of scancel_of stack_line_by stack_line_of
pointer_32_is_out_of_range = refl

pub a_pointer_of_no_window : stack_line_of (codes "down 0 1 1") ≡ Err Syntax
unfolding is_utf8 chars encode words after_word natural_of integer_of within_of natural_within pointer_of touch_of sup_of scancel_of stack_line_by stack_line_of
a_pointer_of_no_window = refl

-- two windows of four by four pixels, the later one two pixels lower and further right
two : PlainPanes
two = set_at (set_at no_panes 0 (pos 0) (pos 0)) 1 (pos 2) (pos 2)

square : Option Size
square = Some (record { w = pos 4; h = pos 4 })

both : List (Option Size)
both = square ∷ square ∷ None ∷ None ∷ None ∷ None ∷ None ∷ None ∷ []

the_later_window_is_on_top : order_of two ≡ 1 ∷ 0 ∷ []
unfolding two square both
the_later_window_is_on_top = refl

it_is_under_a_point_of_both : topmost two (pos 3) (pos 3) both ≡ Some 1
unfolding two square both
it_is_under_a_point_of_both = refl

low_edges_count : topmost two (pos 2) (pos 2) both ≡ Some 1
unfolding two square both
low_edges_count = refl

high_edges_do_not : topmost two (pos 6) (pos 5) both ≡ None
unfolding two square both
high_edges_do_not = refl

the_other_is_under_a_point_of_its_own : topmost two (pos 1) (pos 3) both ≡ Some 0
unfolding two square both
the_other_is_under_a_point_of_its_own = refl

no_window_is_under_a_point_outside : topmost two (pos 9) (pos 9) both ≡ None
unfolding two square both
no_window_is_under_a_point_outside = refl

a_window_without_a_size_is_under_no_point : topmost two (pos 3) (pos 3) (square ∷ []) ≡ Some 0
unfolding two square both
a_window_without_a_size_is_under_no_point = refl

a_raised_window_is_on_top : order_of (raised two 0) ≡ 0 ∷ 1 ∷ []
unfolding two square both
a_raised_window_is_on_top = refl

it_is_under_that_point_then : topmost (raised two 0) (pos 3) (pos 3) both ≡ Some 0
unfolding two square both
it_is_under_that_point_then = refl

a_new_corner_raises_nothing : order_of (set_at two 0 (pos 5) (pos 5)) ≡ 1 ∷ 0 ∷ []
unfolding two square both
a_new_corner_raises_nothing = refl

it_is_the_corner_now : corner_of (set_at two 0 (pos 5) (pos 5)) 0 ≡ Some (pos 5, pos 5)
unfolding two square both
it_is_the_corner_now = refl

a_closed_window_has_no_corner : corner_of (closed two 1) 1 ≡ None
unfolding two square both
a_closed_window_has_no_corner = refl

it_loses_the_gesture : closed (record two { holder = Some 1 }) 1 ≡ set_at no_panes 0 (pos 0) (pos 0)
unfolding two square both
it_loses_the_gesture = refl

another_keeps_the_gesture : (closed (record two { holder = Some 0 }) 1).holder ≡ Some 0
unfolding two square both
another_keeps_the_gesture = refl
