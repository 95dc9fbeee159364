-- Lines of touch: what is set for it, and what pointers do.
use Rattle.std.proofs.Common.{◌≡◌, refl}
use Rattle.std.specs.Prelude.{codes, Ok, Err, false, true, pos, negsuc}
use Rattle.std.specs.Str.{is_utf8, chars}
use lib.Utf8.{encode}
use Rattle.script_lines.specs.commands.PlainCommands.{Act, Disallow, Down, Move, Up, Cancel}
use Rattle.line_words.specs.declared.fault.LineFault.TheVariants.{Syntax, Range}
use Rattle.line_words.specs.declared.words.naming.Name.TheVariants.{Number, Id}
use Rattle.view_model.specs.declared.changes.Act.TheVariants as act
use Rattle.view_model.specs.declared.changes.Flag.TheVariants as flag
use Rattle.view_model.specs.declared.answer.Answer.TheVariants as answer
use Rattle.script_lines.specs.reading.Actions.{action_of, actions_of, with_actions}
use Rattle.script_lines.specs.reading.Changes.{answer_named, answer_of, flag_named, flag_of}
use Rattle.script_lines.specs.reading.Commands.{command_by, command_in, command_of, disallow_of, set_of}
use Rattle.line_words.specs.words.Names.{hex_digit_of, hex_of, id_of, name_of}
use Rattle.line_words.specs.words.Numbers.{integer_of, natural_of, natural_within, within_of}
use Rattle.script_lines.specs.reading.Touches.{cancel_of, pointer_of, touch_of, up_of}
use Rattle.script_lines.specs.reading.Verbs.{act_named, change_named, verb_named}
use Rattle.line_words.specs.words.Words.{after_word, on_of, words}

pub a_view_that_answers_no : command_of (codes "answer v3 off") ≡ Ok (Act (Number 3) (act.Answer answer.Off))
unfolding is_utf8 chars encode words natural_of integer_of within_of natural_within hex_digit_of hex_of id_of name_of on_of flag_named flag_of answer_named answer_of action_of with_actions actions_of pointer_of touch_of up_of cancel_of disallow_of set_of change_named act_named verb_named command_by command_in command_of after_word
a_view_that_answers_no = refl

pub a_view_that_answers_yes : command_of (codes "answer v3 yes") ≡ Ok (Act (Number 3) (act.Answer answer.Yes))
unfolding is_utf8 chars encode words natural_of integer_of within_of natural_within hex_digit_of hex_of id_of name_of on_of flag_named flag_of answer_named answer_of action_of with_actions actions_of pointer_of touch_of up_of cancel_of disallow_of set_of change_named act_named verb_named command_by command_in command_of after_word
a_view_that_answers_yes = refl

pub a_view_that_clicks : command_of (codes "answer @a click") ≡ Ok (Act (Id 10) (act.Answer answer.Click))
unfolding is_utf8 chars encode words natural_of integer_of within_of natural_within hex_digit_of hex_of id_of name_of on_of flag_named flag_of answer_named answer_of action_of with_actions actions_of pointer_of touch_of up_of cancel_of disallow_of set_of change_named act_named verb_named command_by command_in command_of after_word
a_view_that_clicks = refl

pub an_answer_that_is_not_there : command_of (codes "answer v3 no") ≡ Err Syntax
unfolding is_utf8 chars encode words natural_of integer_of within_of natural_within hex_digit_of hex_of id_of name_of on_of flag_named flag_of answer_named answer_of action_of with_actions actions_of pointer_of touch_of up_of cancel_of disallow_of set_of change_named act_named verb_named command_by command_in command_of after_word
an_answer_that_is_not_there = refl

pub no_answer : command_of (codes "answer v3") ≡ Err Syntax
unfolding is_utf8 chars encode words natural_of integer_of within_of natural_within hex_digit_of hex_of id_of name_of on_of flag_named flag_of answer_named answer_of action_of with_actions actions_of pointer_of touch_of up_of cancel_of disallow_of set_of change_named act_named verb_named command_by command_in command_of after_word
no_answer = refl

pub two_answers : command_of (codes "answer v3 yes click") ≡ Err Syntax
unfolding is_utf8 chars encode words natural_of integer_of within_of natural_within hex_digit_of hex_of id_of name_of on_of flag_named flag_of answer_named answer_of action_of with_actions actions_of pointer_of touch_of up_of cancel_of disallow_of set_of change_named act_named verb_named command_by command_in command_of after_word
two_answers = refl

pub an_answer_of_no_view : command_of (codes "answer yes") ≡ Err Syntax
unfolding is_utf8 chars encode words natural_of integer_of within_of natural_within hex_digit_of hex_of id_of name_of on_of flag_named flag_of answer_named answer_of action_of with_actions actions_of pointer_of touch_of up_of cancel_of disallow_of set_of change_named act_named verb_named command_by command_in command_of after_word
an_answer_of_no_view = refl

pub no_action : command_of (codes "intercept v1 none") ≡ Ok (Act (Number 1) (act.Intercept 0))
unfolding is_utf8 chars encode words natural_of integer_of within_of natural_within hex_digit_of hex_of id_of name_of on_of flag_named flag_of answer_named answer_of action_of with_actions actions_of pointer_of touch_of up_of cancel_of disallow_of set_of change_named act_named verb_named command_by command_in command_of after_word
no_action = refl

pub down_is_the_first_action : command_of (codes "intercept v1 down") ≡ Ok (Act (Number 1) (act.Intercept 1))
unfolding is_utf8 chars encode words natural_of integer_of within_of natural_within hex_digit_of hex_of id_of name_of on_of flag_named flag_of answer_named answer_of action_of with_actions actions_of pointer_of touch_of up_of cancel_of disallow_of set_of change_named act_named verb_named command_by command_in command_of after_word
down_is_the_first_action = refl

pub up_is_the_second_action : command_of (codes "intercept v1 up") ≡ Ok (Act (Number 1) (act.Intercept 2))
unfolding is_utf8 chars encode words natural_of integer_of within_of natural_within hex_digit_of hex_of id_of name_of on_of flag_named flag_of answer_named answer_of action_of with_actions actions_of pointer_of touch_of up_of cancel_of disallow_of set_of change_named act_named verb_named command_by command_in command_of after_word
up_is_the_second_action = refl

pub move_is_the_third_action : command_of (codes "intercept v1 move") ≡ Ok (Act (Number 1) (act.Intercept 4))
unfolding is_utf8 chars encode words natural_of integer_of within_of natural_within hex_digit_of hex_of id_of name_of on_of flag_named flag_of answer_named answer_of action_of with_actions actions_of pointer_of touch_of up_of cancel_of disallow_of set_of change_named act_named verb_named command_by command_in command_of after_word
move_is_the_third_action = refl

pub cancel_is_the_fourth_action : command_of (codes "intercept v1 cancel") ≡ Ok (Act (Number 1) (act.Intercept 8))
unfolding is_utf8 chars encode words natural_of integer_of within_of natural_within hex_digit_of hex_of id_of name_of on_of flag_named flag_of answer_named answer_of action_of with_actions actions_of pointer_of touch_of up_of cancel_of disallow_of set_of change_named act_named verb_named command_by command_in command_of after_word
cancel_is_the_fourth_action = refl

pub pdown_is_the_fifth_action : command_of (codes "intercept v1 pdown") ≡ Ok (Act (Number 1) (act.Intercept 16))
unfolding is_utf8 chars encode words natural_of integer_of within_of natural_within hex_digit_of hex_of id_of name_of on_of flag_named flag_of answer_named answer_of action_of with_actions actions_of pointer_of touch_of up_of cancel_of disallow_of set_of change_named act_named verb_named command_by command_in command_of after_word
pdown_is_the_fifth_action = refl

pub pup_is_the_sixth_action : command_of (codes "intercept v1 pup") ≡ Ok (Act (Number 1) (act.Intercept 32))
unfolding is_utf8 chars encode words natural_of integer_of within_of natural_within hex_digit_of hex_of id_of name_of on_of flag_named flag_of answer_named answer_of action_of with_actions actions_of pointer_of touch_of up_of cancel_of disallow_of set_of change_named act_named verb_named command_by command_in command_of after_word
pup_is_the_sixth_action = refl

pub two_actions_in_any_order : command_of (codes "intercept @1 pup  move ") ≡ Ok (Act (Id 1) (act.Intercept 36))
unfolding is_utf8 chars encode words natural_of integer_of within_of natural_within hex_digit_of hex_of id_of name_of on_of flag_named flag_of answer_named answer_of action_of with_actions actions_of pointer_of touch_of up_of cancel_of disallow_of set_of change_named act_named verb_named command_by command_in command_of after_word
two_actions_in_any_order = refl

pub all_actions : command_of (codes "intercept v1 down up move cancel pdown pup") ≡ Ok (Act (Number 1) (act.Intercept 63))
unfolding is_utf8 chars encode words natural_of integer_of within_of natural_within hex_digit_of hex_of id_of name_of on_of flag_named flag_of answer_named answer_of action_of with_actions actions_of pointer_of touch_of up_of cancel_of disallow_of set_of change_named act_named verb_named command_by command_in command_of after_word
all_actions = refl

pub an_action_twice : command_of (codes "intercept v1 up down up") ≡ Ok (Act (Number 1) (act.Intercept 3))
unfolding is_utf8 chars encode words natural_of integer_of within_of natural_within hex_digit_of hex_of id_of name_of on_of flag_named flag_of answer_named answer_of action_of with_actions actions_of pointer_of touch_of up_of cancel_of disallow_of set_of change_named act_named verb_named command_by command_in command_of after_word
an_action_twice = refl

pub none_beside_an_action : command_of (codes "intercept v1 none down") ≡ Err Syntax
unfolding is_utf8 chars encode words natural_of integer_of within_of natural_within hex_digit_of hex_of id_of name_of on_of flag_named flag_of answer_named answer_of action_of with_actions actions_of pointer_of touch_of up_of cancel_of disallow_of set_of change_named act_named verb_named command_by command_in command_of after_word
none_beside_an_action = refl

pub none_after_an_action : command_of (codes "intercept v1 down none") ≡ Err Syntax
unfolding is_utf8 chars encode words natural_of integer_of within_of natural_within hex_digit_of hex_of id_of name_of on_of flag_named flag_of answer_named answer_of action_of with_actions actions_of pointer_of touch_of up_of cancel_of disallow_of set_of change_named act_named verb_named command_by command_in command_of after_word
none_after_an_action = refl

pub none_twice : command_of (codes "intercept v1 none none") ≡ Err Syntax
unfolding is_utf8 chars encode words natural_of integer_of within_of natural_within hex_digit_of hex_of id_of name_of on_of flag_named flag_of answer_named answer_of action_of with_actions actions_of pointer_of touch_of up_of cancel_of disallow_of set_of change_named act_named verb_named command_by command_in command_of after_word
none_twice = refl

pub an_action_that_is_not_there : command_of (codes "intercept v1 left") ≡ Err Syntax
unfolding is_utf8 chars encode words natural_of integer_of within_of natural_within hex_digit_of hex_of id_of name_of on_of flag_named flag_of answer_named answer_of action_of with_actions actions_of pointer_of touch_of up_of cancel_of disallow_of set_of change_named act_named verb_named command_by command_in command_of after_word
an_action_that_is_not_there = refl

pub an_unknown_action_after_another : command_of (codes "intercept v1 up Down") ≡ Err Syntax
unfolding is_utf8 chars encode words natural_of integer_of within_of natural_within hex_digit_of hex_of id_of name_of on_of flag_named flag_of answer_named answer_of action_of with_actions actions_of pointer_of touch_of up_of cancel_of disallow_of set_of change_named act_named verb_named command_by command_in command_of after_word
an_unknown_action_after_another = refl

pub actions_that_a_bar_parts : command_of (codes "intercept v1 down|up") ≡ Err Syntax
unfolding is_utf8 chars encode words natural_of integer_of within_of natural_within hex_digit_of hex_of id_of name_of on_of flag_named flag_of answer_named answer_of action_of with_actions actions_of pointer_of touch_of up_of cancel_of disallow_of set_of change_named act_named verb_named command_by command_in command_of after_word
actions_that_a_bar_parts = refl

pub an_action_too_few : command_of (codes "intercept v1") ≡ Err Syntax
unfolding is_utf8 chars encode words natural_of integer_of within_of natural_within hex_digit_of hex_of id_of name_of on_of flag_named flag_of answer_named answer_of action_of with_actions actions_of pointer_of touch_of up_of cancel_of disallow_of set_of change_named act_named verb_named command_by command_in command_of after_word
an_action_too_few = refl

pub actions_of_no_view : command_of (codes "intercept down") ≡ Err Syntax
unfolding is_utf8 chars encode words natural_of integer_of within_of natural_within hex_digit_of hex_of id_of name_of on_of flag_named flag_of answer_named answer_of action_of with_actions actions_of pointer_of touch_of up_of cancel_of disallow_of set_of change_named act_named verb_named command_by command_in command_of after_word
actions_of_no_view = refl

pub pointers_are_not_taken_away : command_of (codes "disallow v1 yes") ≡ Ok (Disallow (Number 1) true)
unfolding is_utf8 chars encode words natural_of integer_of within_of natural_within hex_digit_of hex_of id_of name_of on_of flag_named flag_of answer_named answer_of action_of with_actions actions_of pointer_of touch_of up_of cancel_of disallow_of set_of change_named act_named verb_named command_by command_in command_of after_word
pointers_are_not_taken_away = refl

pub pointers_may_be_taken_away : command_of (codes "disallow @7f no") ≡ Ok (Disallow (Id 127) false)
unfolding is_utf8 chars encode words natural_of integer_of within_of natural_within hex_digit_of hex_of id_of name_of on_of flag_named flag_of answer_named answer_of action_of with_actions actions_of pointer_of touch_of up_of cancel_of disallow_of set_of change_named act_named verb_named command_by command_in command_of after_word
pointers_may_be_taken_away = refl

pub neither_yes_nor_no : command_of (codes "disallow v1 off") ≡ Err Syntax
unfolding is_utf8 chars encode words natural_of integer_of within_of natural_within hex_digit_of hex_of id_of name_of on_of flag_named flag_of answer_named answer_of action_of with_actions actions_of pointer_of touch_of up_of cancel_of disallow_of set_of change_named act_named verb_named command_by command_in command_of after_word
neither_yes_nor_no = refl

pub no_yes_and_no_no : command_of (codes "disallow v1") ≡ Err Syntax
unfolding is_utf8 chars encode words natural_of integer_of within_of natural_within hex_digit_of hex_of id_of name_of on_of flag_named flag_of answer_named answer_of action_of with_actions actions_of pointer_of touch_of up_of cancel_of disallow_of set_of change_named act_named verb_named command_by command_in command_of after_word
no_yes_and_no_no = refl

pub both_yes_and_no : command_of (codes "disallow v1 yes no") ≡ Err Syntax
unfolding is_utf8 chars encode words natural_of integer_of within_of natural_within hex_digit_of hex_of id_of name_of on_of flag_named flag_of answer_named answer_of action_of with_actions actions_of pointer_of touch_of up_of cancel_of disallow_of set_of change_named act_named verb_named command_by command_in command_of after_word
both_yes_and_no = refl

pub no_view_is_disallowed : command_of (codes "disallow yes") ≡ Err Syntax
unfolding is_utf8 chars encode words natural_of integer_of within_of natural_within hex_digit_of hex_of id_of name_of on_of flag_named flag_of answer_named answer_of action_of with_actions actions_of pointer_of touch_of up_of cancel_of disallow_of set_of change_named act_named verb_named command_by command_in command_of after_word
no_view_is_disallowed = refl

pub pointers_one_by_one : command_of (codes "flag v1 split yes") ≡ Ok (Act (Number 1) (act.Flag flag.Split true))
unfolding is_utf8 chars encode words natural_of integer_of within_of natural_within hex_digit_of hex_of id_of name_of on_of flag_named flag_of answer_named answer_of action_of with_actions actions_of pointer_of touch_of up_of cancel_of disallow_of set_of change_named act_named verb_named command_by command_in command_of after_word
pointers_one_by_one = refl

pub all_pointers_together : command_of (codes "flag v1 split no") ≡ Ok (Act (Number 1) (act.Flag flag.Split false))
unfolding is_utf8 chars encode words natural_of integer_of within_of natural_within hex_digit_of hex_of id_of name_of on_of flag_named flag_of answer_named answer_of action_of with_actions actions_of pointer_of touch_of up_of cancel_of disallow_of set_of change_named act_named verb_named command_by command_in command_of after_word
all_pointers_together = refl

pub a_split_that_is_neither : command_of (codes "flag v1 split off") ≡ Err Syntax
unfolding is_utf8 chars encode words natural_of integer_of within_of natural_within hex_digit_of hex_of id_of name_of on_of flag_named flag_of answer_named answer_of action_of with_actions actions_of pointer_of touch_of up_of cancel_of disallow_of set_of change_named act_named verb_named command_by command_in command_of after_word
a_split_that_is_neither = refl

pub a_split_without_an_answer : command_of (codes "flag v1 split") ≡ Err Syntax
unfolding is_utf8 chars encode words natural_of integer_of within_of natural_within hex_digit_of hex_of id_of name_of on_of flag_named flag_of answer_named answer_of action_of with_actions actions_of pointer_of touch_of up_of cancel_of disallow_of set_of change_named act_named verb_named command_by command_in command_of after_word
a_split_without_an_answer = refl

pub a_word_after_a_split : command_of (codes "flag v1 split yes no") ≡ Err Syntax
unfolding is_utf8 chars encode words natural_of integer_of within_of natural_within hex_digit_of hex_of id_of name_of on_of flag_named flag_of answer_named answer_of action_of with_actions actions_of pointer_of touch_of up_of cancel_of disallow_of set_of change_named act_named verb_named command_by command_in command_of after_word
a_word_after_a_split = refl

pub a_pointer_goes_down : command_of (codes "down 0 5 30") ≡ Ok (Down 0 (pos 5) (pos 30))
unfolding is_utf8 chars encode words natural_of integer_of within_of natural_within hex_digit_of hex_of id_of name_of on_of flag_named flag_of answer_named answer_of action_of with_actions actions_of pointer_of touch_of up_of cancel_of disallow_of set_of change_named act_named verb_named command_by command_in command_of after_word
a_pointer_goes_down = refl

pub the_greatest_pointer_and_point : command_of (codes "down 31 1048576 1048576") ≡ Ok (Down 31 (pos 1048576) (pos 1048576))
unfolding is_utf8 chars encode words natural_of integer_of within_of natural_within hex_digit_of hex_of id_of name_of on_of flag_named flag_of answer_named answer_of action_of with_actions actions_of pointer_of touch_of up_of cancel_of disallow_of set_of change_named act_named verb_named command_by command_in command_of after_word
the_greatest_pointer_and_point = refl

pub the_least_point : command_of (codes "down 1 -1048576 -1048576") ≡ Ok (Down 1 (negsuc 1048575) (negsuc 1048575))
unfolding is_utf8 chars encode words natural_of integer_of within_of natural_within hex_digit_of hex_of id_of name_of on_of flag_named flag_of answer_named answer_of action_of with_actions actions_of pointer_of touch_of up_of cancel_of disallow_of set_of change_named act_named verb_named command_by command_in command_of after_word
the_least_point = refl

pub pointer_32 : command_of (codes "down 32 0 0") ≡ Err Range
unfolding is_utf8 chars encode words natural_of integer_of within_of natural_within hex_digit_of hex_of id_of name_of on_of flag_named flag_of answer_named answer_of action_of with_actions actions_of pointer_of touch_of up_of cancel_of disallow_of set_of change_named act_named verb_named command_by command_in command_of after_word
pointer_32 = refl

pub a_pointer_below_0 : command_of (codes "down -1 0 0") ≡ Err Range
unfolding is_utf8 chars encode words natural_of integer_of within_of natural_within hex_digit_of hex_of id_of name_of on_of flag_named flag_of answer_named answer_of action_of with_actions actions_of pointer_of touch_of up_of cancel_of disallow_of set_of change_named act_named verb_named command_by command_in command_of after_word
a_pointer_below_0 = refl

pub a_point_too_far_right : command_of (codes "down 0 1048577 0") ≡ Err Range
unfolding is_utf8 chars encode words natural_of integer_of within_of natural_within hex_digit_of hex_of id_of name_of on_of flag_named flag_of answer_named answer_of action_of with_actions actions_of pointer_of touch_of up_of cancel_of disallow_of set_of change_named act_named verb_named command_by command_in command_of after_word
a_point_too_far_right = refl

pub a_point_too_far_left : command_of (codes "down 0 -1048577 0") ≡ Err Range
unfolding is_utf8 chars encode words natural_of integer_of within_of natural_within hex_digit_of hex_of id_of name_of on_of flag_named flag_of answer_named answer_of action_of with_actions actions_of pointer_of touch_of up_of cancel_of disallow_of set_of change_named act_named verb_named command_by command_in command_of after_word
a_point_too_far_left = refl

pub a_point_too_far_down : command_of (codes "down 0 0 1048577") ≡ Err Range
unfolding is_utf8 chars encode words natural_of integer_of within_of natural_within hex_digit_of hex_of id_of name_of on_of flag_named flag_of answer_named answer_of action_of with_actions actions_of pointer_of touch_of up_of cancel_of disallow_of set_of change_named act_named verb_named command_by command_in command_of after_word
a_point_too_far_down = refl

pub a_point_too_far_up : command_of (codes "down 0 0 -1048577") ≡ Err Range
unfolding is_utf8 chars encode words natural_of integer_of within_of natural_within hex_digit_of hex_of id_of name_of on_of flag_named flag_of answer_named answer_of action_of with_actions actions_of pointer_of touch_of up_of cancel_of disallow_of set_of change_named act_named verb_named command_by command_in command_of after_word
a_point_too_far_up = refl

pub a_fault_after_pointer_32 : command_of (codes "down 32 0 y") ≡ Err Syntax
unfolding is_utf8 chars encode words natural_of integer_of within_of natural_within hex_digit_of hex_of id_of name_of on_of flag_named flag_of answer_named answer_of action_of with_actions actions_of pointer_of touch_of up_of cancel_of disallow_of set_of change_named act_named verb_named command_by command_in command_of after_word
a_fault_after_pointer_32 = refl

pub a_fault_after_a_point_too_far_right : command_of (codes "down 0 1048577") ≡ Err Syntax
unfolding is_utf8 chars encode words natural_of integer_of within_of natural_within hex_digit_of hex_of id_of name_of on_of flag_named flag_of answer_named answer_of action_of with_actions actions_of pointer_of touch_of up_of cancel_of disallow_of set_of change_named act_named verb_named command_by command_in command_of after_word
a_fault_after_a_point_too_far_right = refl

pub a_pointer_is_no_view : command_of (codes "down v0 5 5") ≡ Err Syntax
unfolding is_utf8 chars encode words natural_of integer_of within_of natural_within hex_digit_of hex_of id_of name_of on_of flag_named flag_of answer_named answer_of action_of with_actions actions_of pointer_of touch_of up_of cancel_of disallow_of set_of change_named act_named verb_named command_by command_in command_of after_word
a_pointer_is_no_view = refl

pub a_pointer_alone_does_not_go_down : command_of (codes "down 0") ≡ Err Syntax
unfolding is_utf8 chars encode words natural_of integer_of within_of natural_within hex_digit_of hex_of id_of name_of on_of flag_named flag_of answer_named answer_of action_of with_actions actions_of pointer_of touch_of up_of cancel_of disallow_of set_of change_named act_named verb_named command_by command_in command_of after_word
a_pointer_alone_does_not_go_down = refl

pub a_point_of_three_numbers : command_of (codes "down 0 5 5 5") ≡ Err Syntax
unfolding is_utf8 chars encode words natural_of integer_of within_of natural_within hex_digit_of hex_of id_of name_of on_of flag_named flag_of answer_named answer_of action_of with_actions actions_of pointer_of touch_of up_of cancel_of disallow_of set_of change_named act_named verb_named command_by command_in command_of after_word
a_point_of_three_numbers = refl

pub nothing_goes_down : command_of (codes "down") ≡ Err Syntax
unfolding is_utf8 chars encode words natural_of integer_of within_of natural_within hex_digit_of hex_of id_of name_of on_of flag_named flag_of answer_named answer_of action_of with_actions actions_of pointer_of touch_of up_of cancel_of disallow_of set_of change_named act_named verb_named command_by command_in command_of after_word
nothing_goes_down = refl

pub a_pointer_moves : command_of (codes "move 31 -1 0") ≡ Ok (Move 31 (negsuc 0) (pos 0))
unfolding is_utf8 chars encode words natural_of integer_of within_of natural_within hex_digit_of hex_of id_of name_of on_of flag_named flag_of answer_named answer_of action_of with_actions actions_of pointer_of touch_of up_of cancel_of disallow_of set_of change_named act_named verb_named command_by command_in command_of after_word
a_pointer_moves = refl

pub the_farthest_move : command_of (codes "move 0 -1048576 1048576") ≡ Ok (Move 0 (negsuc 1048575) (pos 1048576))
unfolding is_utf8 chars encode words natural_of integer_of within_of natural_within hex_digit_of hex_of id_of name_of on_of flag_named flag_of answer_named answer_of action_of with_actions actions_of pointer_of touch_of up_of cancel_of disallow_of set_of change_named act_named verb_named command_by command_in command_of after_word
the_farthest_move = refl

pub pointer_32_does_not_move : command_of (codes "move 32 0 0") ≡ Err Range
unfolding is_utf8 chars encode words natural_of integer_of within_of natural_within hex_digit_of hex_of id_of name_of on_of flag_named flag_of answer_named answer_of action_of with_actions actions_of pointer_of touch_of up_of cancel_of disallow_of set_of change_named act_named verb_named command_by command_in command_of after_word
pointer_32_does_not_move = refl

pub a_move_too_far_right : command_of (codes "move 0 1048577 0") ≡ Err Range
unfolding is_utf8 chars encode words natural_of integer_of within_of natural_within hex_digit_of hex_of id_of name_of on_of flag_named flag_of answer_named answer_of action_of with_actions actions_of pointer_of touch_of up_of cancel_of disallow_of set_of change_named act_named verb_named command_by command_in command_of after_word
a_move_too_far_right = refl

pub a_move_too_far_up : command_of (codes "move 0 0 -1048577") ≡ Err Range
unfolding is_utf8 chars encode words natural_of integer_of within_of natural_within hex_digit_of hex_of id_of name_of on_of flag_named flag_of answer_named answer_of action_of with_actions actions_of pointer_of touch_of up_of cancel_of disallow_of set_of change_named act_named verb_named command_by command_in command_of after_word
a_move_too_far_up = refl

pub a_move_of_one_number : command_of (codes "move 0 0") ≡ Err Syntax
unfolding is_utf8 chars encode words natural_of integer_of within_of natural_within hex_digit_of hex_of id_of name_of on_of flag_named flag_of answer_named answer_of action_of with_actions actions_of pointer_of touch_of up_of cancel_of disallow_of set_of change_named act_named verb_named command_by command_in command_of after_word
a_move_of_one_number = refl

pub a_move_of_three_numbers : command_of (codes "move 0 0 0 0") ≡ Err Syntax
unfolding is_utf8 chars encode words natural_of integer_of within_of natural_within hex_digit_of hex_of id_of name_of on_of flag_named flag_of answer_named answer_of action_of with_actions actions_of pointer_of touch_of up_of cancel_of disallow_of set_of change_named act_named verb_named command_by command_in command_of after_word
a_move_of_three_numbers = refl

pub a_move_to_a_word : command_of (codes "move 0 0 match") ≡ Err Syntax
unfolding is_utf8 chars encode words natural_of integer_of within_of natural_within hex_digit_of hex_of id_of name_of on_of flag_named flag_of answer_named answer_of action_of with_actions actions_of pointer_of touch_of up_of cancel_of disallow_of set_of change_named act_named verb_named command_by command_in command_of after_word
a_move_to_a_word = refl

pub a_pointer_goes_up : command_of (codes "up 0") ≡ Ok (Up 0)
unfolding is_utf8 chars encode words natural_of integer_of within_of natural_within hex_digit_of hex_of id_of name_of on_of flag_named flag_of answer_named answer_of action_of with_actions actions_of pointer_of touch_of up_of cancel_of disallow_of set_of change_named act_named verb_named command_by command_in command_of after_word
a_pointer_goes_up = refl

pub the_greatest_pointer_goes_up : command_of (codes "up 31") ≡ Ok (Up 31)
unfolding is_utf8 chars encode words natural_of integer_of within_of natural_within hex_digit_of hex_of id_of name_of on_of flag_named flag_of answer_named answer_of action_of with_actions actions_of pointer_of touch_of up_of cancel_of disallow_of set_of change_named act_named verb_named command_by command_in command_of after_word
the_greatest_pointer_goes_up = refl

pub pointer_32_does_not_go_up : command_of (codes "up 32") ≡ Err Range
unfolding is_utf8 chars encode words natural_of integer_of within_of natural_within hex_digit_of hex_of id_of name_of on_of flag_named flag_of answer_named answer_of action_of with_actions actions_of pointer_of touch_of up_of cancel_of disallow_of set_of change_named act_named verb_named command_by command_in command_of after_word
pointer_32_does_not_go_up = refl

pub no_pointer_below_0_goes_up : command_of (codes "up -1") ≡ Err Range
unfolding is_utf8 chars encode words natural_of integer_of within_of natural_within hex_digit_of hex_of id_of name_of on_of flag_named flag_of answer_named answer_of action_of with_actions actions_of pointer_of touch_of up_of cancel_of disallow_of set_of change_named act_named verb_named command_by command_in command_of after_word
no_pointer_below_0_goes_up = refl

pub nothing_goes_up : command_of (codes "up") ≡ Err Syntax
unfolding is_utf8 chars encode words natural_of integer_of within_of natural_within hex_digit_of hex_of id_of name_of on_of flag_named flag_of answer_named answer_of action_of with_actions actions_of pointer_of touch_of up_of cancel_of disallow_of set_of change_named act_named verb_named command_by command_in command_of after_word
nothing_goes_up = refl

pub two_pointers_go_up : command_of (codes "up 0 1") ≡ Err Syntax
unfolding is_utf8 chars encode words natural_of integer_of within_of natural_within hex_digit_of hex_of id_of name_of on_of flag_named flag_of answer_named answer_of action_of with_actions actions_of pointer_of touch_of up_of cancel_of disallow_of set_of change_named act_named verb_named command_by command_in command_of after_word
two_pointers_go_up = refl

pub a_word_goes_up : command_of (codes "up all") ≡ Err Syntax
unfolding is_utf8 chars encode words natural_of integer_of within_of natural_within hex_digit_of hex_of id_of name_of on_of flag_named flag_of answer_named answer_of action_of with_actions actions_of pointer_of touch_of up_of cancel_of disallow_of set_of change_named act_named verb_named command_by command_in command_of after_word
a_word_goes_up = refl

pub a_cancel : command_of (codes "cancel") ≡ Ok Cancel
unfolding is_utf8 chars encode words natural_of integer_of within_of natural_within hex_digit_of hex_of id_of name_of on_of flag_named flag_of answer_named answer_of action_of with_actions actions_of pointer_of touch_of up_of cancel_of disallow_of set_of change_named act_named verb_named command_by command_in command_of after_word
a_cancel = refl

pub a_cancel_of_a_pointer : command_of (codes "cancel 0") ≡ Err Syntax
unfolding is_utf8 chars encode words natural_of integer_of within_of natural_within hex_digit_of hex_of id_of name_of on_of flag_named flag_of answer_named answer_of action_of with_actions actions_of pointer_of touch_of up_of cancel_of disallow_of set_of change_named act_named verb_named command_by command_in command_of after_word
a_cancel_of_a_pointer = refl

pub another_word_for_a_cancel : command_of (codes "Cancel") ≡ Err Syntax
unfolding is_utf8 chars encode words natural_of integer_of within_of natural_within hex_digit_of hex_of id_of name_of on_of flag_named flag_of answer_named answer_of action_of with_actions actions_of pointer_of touch_of up_of cancel_of disallow_of set_of change_named act_named verb_named command_by command_in command_of after_word
another_word_for_a_cancel = refl
