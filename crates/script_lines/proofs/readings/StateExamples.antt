-- Lines of saved states.
use Rattle.std.proofs.Common.{◌≡◌, refl}
use Rattle.std.specs.Prelude.{codes, Ok, Err, Some, None}
use Rattle.std.specs.Str.{is_utf8, chars}
use lib.Utf8.{encode}
use Rattle.script_lines.specs.commands.PlainCommands.{Save, Restore}
use Rattle.line_words.specs.declared.fault.LineFault.TheVariants.{Syntax}
use Rattle.script_lines.specs.reading.Commands.{command_by, command_in, command_of, set_of}
use Rattle.script_lines.specs.reading.States.{is_state_text, restore_of, save_of, state_text_of}
use Rattle.script_lines.specs.reading.Verbs.{act_named, change_named, verb_named}
use Rattle.line_words.specs.words.Words.{after_word, words}

pub the_state_is_kept : command_of (codes "save") ≡ Ok Save
unfolding is_utf8 chars encode words is_state_text state_text_of save_of restore_of set_of change_named act_named verb_named command_by command_in command_of after_word
the_state_is_kept = refl

pub spaces_around_a_word : command_of (codes " save  ") ≡ Ok Save
unfolding is_utf8 chars encode words is_state_text state_text_of save_of restore_of set_of change_named act_named verb_named command_by command_in command_of after_word
spaces_around_a_word = refl

pub a_word_after_save : command_of (codes "save 00") ≡ Err Syntax
unfolding is_utf8 chars encode words is_state_text state_text_of save_of restore_of set_of change_named act_named verb_named command_by command_in command_of after_word
a_word_after_save = refl

pub the_state_that_is_kept : command_of (codes "restore") ≡ Ok (Restore None)
unfolding is_utf8 chars encode words is_state_text state_text_of save_of restore_of set_of change_named act_named verb_named command_by command_in command_of after_word
the_state_that_is_kept = refl

pub spaces_are_no_state : command_of (codes "restore   ") ≡ Ok (Restore None)
unfolding is_utf8 chars encode words is_state_text state_text_of save_of restore_of set_of change_named act_named verb_named command_by command_in command_of after_word
spaces_are_no_state = refl

pub a_state : command_of (codes "restore 56530101000100087f011e000000") ≡ Ok (Restore (Some (codes "56530101000100087f011e000000")))
unfolding is_utf8 chars encode words is_state_text state_text_of save_of restore_of set_of change_named act_named verb_named command_by command_in command_of after_word
a_state = refl

pub a_state_of_one_byte : command_of (codes "restore 56") ≡ Ok (Restore (Some (codes "56")))
unfolding is_utf8 chars encode words is_state_text state_text_of save_of restore_of set_of change_named act_named verb_named command_by command_in command_of after_word
a_state_of_one_byte = refl

pub digits_are_as_written : command_of (codes "restore aBCdEF") ≡ Ok (Restore (Some (codes "aBCdEF")))
unfolding is_utf8 chars encode words is_state_text state_text_of save_of restore_of set_of change_named act_named verb_named command_by command_in command_of after_word
digits_are_as_written = refl

pub one_digit : command_of (codes "restore 5") ≡ Err Syntax
unfolding is_utf8 chars encode words is_state_text state_text_of save_of restore_of set_of change_named act_named verb_named command_by command_in command_of after_word
one_digit = refl

pub three_digits : command_of (codes "restore 565") ≡ Err Syntax
unfolding is_utf8 chars encode words is_state_text state_text_of save_of restore_of set_of change_named act_named verb_named command_by command_in command_of after_word
three_digits = refl

pub a_digit_that_is_none : command_of (codes "restore 5g") ≡ Err Syntax
unfolding is_utf8 chars encode words is_state_text state_text_of save_of restore_of set_of change_named act_named verb_named command_by command_in command_of after_word
a_digit_that_is_none = refl

pub a_mark_before_a_state : command_of (codes "restore @56") ≡ Err Syntax
unfolding is_utf8 chars encode words is_state_text state_text_of save_of restore_of set_of change_named act_named verb_named command_by command_in command_of after_word
a_mark_before_a_state = refl

pub a_minus_before_a_state : command_of (codes "restore -565") ≡ Err Syntax
unfolding is_utf8 chars encode words is_state_text state_text_of save_of restore_of set_of change_named act_named verb_named command_by command_in command_of after_word
a_minus_before_a_state = refl

pub two_states : command_of (codes "restore 56 53") ≡ Err Syntax
unfolding is_utf8 chars encode words is_state_text state_text_of save_of restore_of set_of change_named act_named verb_named command_by command_in command_of after_word
two_states = refl

pub a_state_in_two_pieces : command_of (codes "restore 5 6") ≡ Err Syntax
unfolding is_utf8 chars encode words is_state_text state_text_of save_of restore_of set_of change_named act_named verb_named command_by command_in command_of after_word
a_state_in_two_pieces = refl

pub a_longer_first_word : command_of (codes "restored") ≡ Err Syntax
unfolding is_utf8 chars encode words is_state_text state_text_of save_of restore_of set_of change_named act_named verb_named command_by command_in command_of after_word
a_longer_first_word = refl

pub a_capital_letter : command_of (codes "Save") ≡ Err Syntax
unfolding is_utf8 chars encode words is_state_text state_text_of save_of restore_of set_of change_named act_named verb_named command_by command_in command_of after_word
a_capital_letter = refl
