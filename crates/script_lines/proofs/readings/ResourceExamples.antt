-- Lines that set the density, define resources and read files, and what they ask for.
use Rattle.std.proofs.Common.{◌≡◌, refl, [], ◌∷◌}
use Rattle.std.specs.Prelude.{codes, Ok, Err, Some, None, true, false}
use Rattle.std.specs.Str.{is_utf8, chars}
use lib.Utf8.{encode}
use Rattle.script_lines.specs.reading.Commands.{command_by, command_in, command_of, dpi_of, inflate_of, into_of}
use Rattle.line_words.specs.words.Escapes.{escaped_text_of, rest_of, unescaped}
use Rattle.line_words.specs.words.FileNames.{is_file_name}
use Rattle.line_words.specs.words.Names.{hex_digit_of, hex_of, id_of, name_of}
use Rattle.line_words.specs.words.Numbers.{integer_of, natural_of, natural_within, within_of}
use Rattle.script_lines.specs.commands.PlainCommands.{Dpi, Res, Inflate, Color, Dimen, Text}
use Rattle.line_words.specs.words.Colors.{color_of, last_color}
use Rattle.script_lines.specs.reading.Resources.{dimen_given, dimen_word, given_by, given_of, res_of, resource_id, unit_of}
use Rattle.script_lines.specs.reading.Verbs.{act_named, change_named, verb_named}
use Rattle.line_words.specs.words.Words.{after_word, text_of, words}
use Rattle.line_words.specs.declared.fault.LineFault.TheVariants.{Syntax, Range}
use Rattle.line_words.specs.declared.words.naming.Name.TheVariants.{Number, Id}

pub the_least_density : command_of (codes "dpi 40") ≡ Ok (Dpi 40)
unfolding is_utf8 chars encode words natural_of integer_of within_of natural_within hex_digit_of hex_of id_of name_of change_named act_named verb_named command_by command_in command_of after_word dpi_of
the_least_density = refl

pub the_greatest_density : command_of (codes "dpi 1000") ≡ Ok (Dpi 1000)
unfolding is_utf8 chars encode words natural_of integer_of within_of natural_within hex_digit_of hex_of id_of name_of change_named act_named verb_named command_by command_in command_of after_word dpi_of
the_greatest_density = refl

pub a_density_of_39 : command_of (codes "dpi 39") ≡ Err Range
unfolding is_utf8 chars encode words natural_of integer_of within_of natural_within hex_digit_of hex_of id_of name_of change_named act_named verb_named command_by command_in command_of after_word dpi_of
a_density_of_39 = refl

pub a_density_of_1001 : command_of (codes "dpi 1001") ≡ Err Range
unfolding is_utf8 chars encode words natural_of integer_of within_of natural_within hex_digit_of hex_of id_of name_of change_named act_named verb_named command_by command_in command_of after_word dpi_of
a_density_of_1001 = refl

pub a_density_below_0 : command_of (codes "dpi -160") ≡ Err Range
unfolding is_utf8 chars encode words natural_of integer_of within_of natural_within hex_digit_of hex_of id_of name_of change_named act_named verb_named command_by command_in command_of after_word dpi_of
a_density_below_0 = refl

pub a_word_after_a_density : command_of (codes "dpi 160 dpi") ≡ Err Syntax
unfolding is_utf8 chars encode words natural_of integer_of within_of natural_within hex_digit_of hex_of id_of name_of change_named act_named verb_named command_by command_in command_of after_word dpi_of
a_word_after_a_density = refl

pub a_dimension : command_of (codes "res @7f050001 dimen 16 dp") ≡ Ok (Res 2131034113 (Dimen 4097))
unfolding is_utf8 chars encode words natural_of integer_of within_of natural_within hex_digit_of hex_of id_of name_of change_named act_named verb_named command_by command_in command_of after_word res_of resource_id given_of given_by last_color color_of dimen_given dimen_word unit_of rest_of escaped_text_of text_of
a_dimension = refl

pub a_dimension_below_0 : command_of (codes "res @1 dimen -1 px") ≡ Ok (Res 1 (Dimen 4294967040))
unfolding is_utf8 chars encode words natural_of integer_of within_of natural_within hex_digit_of hex_of id_of name_of change_named act_named verb_named command_by command_in command_of after_word res_of resource_id given_of given_by last_color color_of dimen_given dimen_word unit_of rest_of escaped_text_of text_of
a_dimension_below_0 = refl

pub the_greatest_dimension : command_of (codes "res @1 dimen 8388607 mm") ≡ Ok (Res 1 (Dimen 2147483397))
unfolding is_utf8 chars encode words natural_of integer_of within_of natural_within hex_digit_of hex_of id_of name_of change_named act_named verb_named command_by command_in command_of after_word res_of resource_id given_of given_by last_color color_of dimen_given dimen_word unit_of rest_of escaped_text_of text_of
the_greatest_dimension = refl

pub the_least_dimension : command_of (codes "res @1 dimen -8388607 sp") ≡ Ok (Res 1 (Dimen 2147483906))
unfolding is_utf8 chars encode words natural_of integer_of within_of natural_within hex_digit_of hex_of id_of name_of change_named act_named verb_named command_by command_in command_of after_word res_of resource_id given_of given_by last_color color_of dimen_given dimen_word unit_of rest_of escaped_text_of text_of
the_least_dimension = refl

pub too_great_a_dimension : command_of (codes "res @1 dimen 8388608 px") ≡ Err Range
unfolding is_utf8 chars encode words natural_of integer_of within_of natural_within hex_digit_of hex_of id_of name_of change_named act_named verb_named command_by command_in command_of after_word res_of resource_id given_of given_by last_color color_of dimen_given dimen_word unit_of rest_of escaped_text_of text_of
too_great_a_dimension = refl

pub an_unknown_unit_before_its_number : command_of (codes "res @1 dimen 8388608 dip") ≡ Err Syntax
unfolding is_utf8 chars encode words natural_of integer_of within_of natural_within hex_digit_of hex_of id_of name_of change_named act_named verb_named command_by command_in command_of after_word res_of resource_id given_of given_by last_color color_of dimen_given dimen_word unit_of rest_of escaped_text_of text_of
an_unknown_unit_before_its_number = refl

pub a_dimension_without_a_unit : command_of (codes "res @1 dimen 1") ≡ Err Syntax
unfolding is_utf8 chars encode words natural_of integer_of within_of natural_within hex_digit_of hex_of id_of name_of change_named act_named verb_named command_by command_in command_of after_word res_of resource_id given_of given_by last_color color_of dimen_given dimen_word unit_of rest_of escaped_text_of text_of
a_dimension_without_a_unit = refl

pub the_id_0 : command_of (codes "res @0 dimen 1 px") ≡ Err Range
unfolding is_utf8 chars encode words natural_of integer_of within_of natural_within hex_digit_of hex_of id_of name_of change_named act_named verb_named command_by command_in command_of after_word res_of resource_id given_of given_by last_color color_of dimen_given dimen_word unit_of rest_of escaped_text_of text_of
the_id_0 = refl

pub a_fault_after_the_id_0 : command_of (codes "res @0 dimen 1 x") ≡ Err Syntax
unfolding is_utf8 chars encode words natural_of integer_of within_of natural_within hex_digit_of hex_of id_of name_of change_named act_named verb_named command_by command_in command_of after_word res_of resource_id given_of given_by last_color color_of dimen_given dimen_word unit_of rest_of escaped_text_of text_of
a_fault_after_the_id_0 = refl

pub a_color : command_of (codes "res @1 color #80fF0000") ≡ Ok (Res 1 (Color (record { 0 = 2164195328 })))
unfolding is_utf8 chars encode words natural_of integer_of within_of natural_within hex_digit_of hex_of id_of name_of change_named act_named verb_named command_by command_in command_of after_word res_of resource_id given_of given_by last_color color_of dimen_given dimen_word unit_of rest_of escaped_text_of text_of
a_color = refl

pub six_digits_are_no_color : command_of (codes "res @1 color #80ff00") ≡ Err Syntax
unfolding is_utf8 chars encode words natural_of integer_of within_of natural_within hex_digit_of hex_of id_of name_of change_named act_named verb_named command_by command_in command_of after_word res_of resource_id given_of given_by last_color color_of dimen_given dimen_word unit_of rest_of escaped_text_of text_of
six_digits_are_no_color = refl

pub nine_digits_are_no_color : command_of (codes "res @1 color #080ff0000") ≡ Err Syntax
unfolding is_utf8 chars encode words natural_of integer_of within_of natural_within hex_digit_of hex_of id_of name_of change_named act_named verb_named command_by command_in command_of after_word res_of resource_id given_of given_by last_color color_of dimen_given dimen_word unit_of rest_of escaped_text_of text_of
nine_digits_are_no_color = refl

pub a_color_without_its_mark : command_of (codes "res @1 color 80ff0000") ≡ Err Syntax
unfolding is_utf8 chars encode words natural_of integer_of within_of natural_within hex_digit_of hex_of id_of name_of change_named act_named verb_named command_by command_in command_of after_word res_of resource_id given_of given_by last_color color_of dimen_given dimen_word unit_of rest_of escaped_text_of text_of
a_color_without_its_mark = refl

pub a_text : command_of (codes "res @1 text a b") ≡ Ok (Res 1 (Text (codes "a b")))
unfolding is_utf8 chars encode words natural_of integer_of within_of natural_within hex_digit_of hex_of id_of name_of change_named act_named verb_named command_by command_in command_of after_word res_of resource_id given_of given_by last_color color_of dimen_given dimen_word unit_of rest_of escaped_text_of text_of
a_text = refl

pub spaces_of_a_text : command_of (codes "res  @1  text  a ") ≡ Ok (Res 1 (Text (codes " a ")))
unfolding is_utf8 chars encode words natural_of integer_of within_of natural_within hex_digit_of hex_of id_of name_of change_named act_named verb_named command_by command_in command_of after_word res_of resource_id given_of given_by last_color color_of dimen_given dimen_word unit_of rest_of escaped_text_of text_of
spaces_of_a_text = refl

pub an_empty_text : command_of (codes "res @1 text ") ≡ Ok (Res 1 (Text []))
unfolding is_utf8 chars encode words natural_of integer_of within_of natural_within hex_digit_of hex_of id_of name_of change_named act_named verb_named command_by command_in command_of after_word res_of resource_id given_of given_by last_color color_of dimen_given dimen_word unit_of rest_of escaped_text_of text_of
an_empty_text = refl

pub a_text_without_its_space : command_of (codes "res @1 text") ≡ Err Syntax
unfolding is_utf8 chars encode words natural_of integer_of within_of natural_within hex_digit_of hex_of id_of name_of change_named act_named verb_named command_by command_in command_of after_word res_of resource_id given_of given_by last_color color_of dimen_given dimen_word unit_of rest_of escaped_text_of text_of
a_text_without_its_space = refl

pub escapes_are_as_written : command_of (codes "res @1 text a\\nb\\\\") ≡ Ok (Res 1 (Text (codes "a\\nb\\\\")))
unfolding is_utf8 chars encode words natural_of integer_of within_of natural_within hex_digit_of hex_of id_of name_of change_named act_named verb_named command_by command_in command_of after_word res_of resource_id given_of given_by last_color color_of dimen_given dimen_word unit_of rest_of escaped_text_of text_of
escapes_are_as_written = refl

pub an_unknown_escape : command_of (codes "res @0 text \\q") ≡ Err Syntax
unfolding is_utf8 chars encode words natural_of integer_of within_of natural_within hex_digit_of hex_of id_of name_of change_named act_named verb_named command_by command_in command_of after_word res_of resource_id given_of given_by last_color color_of dimen_given dimen_word unit_of rest_of escaped_text_of text_of
an_unknown_escape = refl

pub a_backslash_at_the_end : command_of (codes "res @1 text a\\") ≡ Err Syntax
unfolding is_utf8 chars encode words natural_of integer_of within_of natural_within hex_digit_of hex_of id_of name_of change_named act_named verb_named command_by command_in command_of after_word res_of resource_id given_of given_by last_color color_of dimen_given dimen_word unit_of rest_of escaped_text_of text_of
a_backslash_at_the_end = refl

pub a_resource_has_no_number : command_of (codes "res v1 text a") ≡ Err Syntax
unfolding is_utf8 chars encode words natural_of integer_of within_of natural_within hex_digit_of hex_of id_of name_of change_named act_named verb_named command_by command_in command_of after_word res_of resource_id given_of given_by last_color color_of dimen_given dimen_word unit_of rest_of escaped_text_of text_of
a_resource_has_no_number = refl

pub a_whole_tree : command_of (codes "inflate a.xml") ≡ Ok (Inflate (codes "a.xml") None)
unfolding is_utf8 chars encode words natural_of integer_of within_of natural_within hex_digit_of hex_of id_of name_of change_named act_named verb_named command_by command_in command_of after_word inflate_of into_of is_file_name
a_whole_tree = refl

pub a_tree_below_a_view : command_of (codes "inflate a.xml into v1") ≡ Ok (Inflate (codes "a.xml") (Some (Number 1)))
unfolding is_utf8 chars encode words natural_of integer_of within_of natural_within hex_digit_of hex_of id_of name_of change_named act_named verb_named command_by command_in command_of after_word inflate_of into_of is_file_name
a_tree_below_a_view = refl

pub a_tree_below_an_id : command_of (codes "inflate a.xml into @7f") ≡ Ok (Inflate (codes "a.xml") (Some (Id 127)))
unfolding is_utf8 chars encode words natural_of integer_of within_of natural_within hex_digit_of hex_of id_of name_of change_named act_named verb_named command_by command_in command_of after_word inflate_of into_of is_file_name
a_tree_below_an_id = refl

pub a_view_without_its_word : command_of (codes "inflate a.xml v1") ≡ Err Syntax
unfolding is_utf8 chars encode words natural_of integer_of within_of natural_within hex_digit_of hex_of id_of name_of change_named act_named verb_named command_by command_in command_of after_word inflate_of into_of is_file_name
a_view_without_its_word = refl

pub into_no_view : command_of (codes "inflate a.xml into") ≡ Err Syntax
unfolding is_utf8 chars encode words natural_of integer_of within_of natural_within hex_digit_of hex_of id_of name_of change_named act_named verb_named command_by command_in command_of after_word inflate_of into_of is_file_name
into_no_view = refl

pub a_name_that_begins_with_a_dot : command_of (codes "inflate .xml") ≡ Err Syntax
unfolding is_utf8 chars encode words natural_of integer_of within_of natural_within hex_digit_of hex_of id_of name_of change_named act_named verb_named command_by command_in command_of after_word inflate_of into_of is_file_name
a_name_that_begins_with_a_dot = refl

pub a_name_with_a_slash : command_of (codes "inflate a/b") ≡ Err Syntax
unfolding is_utf8 chars encode words natural_of integer_of within_of natural_within hex_digit_of hex_of id_of name_of change_named act_named verb_named command_by command_in command_of after_word inflate_of into_of is_file_name
a_name_with_a_slash = refl

pub no_name : command_of (codes "inflate") ≡ Err Syntax
unfolding is_utf8 chars encode words natural_of integer_of within_of natural_within hex_digit_of hex_of id_of name_of change_named act_named verb_named command_by command_in command_of after_word inflate_of into_of is_file_name
no_name = refl

pub a_name_of_64_bytes : is_file_name (codes "aaaaaaaaaaaaaaaaaaaaaaaaaaaaaaaaaaaaaaaaaaaaaaaaaaaaaaaaaaaaaaaa") ≡ true
unfolding is_file_name
a_name_of_64_bytes = refl

pub a_name_of_65_bytes : is_file_name (codes "aaaaaaaaaaaaaaaaaaaaaaaaaaaaaaaaaaaaaaaaaaaaaaaaaaaaaaaaaaaaaaaaa") ≡ false
unfolding is_file_name
a_name_of_65_bytes = refl

pub resolved_escapes : unescaped (codes "a\\nb\\\\c") ≡ 97 ∷ 10 ∷ 98 ∷ 92 ∷ 99 ∷ []
resolved_escapes = refl

pub a_backslash_before_an_n : unescaped (codes "\\\\n") ≡ 92 ∷ 110 ∷ []
a_backslash_before_an_n = refl
