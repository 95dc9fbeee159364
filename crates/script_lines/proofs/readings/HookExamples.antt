-- Lines of hooks.
use Rattle.std.proofs.Common.{◌≡◌, refl, [], ◌∷◌, ◌++◌}
use Rattle.std.specs.Prelude.{ℤ, codes, Ok, Err, false, true, pos, negsuc, is_some, None}
use Rattle.std.specs.List.{list_all}
use Rattle.std.specs.Str.{is_utf8, chars}
use lib.Utf8.{encode}
use Rattle.view_model.specs.declared.changes.Change.{Change}
use Rattle.view_model.specs.declared.changes.Change.TheVariants as change
use Rattle.view_model.specs.declared.placing.Across.TheVariants as across
use Rattle.view_model.specs.declared.placing.Down.TheVariants as down
use Rattle.script_lines.specs.commands.PlainCommands.{Hook}
use Rattle.script_lines.specs.declared.commands.Asked.{Asked}
use Rattle.line_words.specs.declared.fault.LineFault.TheVariants.{Syntax, Range}
use Rattle.line_words.specs.declared.words.naming.Name.{Name}
use Rattle.line_words.specs.declared.words.naming.Name.TheVariants.{Number, Id}
use Rattle.script_lines.specs.reading.Changes.{gravity_change_of, insets_of, kids_of, sides_of}
use Rattle.line_words.specs.words.Colors.{color_of, last_color}
use Rattle.script_lines.specs.reading.Commands.{command_by, command_in, command_of, hook_of}
use Rattle.line_words.specs.words.Dimensions.{dimension_of, extents_of}
use Rattle.line_words.specs.words.Gravities.{across_of, down_of, gravity_of, one_across, one_down, with_word, with_words}
use Rattle.script_lines.specs.reading.Hooks.{asked_of, edit_of, edits_of, joined, unmade_of}
use Rattle.script_lines.specs.reading.Verbs.{act_named, change_named, verb_named}
use Rattle.line_words.specs.words.Names.{hex_digit_of, hex_of, id_of, name_of}
use Rattle.line_words.specs.words.Numbers.{integer_of, natural_of, natural_within, pair_of, within_of}
use Rattle.line_words.specs.words.Weights.{last_number, weight_of}
use Rattle.line_words.specs.words.Words.{after_word, words}

abbrev ask : Name → Change → Asked
ask view change = record { view = view; change = change }

-- `size v1 1 N`
abbrev high : ℤ → Asked
high h = ask (Number 1) (change.Size (pos 1) h)

pub an_edit : command_of (codes "hook v3 size v2 40 match") ≡ Ok (Hook (Number 3) (ask (Number 2) (change.Size (pos 40) (negsuc 0)) ∷ []) false)
unfolding is_utf8 chars encode words natural_of integer_of within_of pair_of natural_within hex_digit_of hex_of id_of name_of dimension_of extents_of sides_of insets_of last_number weight_of across_of down_of one_across one_down with_word with_words gravity_of kids_of gravity_change_of color_of last_color asked_of unmade_of edit_of joined edits_of hook_of change_named act_named verb_named command_by command_in command_of after_word
an_edit = refl

pub two_edits : command_of (codes " hook  @a min v2 1 2  ; bg @b #ff000001 ") ≡ Ok (Hook (Id 10) (ask (Number 2) (change.Min (record { w = pos 1; h = pos 2 })) ∷ ask (Id 11) (change.Background (record { 0 = 4278190081 })) ∷ []) false)
unfolding is_utf8 chars encode words natural_of integer_of within_of pair_of natural_within hex_digit_of hex_of id_of name_of dimension_of extents_of sides_of insets_of last_number weight_of across_of down_of one_across one_down with_word with_words gravity_of kids_of gravity_change_of color_of last_color asked_of unmade_of edit_of joined edits_of hook_of change_named act_named verb_named command_by command_in command_of after_word
two_edits = refl

pub four_sides : command_of (codes "hook v1 margins v1 -1 0 1 2 ; padding v1 1 2 3 4") ≡ Ok (Hook (Number 1) (ask (Number 1) (change.Margins (record { left = negsuc 0; top = pos 0; right = pos 1; bottom = pos 2 })) ∷ ask (Number 1) (change.Padding (record { left = pos 1; top = pos 2; right = pos 3; bottom = pos 4 })) ∷ []) false)
unfolding is_utf8 chars encode words natural_of integer_of within_of pair_of natural_within hex_digit_of hex_of id_of name_of dimension_of extents_of sides_of insets_of last_number weight_of across_of down_of one_across one_down with_word with_words gravity_of kids_of gravity_change_of color_of last_color asked_of unmade_of edit_of joined edits_of hook_of change_named act_named verb_named command_by command_in command_of after_word
four_sides = refl

pub a_weight_and_gravities : command_of (codes "hook v1 weight v2 1 44 ; weight v2 1 ; gravity v2 self left|top ; gravity v1 kids center") ≡ Ok (Hook (Number 1) (ask (Number 2) (change.Weight 300) ∷ ask (Number 2) (change.Weight 256) ∷ ask (Number 2) (change.Gravity false (record { given = true; across = across.Left; down = down.Top })) ∷ ask (Number 1) (change.Gravity true (record { given = true; across = across.Center; down = down.Center })) ∷ []) false)
unfolding is_utf8 chars encode words natural_of integer_of within_of pair_of natural_within hex_digit_of hex_of id_of name_of dimension_of extents_of sides_of insets_of last_number weight_of across_of down_of one_across one_down with_word with_words gravity_of kids_of gravity_change_of color_of last_color asked_of unmade_of edit_of joined edits_of hook_of change_named act_named verb_named command_by command_in command_of after_word
a_weight_and_gravities = refl

pub a_view_of_any_number : command_of (codes "hook v9999999999 size v0 0 0") ≡ Ok (Hook (Number 9999999999) (ask (Number 0) (change.Size (pos 0) (pos 0)) ∷ []) false)
unfolding is_utf8 chars encode words natural_of integer_of within_of pair_of natural_within hex_digit_of hex_of id_of name_of dimension_of extents_of sides_of insets_of last_number weight_of across_of down_of one_across one_down with_word with_words gravity_of kids_of gravity_change_of color_of last_color asked_of unmade_of edit_of joined edits_of hook_of change_named act_named verb_named command_by command_in command_of after_word
a_view_of_any_number = refl

pub eight_edits : command_of (codes "hook v1 size v1 1 1 ; size v1 1 2 ; size v1 1 3 ; size v1 1 4 ; size v1 1 5 ; size v1 1 6 ; size v1 1 7 ; size v1 1 8") ≡ Ok (Hook (Number 1) (high (pos 1) ∷ high (pos 2) ∷ high (pos 3) ∷ high (pos 4) ∷ high (pos 5) ∷ high (pos 6) ∷ high (pos 7) ∷ high (pos 8) ∷ []) false)
unfolding is_utf8 chars encode words natural_of integer_of within_of pair_of natural_within hex_digit_of hex_of id_of name_of dimension_of extents_of sides_of insets_of last_number weight_of across_of down_of one_across one_down with_word with_words gravity_of kids_of gravity_change_of color_of last_color asked_of unmade_of edit_of joined edits_of hook_of change_named act_named verb_named command_by command_in command_of after_word
eight_edits = refl

pub a_ninth_edit : command_of (codes "hook v1 size v1 1 1 ; size v1 1 2 ; size v1 1 3 ; size v1 1 4 ; size v1 1 5 ; size v1 1 6 ; size v1 1 7 ; size v1 1 8 ; size v1 1 9") ≡ Ok (Hook (Number 1) (high (pos 1) ∷ high (pos 2) ∷ high (pos 3) ∷ high (pos 4) ∷ high (pos 5) ∷ high (pos 6) ∷ high (pos 7) ∷ high (pos 8) ∷ []) true)
unfolding is_utf8 chars encode words natural_of integer_of within_of pair_of natural_within hex_digit_of hex_of id_of name_of dimension_of extents_of sides_of insets_of last_number weight_of across_of down_of one_across one_down with_word with_words gravity_of kids_of gravity_change_of color_of last_color asked_of unmade_of edit_of joined edits_of hook_of change_named act_named verb_named command_by command_in command_of after_word
a_ninth_edit = refl

pub a_ninth_edit_is_not_read : command_of (codes "hook v1 size v1 1 1 ; size v1 1 2 ; size v1 1 3 ; size v1 1 4 ; size v1 1 5 ; size v1 1 6 ; size v1 1 7 ; size v1 1 8 ; size v1 -1 x") ≡ Ok (Hook (Number 1) (high (pos 1) ∷ high (pos 2) ∷ high (pos 3) ∷ high (pos 4) ∷ high (pos 5) ∷ high (pos 6) ∷ high (pos 7) ∷ high (pos 8) ∷ []) true)
unfolding is_utf8 chars encode words natural_of integer_of within_of pair_of natural_within hex_digit_of hex_of id_of name_of dimension_of extents_of sides_of insets_of last_number weight_of across_of down_of one_across one_down with_word with_words gravity_of kids_of gravity_change_of color_of last_color asked_of unmade_of edit_of joined edits_of hook_of change_named act_named verb_named command_by command_in command_of after_word
a_ninth_edit_is_not_read = refl

pub a_tenth_edit_is_not_read : command_of (codes "hook v1 size v1 1 1 ; size v1 1 2 ; size v1 1 3 ; size v1 1 4 ; size v1 1 5 ; size v1 1 6 ; size v1 1 7 ; size v1 1 8 ; size ; bounds x") ≡ Ok (Hook (Number 1) (high (pos 1) ∷ high (pos 2) ∷ high (pos 3) ∷ high (pos 4) ∷ high (pos 5) ∷ high (pos 6) ∷ high (pos 7) ∷ high (pos 8) ∷ []) true)
unfolding is_utf8 chars encode words natural_of integer_of within_of pair_of natural_within hex_digit_of hex_of id_of name_of dimension_of extents_of sides_of insets_of last_number weight_of across_of down_of one_across one_down with_word with_words gravity_of kids_of gravity_change_of color_of last_color asked_of unmade_of edit_of joined edits_of hook_of change_named act_named verb_named command_by command_in command_of after_word
a_tenth_edit_is_not_read = refl

pub a_ninth_edit_of_no_word : command_of (codes "hook v1 size v1 1 1 ; size v1 1 2 ; size v1 1 3 ; size v1 1 4 ; size v1 1 5 ; size v1 1 6 ; size v1 1 7 ; size v1 1 8 ;") ≡ Err Syntax
unfolding is_utf8 chars encode words natural_of integer_of within_of pair_of natural_within hex_digit_of hex_of id_of name_of dimension_of extents_of sides_of insets_of last_number weight_of across_of down_of one_across one_down with_word with_words gravity_of kids_of gravity_change_of color_of last_color asked_of unmade_of edit_of joined edits_of hook_of change_named act_named verb_named command_by command_in command_of after_word
a_ninth_edit_of_no_word = refl

pub a_ninth_edit_of_no_line : command_of (codes "hook v1 size v1 1 1 ; size v1 1 2 ; size v1 1 3 ; size v1 1 4 ; size v1 1 5 ; size v1 1 6 ; size v1 1 7 ; size v1 1 8 ; sizes v1 1 1") ≡ Err Syntax
unfolding is_utf8 chars encode words natural_of integer_of within_of pair_of natural_within hex_digit_of hex_of id_of name_of dimension_of extents_of sides_of insets_of last_number weight_of across_of down_of one_across one_down with_word with_words gravity_of kids_of gravity_change_of color_of last_color asked_of unmade_of edit_of joined edits_of hook_of change_named act_named verb_named command_by command_in command_of after_word
a_ninth_edit_of_no_line = refl

pub a_tenth_edit_of_no_word : command_of (codes "hook v1 size v1 1 1 ; size v1 1 2 ; size v1 1 3 ; size v1 1 4 ; size v1 1 5 ; size v1 1 6 ; size v1 1 7 ; size v1 1 8 ; size ; ; size") ≡ Err Syntax
unfolding is_utf8 chars encode words natural_of integer_of within_of pair_of natural_within hex_digit_of hex_of id_of name_of dimension_of extents_of sides_of insets_of last_number weight_of across_of down_of one_across one_down with_word with_words gravity_of kids_of gravity_change_of color_of last_color asked_of unmade_of edit_of joined edits_of hook_of change_named act_named verb_named command_by command_in command_of after_word
a_tenth_edit_of_no_word = refl

pub an_edit_of_another_line : command_of (codes "hook v1 frame") ≡ Ok (Hook (Number 1) [] true)
unfolding is_utf8 chars encode words natural_of integer_of within_of pair_of natural_within hex_digit_of hex_of id_of name_of dimension_of extents_of sides_of insets_of last_number weight_of across_of down_of one_across one_down with_word with_words gravity_of kids_of gravity_change_of color_of last_color asked_of unmade_of edit_of joined edits_of hook_of change_named act_named verb_named command_by command_in command_of after_word
an_edit_of_another_line = refl

pub an_edit_of_another_line_is_not_read : command_of (codes "hook v1 frame x y") ≡ Ok (Hook (Number 1) [] true)
unfolding is_utf8 chars encode words natural_of integer_of within_of pair_of natural_within hex_digit_of hex_of id_of name_of dimension_of extents_of sides_of insets_of last_number weight_of across_of down_of one_across one_down with_word with_words gravity_of kids_of gravity_change_of color_of last_color asked_of unmade_of edit_of joined edits_of hook_of change_named act_named verb_named command_by command_in command_of after_word
an_edit_of_another_line_is_not_read = refl

pub a_hook_in_a_hook : command_of (codes "hook v1 hook v2 size v2 1 1") ≡ Ok (Hook (Number 1) [] true)
unfolding is_utf8 chars encode words natural_of integer_of within_of pair_of natural_within hex_digit_of hex_of id_of name_of dimension_of extents_of sides_of insets_of last_number weight_of across_of down_of one_across one_down with_word with_words gravity_of kids_of gravity_change_of color_of last_color asked_of unmade_of edit_of joined edits_of hook_of change_named act_named verb_named command_by command_in command_of after_word
a_hook_in_a_hook = refl

pub a_text_in_a_hook : command_of (codes "hook v1 text v1 \\q") ≡ Ok (Hook (Number 1) [] true)
unfolding is_utf8 chars encode words natural_of integer_of within_of pair_of natural_within hex_digit_of hex_of id_of name_of dimension_of extents_of sides_of insets_of last_number weight_of across_of down_of one_across one_down with_word with_words gravity_of kids_of gravity_change_of color_of last_color asked_of unmade_of edit_of joined edits_of hook_of change_named act_named verb_named command_by command_in command_of after_word
a_text_in_a_hook = refl

pub a_text_ends_at_the_next_edit : command_of (codes "hook v1 text v1 a ; b") ≡ Err Syntax
unfolding is_utf8 chars encode words natural_of integer_of within_of pair_of natural_within hex_digit_of hex_of id_of name_of dimension_of extents_of sides_of insets_of last_number weight_of across_of down_of one_across one_down with_word with_words gravity_of kids_of gravity_change_of color_of last_color asked_of unmade_of edit_of joined edits_of hook_of change_named act_named verb_named command_by command_in command_of after_word
a_text_ends_at_the_next_edit = refl

pub an_edit_of_another_line_counts : command_of (codes "hook v1 frame ; size v1 1 1 ; size v1 1 2 ; size v1 1 3 ; size v1 1 4 ; size v1 1 5 ; size v1 1 6 ; size v1 1 7 ; size v1 1 8") ≡ Ok (Hook (Number 1) (high (pos 1) ∷ high (pos 2) ∷ high (pos 3) ∷ high (pos 4) ∷ high (pos 5) ∷ high (pos 6) ∷ high (pos 7) ∷ []) true)
unfolding is_utf8 chars encode words natural_of integer_of within_of pair_of natural_within hex_digit_of hex_of id_of name_of dimension_of extents_of sides_of insets_of last_number weight_of across_of down_of one_across one_down with_word with_words gravity_of kids_of gravity_change_of color_of last_color asked_of unmade_of edit_of joined edits_of hook_of change_named act_named verb_named command_by command_in command_of after_word
an_edit_of_another_line_counts = refl

pub an_edit_after_one_of_another_line : command_of (codes "hook v1 size v1 1 1 ; visible v1 gone ; size v1 1 2") ≡ Ok (Hook (Number 1) (high (pos 1) ∷ high (pos 2) ∷ []) true)
unfolding is_utf8 chars encode words natural_of integer_of within_of pair_of natural_within hex_digit_of hex_of id_of name_of dimension_of extents_of sides_of insets_of last_number weight_of across_of down_of one_across one_down with_word with_words gravity_of kids_of gravity_change_of color_of last_color asked_of unmade_of edit_of joined edits_of hook_of change_named act_named verb_named command_by command_in command_of after_word
an_edit_after_one_of_another_line = refl

pub range_after_an_edit_of_another_line : command_of (codes "hook v1 frame x y ; size v1 -1 1") ≡ Err Range
unfolding is_utf8 chars encode words natural_of integer_of within_of pair_of natural_within hex_digit_of hex_of id_of name_of dimension_of extents_of sides_of insets_of last_number weight_of across_of down_of one_across one_down with_word with_words gravity_of kids_of gravity_change_of color_of last_color asked_of unmade_of edit_of joined edits_of hook_of change_named act_named verb_named command_by command_in command_of after_word
range_after_an_edit_of_another_line = refl

pub range_before_an_edit_of_another_line : command_of (codes "hook v1 size v1 -1 1 ; frame") ≡ Err Range
unfolding is_utf8 chars encode words natural_of integer_of within_of pair_of natural_within hex_digit_of hex_of id_of name_of dimension_of extents_of sides_of insets_of last_number weight_of across_of down_of one_across one_down with_word with_words gravity_of kids_of gravity_change_of color_of last_color asked_of unmade_of edit_of joined edits_of hook_of change_named act_named verb_named command_by command_in command_of after_word
range_before_an_edit_of_another_line = refl

pub range_in_an_eighth_edit : command_of (codes "hook v1 size v1 1 1 ; size v1 1 2 ; size v1 1 3 ; size v1 1 4 ; size v1 1 5 ; size v1 1 6 ; size v1 1 7 ; size v1 1 16777216") ≡ Err Range
unfolding is_utf8 chars encode words natural_of integer_of within_of pair_of natural_within hex_digit_of hex_of id_of name_of dimension_of extents_of sides_of insets_of last_number weight_of across_of down_of one_across one_down with_word with_words gravity_of kids_of gravity_change_of color_of last_color asked_of unmade_of edit_of joined edits_of hook_of change_named act_named verb_named command_by command_in command_of after_word
range_in_an_eighth_edit = refl

pub a_weight_that_is_too_large : command_of (codes "hook v1 weight v1 65535 1") ≡ Err Range
unfolding is_utf8 chars encode words natural_of integer_of within_of pair_of natural_within hex_digit_of hex_of id_of name_of dimension_of extents_of sides_of insets_of last_number weight_of across_of down_of one_across one_down with_word with_words gravity_of kids_of gravity_change_of color_of last_color asked_of unmade_of edit_of joined edits_of hook_of change_named act_named verb_named command_by command_in command_of after_word
a_weight_that_is_too_large = refl

pub syntax_after_range : command_of (codes "hook v1 size v1 -1 1 ; size v1 1") ≡ Err Syntax
unfolding is_utf8 chars encode words natural_of integer_of within_of pair_of natural_within hex_digit_of hex_of id_of name_of dimension_of extents_of sides_of insets_of last_number weight_of across_of down_of one_across one_down with_word with_words gravity_of kids_of gravity_change_of color_of last_color asked_of unmade_of edit_of joined edits_of hook_of change_named act_named verb_named command_by command_in command_of after_word
syntax_after_range = refl

pub syntax_of_a_word_after_range : command_of (codes "hook v1 size v1 -1 1 ; frames") ≡ Err Syntax
unfolding is_utf8 chars encode words natural_of integer_of within_of pair_of natural_within hex_digit_of hex_of id_of name_of dimension_of extents_of sides_of insets_of last_number weight_of across_of down_of one_across one_down with_word with_words gravity_of kids_of gravity_change_of color_of last_color asked_of unmade_of edit_of joined edits_of hook_of change_named act_named verb_named command_by command_in command_of after_word
syntax_of_a_word_after_range = refl

pub no_edit_after_range : command_of (codes "hook v1 size v1 -1 1 ;") ≡ Err Syntax
unfolding is_utf8 chars encode words natural_of integer_of within_of pair_of natural_within hex_digit_of hex_of id_of name_of dimension_of extents_of sides_of insets_of last_number weight_of across_of down_of one_across one_down with_word with_words gravity_of kids_of gravity_change_of color_of last_color asked_of unmade_of edit_of joined edits_of hook_of change_named act_named verb_named command_by command_in command_of after_word
no_edit_after_range = refl

pub syntax_of_a_ninth_edit_after_range : command_of (codes "hook v1 size v1 1 -1 ; size v1 1 1 ; size v1 1 2 ; size v1 1 3 ; size v1 1 4 ; size v1 1 5 ; size v1 1 6 ; size v1 1 7 ; size v1 1 8 ; in") ≡ Err Syntax
unfolding is_utf8 chars encode words natural_of integer_of within_of pair_of natural_within hex_digit_of hex_of id_of name_of dimension_of extents_of sides_of insets_of last_number weight_of across_of down_of one_across one_down with_word with_words gravity_of kids_of gravity_change_of color_of last_color asked_of unmade_of edit_of joined edits_of hook_of change_named act_named verb_named command_by command_in command_of after_word
syntax_of_a_ninth_edit_after_range = refl

pub syntax_before_range : command_of (codes "hook v1 bg v1 red ; size v1 -1 1") ≡ Err Syntax
unfolding is_utf8 chars encode words natural_of integer_of within_of pair_of natural_within hex_digit_of hex_of id_of name_of dimension_of extents_of sides_of insets_of last_number weight_of across_of down_of one_across one_down with_word with_words gravity_of kids_of gravity_change_of color_of last_color asked_of unmade_of edit_of joined edits_of hook_of change_named act_named verb_named command_by command_in command_of after_word
syntax_before_range = refl

pub no_view : command_of (codes "hook") ≡ Err Syntax
unfolding is_utf8 chars encode words natural_of integer_of within_of pair_of natural_within hex_digit_of hex_of id_of name_of dimension_of extents_of sides_of insets_of last_number weight_of across_of down_of one_across one_down with_word with_words gravity_of kids_of gravity_change_of color_of last_color asked_of unmade_of edit_of joined edits_of hook_of change_named act_named verb_named command_by command_in command_of after_word
no_view = refl

pub no_edit : command_of (codes "hook v1") ≡ Err Syntax
unfolding is_utf8 chars encode words natural_of integer_of within_of pair_of natural_within hex_digit_of hex_of id_of name_of dimension_of extents_of sides_of insets_of last_number weight_of across_of down_of one_across one_down with_word with_words gravity_of kids_of gravity_change_of color_of last_color asked_of unmade_of edit_of joined edits_of hook_of change_named act_named verb_named command_by command_in command_of after_word
no_edit = refl

pub no_words_of_an_edit : command_of (codes "hook v1 ;") ≡ Err Syntax
unfolding is_utf8 chars encode words natural_of integer_of within_of pair_of natural_within hex_digit_of hex_of id_of name_of dimension_of extents_of sides_of insets_of last_number weight_of across_of down_of one_across one_down with_word with_words gravity_of kids_of gravity_change_of color_of last_color asked_of unmade_of edit_of joined edits_of hook_of change_named act_named verb_named command_by command_in command_of after_word
no_words_of_an_edit = refl

pub no_words_of_two_edits : command_of (codes "hook v1 ; ;") ≡ Err Syntax
unfolding is_utf8 chars encode words natural_of integer_of within_of pair_of natural_within hex_digit_of hex_of id_of name_of dimension_of extents_of sides_of insets_of last_number weight_of across_of down_of one_across one_down with_word with_words gravity_of kids_of gravity_change_of color_of last_color asked_of unmade_of edit_of joined edits_of hook_of change_named act_named verb_named command_by command_in command_of after_word
no_words_of_two_edits = refl

pub no_first_edit : command_of (codes "hook v1 ; frame") ≡ Err Syntax
unfolding is_utf8 chars encode words natural_of integer_of within_of pair_of natural_within hex_digit_of hex_of id_of name_of dimension_of extents_of sides_of insets_of last_number weight_of across_of down_of one_across one_down with_word with_words gravity_of kids_of gravity_change_of color_of last_color asked_of unmade_of edit_of joined edits_of hook_of change_named act_named verb_named command_by command_in command_of after_word
no_first_edit = refl

pub no_last_edit : command_of (codes "hook v1 frame ;") ≡ Err Syntax
unfolding is_utf8 chars encode words natural_of integer_of within_of pair_of natural_within hex_digit_of hex_of id_of name_of dimension_of extents_of sides_of insets_of last_number weight_of across_of down_of one_across one_down with_word with_words gravity_of kids_of gravity_change_of color_of last_color asked_of unmade_of edit_of joined edits_of hook_of change_named act_named verb_named command_by command_in command_of after_word
no_last_edit = refl

pub no_edit_in_between : command_of (codes "hook v1 frame ; ; frame") ≡ Err Syntax
unfolding is_utf8 chars encode words natural_of integer_of within_of pair_of natural_within hex_digit_of hex_of id_of name_of dimension_of extents_of sides_of insets_of last_number weight_of across_of down_of one_across one_down with_word with_words gravity_of kids_of gravity_change_of color_of last_color asked_of unmade_of edit_of joined edits_of hook_of change_named act_named verb_named command_by command_in command_of after_word
no_edit_in_between = refl

pub a_hook_of_no_view : command_of (codes "hook size v1 1 1") ≡ Err Syntax
unfolding is_utf8 chars encode words natural_of integer_of within_of pair_of natural_within hex_digit_of hex_of id_of name_of dimension_of extents_of sides_of insets_of last_number weight_of across_of down_of one_across one_down with_word with_words gravity_of kids_of gravity_change_of color_of last_color asked_of unmade_of edit_of joined edits_of hook_of change_named act_named verb_named command_by command_in command_of after_word
a_hook_of_no_view = refl

pub an_edit_of_no_view : command_of (codes "hook v1 size 1 1") ≡ Err Syntax
unfolding is_utf8 chars encode words natural_of integer_of within_of pair_of natural_within hex_digit_of hex_of id_of name_of dimension_of extents_of sides_of insets_of last_number weight_of across_of down_of one_across one_down with_word with_words gravity_of kids_of gravity_change_of color_of last_color asked_of unmade_of edit_of joined edits_of hook_of change_named act_named verb_named command_by command_in command_of after_word
an_edit_of_no_view = refl

pub an_edit_with_a_word_too_many : command_of (codes "hook v1 size v1 1 1 1") ≡ Err Syntax
unfolding is_utf8 chars encode words natural_of integer_of within_of pair_of natural_within hex_digit_of hex_of id_of name_of dimension_of extents_of sides_of insets_of last_number weight_of across_of down_of one_across one_down with_word with_words gravity_of kids_of gravity_change_of color_of last_color asked_of unmade_of edit_of joined edits_of hook_of change_named act_named verb_named command_by command_in command_of after_word
an_edit_with_a_word_too_many = refl

pub a_separator_in_a_word : command_of (codes "hook v1 size v1 1 1; frame") ≡ Err Syntax
unfolding is_utf8 chars encode words natural_of integer_of within_of pair_of natural_within hex_digit_of hex_of id_of name_of dimension_of extents_of sides_of insets_of last_number weight_of across_of down_of one_across one_down with_word with_words gravity_of kids_of gravity_change_of color_of last_color asked_of unmade_of edit_of joined edits_of hook_of change_named act_named verb_named command_by command_in command_of after_word
a_separator_in_a_word = refl

pub a_separator_before_a_word : command_of (codes "hook v1 frame ;size v1 1 1") ≡ Ok (Hook (Number 1) [] true)
unfolding is_utf8 chars encode words natural_of integer_of within_of pair_of natural_within hex_digit_of hex_of id_of name_of dimension_of extents_of sides_of insets_of last_number weight_of across_of down_of one_across one_down with_word with_words gravity_of kids_of gravity_change_of color_of last_color asked_of unmade_of edit_of joined edits_of hook_of change_named act_named verb_named command_by command_in command_of after_word
a_separator_before_a_word = refl

pub two_separators_in_a_word : command_of (codes "hook v1 frame ;; frame") ≡ Ok (Hook (Number 1) [] true)
unfolding is_utf8 chars encode words natural_of integer_of within_of pair_of natural_within hex_digit_of hex_of id_of name_of dimension_of extents_of sides_of insets_of last_number weight_of across_of down_of one_across one_down with_word with_words gravity_of kids_of gravity_change_of color_of last_color asked_of unmade_of edit_of joined edits_of hook_of change_named act_named verb_named command_by command_in command_of after_word
two_separators_in_a_word = refl

pub a_direction_is_no_edit : command_of (codes "hook v1 direction v1 ltr") ≡ Ok (Hook (Number 1) [] true)
unfolding is_utf8 chars encode words natural_of integer_of within_of pair_of natural_within hex_digit_of hex_of id_of name_of dimension_of extents_of sides_of insets_of last_number weight_of across_of down_of one_across one_down with_word with_words gravity_of kids_of gravity_change_of color_of last_color asked_of unmade_of edit_of joined edits_of hook_of change_named act_named verb_named command_by command_in command_of after_word
a_direction_is_no_edit = refl

pub directions_are_no_line : command_of (codes "hook v1 directions v1 ltr") ≡ Err Syntax
unfolding is_utf8 chars encode words natural_of integer_of within_of pair_of natural_within hex_digit_of hex_of id_of name_of dimension_of extents_of sides_of insets_of last_number weight_of across_of down_of one_across one_down with_word with_words gravity_of kids_of gravity_change_of color_of last_color asked_of unmade_of edit_of joined edits_of hook_of change_named act_named verb_named command_by command_in command_of after_word
directions_are_no_line = refl

pub an_edit_by_a_capital_letter : command_of (codes "hook v1 Size v1 1 1") ≡ Err Syntax
unfolding is_utf8 chars encode words natural_of integer_of within_of pair_of natural_within hex_digit_of hex_of id_of name_of dimension_of extents_of sides_of insets_of last_number weight_of across_of down_of one_across one_down with_word with_words gravity_of kids_of gravity_change_of color_of last_color asked_of unmade_of edit_of joined edits_of hook_of change_named act_named verb_named command_by command_in command_of after_word
an_edit_by_a_capital_letter = refl

pub bytes_that_are_no_text : command_of (codes "hook v1 frame " ++ 255 ∷ []) ≡ Err Syntax
unfolding is_utf8 chars encode words natural_of integer_of within_of pair_of natural_within hex_digit_of hex_of id_of name_of dimension_of extents_of sides_of insets_of last_number weight_of across_of down_of one_across one_down with_word with_words gravity_of kids_of gravity_change_of color_of last_color asked_of unmade_of edit_of joined edits_of hook_of change_named act_named verb_named command_by command_in command_of after_word
bytes_that_are_no_text = refl

-- the first words of all lines
pub words_that_begin_lines : list_all (λ word. is_some (verb_named word)) (codes "window" ∷ codes "dpi" ∷ codes "res" ∷ codes "inflate" ∷ codes "add" ∷ codes "remove" ∷ codes "size" ∷ codes "min" ∷ codes "margins" ∷ codes "padding" ∷ codes "weight" ∷ codes "weightsum" ∷ codes "gravity" ∷ codes "orient" ∷ codes "direction" ∷ codes "flag" ∷ codes "visible" ∷ codes "bg" ∷ codes "ink" ∷ codes "text" ∷ codes "id" ∷ codes "rule" ∷ codes "answer" ∷ codes "intercept" ∷ codes "disallow" ∷ codes "hook" ∷ codes "scroll" ∷ codes "down" ∷ codes "move" ∷ codes "up" ∷ codes "cancel" ∷ codes "frame" ∷ codes "bounds" ∷ codes "pixels" ∷ codes "digest" ∷ codes "save" ∷ codes "restore" ∷ []) ≡ true
unfolding verb_named act_named change_named
words_that_begin_lines = refl

-- words with which no line begins
pub no_line_begins-1 : verb_named (codes "directions") ≡ None
unfolding verb_named act_named change_named
no_line_begins-1 = refl

pub no_line_begins-2 : verb_named (codes "in") ≡ None
unfolding verb_named act_named change_named
no_line_begins-2 = refl

pub no_line_begins-3 : verb_named (codes "compose") ≡ None
unfolding verb_named act_named change_named
no_line_begins-3 = refl

pub no_line_begins-4 : verb_named (codes "lookup") ≡ None
unfolding verb_named act_named change_named
no_line_begins-4 = refl

pub no_line_begins-5 : verb_named (codes ";") ≡ None
unfolding verb_named act_named change_named
no_line_begins-5 = refl
