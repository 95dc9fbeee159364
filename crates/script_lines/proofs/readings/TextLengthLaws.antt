-- The text of a command is no longer than its line.
use Rattle.std.proofs.Common.{ℕ, ◌≤◌, Bool, List, [], ◌∷◌, length, arith}
use Rattle.std.specs.Prelude.{ℤ, pos, codes, if◌then◌else◌, IfOk, Ok, Err}
use Rattle.std.specs.Str.{bytes_eq, is_utf8}
use Rattle.script_lines.specs.reading.Changes.{act_by}
use Rattle.script_lines.specs.reading.Commands.{add_of, bounds_of, command_by, command_in, command_of, digest_of, dpi_of, disallow_of, frame_of, inflate_of, into_of, remove_of, set_of, set_text_of, hook_of}
use Rattle.line_words.specs.words.Dimensions.{extents_of}
use Rattle.line_words.specs.words.Escapes.{rest_of}
use Rattle.view_model.specs.Classes.{class_named}
use Rattle.line_words.specs.words.FileNames.{file_name_in}
use Rattle.script_lines.specs.reading.Hooks.{edits_of}
use Rattle.line_words.specs.words.Words.{after_word, end_of, on_of, word_in, words}
use Rattle.line_words.specs.words.Names.{id_in, known, name_in, parent_in}
use Rattle.line_words.specs.words.Numbers.{integer_in, natural_within, pair_of, within_of}
use Rattle.script_lines.specs.commands.PlainCommands.{PlainCommand, PlainGiven, Window, Dpi, Inflate, Act, SetText, Hook, Down, Move, Up, Text, Color, given_text_length, text_length}
use Rattle.line_words.specs.words.Colors.{last_color}
use Rattle.script_lines.specs.reading.Pixels.{is_small, part_of, pixels_of}
use Rattle.script_lines.specs.reading.Resources.{dimen_given, given_by, given_of, res_of, resource_id, unit_of}
use Rattle.script_lines.specs.reading.States.{is_state_text, restore_of, save_of, state_text_of}
use Rattle.script_lines.specs.reading.Touches.{cancel_of, pointer_of, touch_of, up_of}
use Rattle.script_lines.specs.reading.Verbs.{verb_named}
use Rattle.script_lines.specs.declared.commands.Asked.{Asked}
use Rattle.script_lines.specs.Numbers.{max_dpi, max_mantissa, max_point, max_window, min_dpi, min_mantissa}
use Rattle.line_words.specs.declared.fault.LineFault.TheVariants.{Syntax}
use Rattle.script_lines.specs.declared.reading.touches.Touch.{Touch}
use Rattle.script_lines.specs.declared.verbs.ActVerb.{ActVerb}
use Rattle.script_lines.specs.declared.verbs.Verb.{Verb}
use Rattle.script_lines.specs.declared.verbs.Verb.TheVariants as verb
use Rattle.line_words.proofs.texts.OkLaws.{if_either, if_map, if_map_with, if_ok_more, if_then, if_then_with}
use Rattle.line_words.proofs.texts.LengthLaws.{after_word-short, rest_of-short, FirstShort, words-first_short}

abbrev GivenShort : ℕ → PlainGiven → Type 0
GivenShort n value = given_text_length value ≤ n

none_short : (n : ℕ) → 0 ≤ n
none_short n = omega arith

given_by-short : (kind rest : List ℕ) → IfOk (given_by kind rest) (GivenShort (length rest))
unfolding given_by last_color dimen_given
given_by-short kind rest =
    let P = GivenShort (length rest) in
    if_either P (bytes_eq kind (codes "color")) _ _ (if_map P Color (last_color (words rest)) (λ _. none_short (length rest)))
    (if_either P (bytes_eq kind (codes "dimen")) _ _
    (if_then P (integer_in (words rest)) _ (λ n. if_then P (word_in n.1) _ (λ u. if_then P (unit_of u.0) _ (λ unit. if_then P (end_of u.1) _
    (λ _. if_then P (within_of min_mantissa max_mantissa n.0) _ (λ _. none_short (length rest)))))))
    (if_either P (bytes_eq kind (codes "text")) _ _ (if_map_with (λ text. length text ≤ length rest) P Text (rest_of rest) (rest_of-short rest) (λ text h. h)) tt))

given_of-short : (rest : List ℕ) → IfOk (given_of rest) (GivenShort (length (after_word rest)))
unfolding given_of
given_of-short rest = if_then (GivenShort (length (after_word rest))) (word_in (words rest)) _ (λ kind. given_by-short kind.0 (after_word rest))

abbrev Short : ℕ → PlainCommand → Type 0
Short n command = text_length command ≤ n

res_of-short : (rest : List ℕ) → IfOk (res_of rest) (Short (length rest))
unfolding res_of
res_of-short rest =
    let P = Short (length rest) in
    if_then P (id_in (words rest)) _ (λ id.
    if_then_with (GivenShort (length (after_word (after_word rest)))) P (given_of (after_word rest)) _ (given_of-short (after_word rest)) (λ value h.
    if_then P (resource_id id.0) _ (λ _. omega (arith, h, after_word-short rest, after_word-short (after_word rest)))))

set_text_of-short : (rest : List ℕ) → IfOk (set_text_of rest) (Short (length rest))
unfolding set_text_of
set_text_of-short rest =
    let P = Short (length rest) in
    if_then P (name_in (words rest)) _ (λ view.
    if_map_with (λ text. length text ≤ length (after_word rest)) P (SetText view.0) (rest_of (after_word rest)) (rest_of-short (after_word rest)) (λ text h. omega (arith, h, after_word-short rest)))

bounds_of-short : (n : ℕ) (words : List (List ℕ)) → IfOk (bounds_of words) (Short n)
unfolding bounds_of
bounds_of-short n [] = none_short n
bounds_of-short n (word ∷ words) = if_then (Short n) (name_in (word ∷ words)) _ (λ view. if_then (Short n) (end_of view.1) _ (λ _. none_short n))

set_of-short : (n : ℕ) (verb : ActVerb) (words : List (List ℕ)) → IfOk (set_of verb words) (Short n)
unfolding set_of
set_of-short n verb words = if_then (Short n) (name_in words) _ (λ view. if_map (Short n) (Act view.0) (act_by verb view.1) (λ _. none_short n))

pixels_of-short : (n : ℕ) (words : List (List ℕ)) → IfOk (pixels_of words) (Short n)
unfolding pixels_of part_of
pixels_of-short n words =
    let P = Short n in
    if_then P (integer_in words) _ (λ x. if_then P (integer_in x.1) _ (λ y. if_then P (integer_in y.1) _ (λ w. if_then P (integer_in w.1) _ (λ h. if_then P (end_of h.1) _ (λ _.
    if_then P (within_of (pos 0) max_point x.0) _ (λ left. if_then P (within_of (pos 0) max_point y.0) _ (λ top.
    if_then P (within_of (pos 1) max_window w.0) _ (λ width. if_then P (within_of (pos 1) max_window h.0) _ (λ height.
    if_either P (is_small width height) _ _ (none_short n) tt)))))))))

restore_of-short : (n : ℕ) (words : List (List ℕ)) → FirstShort n words → IfOk (restore_of words) (Short n)
unfolding restore_of state_text_of
restore_of-short n [] first = none_short n
restore_of-short n (word ∷ words) first =
    let Q = λ (text : List ℕ). length text ≤ n in
    if_then_with Q (Short n) (if is_state_text word then Ok word else Err Syntax) _ (if_either Q (is_state_text word) _ _ first tt)
    (λ text short. if_then (Short n) (end_of words) _ (λ _. short))

command_by-short : (verb : Verb) (rest : List ℕ) → IfOk (command_by verb rest) (Short (length rest))
unfolding command_by dpi_of inflate_of add_of remove_of frame_of digest_of hook_of save_of up_of cancel_of disallow_of
command_by-short verb.Window rest = if_map (Short (length rest)) (λ (pair : ℤ × ℤ). Window pair.0 pair.1) (pair_of (pos 1) max_window (words rest)) (λ _. none_short (length rest))
command_by-short verb.Dpi rest =
    let P = Short (length rest) in
    if_then P (integer_in (words rest)) _ (λ dpi. if_then P (end_of dpi.1) _ (λ _. if_map P Dpi (natural_within min_dpi max_dpi dpi.0) (λ _. none_short (length rest))))
command_by-short verb.Res rest = res_of-short rest
command_by-short verb.Inflate rest =
    let P = Short (length rest) in
    if_then P (file_name_in (words rest)) _ (λ name. if_map P (Inflate name.0) (into_of name.1) (λ _. none_short (length rest)))
command_by-short verb.Add rest =
    let P = Short (length rest) in
    if_then P (parent_in (words rest)) _ (λ parent. if_then P (word_in parent.1) _ (λ c. if_then P (known (class_named c.0)) _ (λ class. if_map P _ (extents_of c.1) (λ _. none_short (length rest)))))
command_by-short verb.Remove rest =
    let P = Short (length rest) in
    if_then P (name_in (words rest)) _ (λ view. if_then P (end_of view.1) _ (λ _. none_short (length rest)))
command_by-short (verb.Act act) rest = set_of-short (length rest) act (words rest)
command_by-short verb.Text rest = set_text_of-short rest
command_by-short verb.Disallow rest =
    let P = Short (length rest) in
    if_then P (name_in (words rest)) _ (λ view. if_then P (word_in view.1) _ (λ b. if_then P (on_of b.0) _ (λ on. if_then P (end_of b.1) _ (λ _. none_short (length rest)))))
command_by-short verb.Hook rest =
    let P = Short (length rest) in
    if_then P (name_in (words rest)) _ (λ view. if_map P (λ (edits : List Asked × Bool). Hook view.0 edits.0 edits.1) (edits_of view.1) (λ _. none_short (length rest)))
command_by-short verb.Down rest = if_map (Short (length rest)) (λ (touch : Touch). Down touch.pointer touch.x touch.y) (touch_of (words rest)) (λ _. none_short (length rest))
command_by-short verb.Move rest = if_map (Short (length rest)) (λ (touch : Touch). Move touch.pointer touch.x touch.y) (touch_of (words rest)) (λ _. none_short (length rest))
command_by-short verb.Up rest =
    let P = Short (length rest) in
    if_then P (integer_in (words rest)) _ (λ p. if_then P (end_of p.1) _ (λ _. if_map P Up (pointer_of p.0) (λ _. none_short (length rest))))
command_by-short verb.Cancel rest = if_then (Short (length rest)) (end_of (words rest)) _ (λ _. none_short (length rest))
command_by-short verb.Frame rest = if_then (Short (length rest)) (end_of (words rest)) _ (λ _. none_short (length rest))
command_by-short verb.Bounds rest = bounds_of-short (length rest) (words rest)
command_by-short verb.Pixels rest = pixels_of-short (length rest) (words rest)
command_by-short verb.Digest rest = if_then (Short (length rest)) (end_of (words rest)) _ (λ _. none_short (length rest))
command_by-short verb.Save rest = if_then (Short (length rest)) (end_of (words rest)) _ (λ _. none_short (length rest))
command_by-short verb.Restore rest = restore_of-short (length rest) (words rest) (words-first_short rest)

pub command_of-short : (line : List ℕ) → IfOk (command_of line) (Short (length line))
unfolding command_of command_in
command_of-short line =
    let P = Short (length line) in
    let rest = after_word line in
    if_either P (is_utf8 line) _ _ (if_then P (word_in (words line)) _ (λ head. if_then P (known (verb_named head.0)) _ (λ verb.
    if_ok_more (Short (length rest)) P (command_by verb rest) (command_by-short verb rest) (λ c h. omega (arith, h, after_word-short line))))) tt
