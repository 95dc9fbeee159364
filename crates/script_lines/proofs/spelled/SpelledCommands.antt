-- Commands, read from their texts.
use Rattle.std.proofs.Common.{◌≡◌, ℕ, ◌<◌, ◌≤◌, ◌^◌, Bool, true, false, refl, ◌∙◌, [], ◌∷◌, arith}
use Rattle.std.specs.Prelude.{if◌then◌else◌, ℤ, pos, codes, Some, None, Ok, ◌*ℤ◌, ◌≤ℤ◌}
use Rattle.std.specs.Fmt.{decimal, signed_decimal}
use Rattle.std.proofs.lemmas.Int.{ints}
use Rattle.view_model.proofs.ClassLaws.{class_named-word}
use Rattle.view_model.specs.Classes.{class_word}
use Rattle.view_model.specs.Numbers.{max_size}
use Rattle.view_model.specs.declared.changes.Act.{Act}
use Rattle.view_model.specs.declared.changes.Act.TheVariants as act
use Rattle.view_model.specs.declared.changes.Flag.{Flag}
use Rattle.view_model.specs.declared.changes.Flag.TheVariants as flag
use Rattle.view_model.specs.declared.answer.Answer.{Answer}
use Rattle.view_model.specs.declared.answer.Answer.TheVariants as answer
use Rattle.view_model.specs.declared.class.Class.{Class}
use Rattle.view_model.specs.declared.class.Class.TheVariants as class
use Rattle.view_model.specs.declared.visibility.Visibility.{Visibility}
use Rattle.view_model.specs.declared.visibility.Visibility.TheVariants as visibility
use Rattle.view_model.specs.declared.placing.Direction.{Direction}
use Rattle.view_model.specs.declared.placing.Direction.TheVariants.{Inherit, Ltr, Rtl}
use Rattle.script_lines.specs.reading.Changes.{IsActInBounds, act_by, answer_named, answer_of, direction_named, direction_of, flag_named, flag_of, new_id_of, orient_of, scroll_of, vertical_of, visibility_of, visible_of}
use Rattle.script_lines.specs.reading.Commands.{IsInBounds, add_of, bounds_of, command_by, command_of, digest_of, disallow_of, dpi_of, frame_of, inflate_of, into_of, remove_of, set_of, hook_of}
use Rattle.line_words.specs.words.Numbers.{IsWithin}
use Rattle.script_lines.specs.reading.Pixels.{IsPart, is_small, part_of, pixels_of}
use Rattle.script_lines.specs.reading.Rules.{rule_of}
use Rattle.script_lines.specs.commands.Spelled.{ActHasLine, HasLine, act_head, act_verb_of, act_words, edits_words, event_answer_text, flag_text, hook_edits, spelled, touch_words, visibility_text, direction_text}
use Rattle.line_words.specs.Spelled.{extent_text, name_text, on_text, parent_text}
use Rattle.script_lines.specs.reading.States.{restore_of, save_of}
use Rattle.script_lines.specs.reading.Touches.{cancel_of, up_of}
use Rattle.line_words.specs.words.Words.{on_of}
use Rattle.script_lines.specs.Numbers.{max_dpi, max_pixels, max_point, max_window, min_dpi}
use Rattle.script_lines.specs.commands.PlainCommands.{PlainCommand}
use Rattle.script_lines.specs.commands.PlainCommands as plain
use Rattle.line_words.specs.declared.words.naming.Name.TheVariants.{Id}
use Rattle.script_lines.specs.declared.verbs.Verb.TheVariants as verb
use Rattle.line_words.proofs.texts.FileNameLaws.{file_name_word}
use Rattle.script_lines.proofs.spelled.SpelledActions.{actions_of-words, intercept_reads_words}
use Rattle.line_words.proofs.spelled.SpelledColors.{color_word, last_color-text}
use Rattle.script_lines.proofs.spelled.SpelledChanges.{AreShort, change_reads, size_short}
use Rattle.line_words.proofs.spelled.SpelledDimensions.{extent_word, extents_of-text}
use Rattle.line_words.proofs.spelled.SpelledWeights.{weight_of-words, weight_reads_words}
use Rattle.script_lines.proofs.spelled.SpelledHooks.{hook_reads}
use Rattle.script_lines.proofs.spelled.SpelledResources.{command_of-resource}
use Rattle.script_lines.proofs.spelled.SpelledRules.{rule_value_in-text, rule_value_word, verb_of-text, verb_word}
use Rattle.script_lines.proofs.spelled.SpelledTexts.{command_of-text}
use Rattle.script_lines.proofs.spelled.SpelledTouches.{pointer_of-id, pointer_short, touch_of-words, touch_reads_words}
use Rattle.line_words.proofs.spelled.SpelledNames.{id_of-text, name_of-text, name_word, parent_of-text, parent_word}
use Rattle.line_words.proofs.spelled.SpelledNumbers.{IsShort, decimal_word, integer_of-signed, natural_within-within, pair_of-signed, short_within, signed_word, within_of-within}
use Rattle.script_lines.proofs.readings.StateLaws.{state_text_of-text, state_word}
use Rattle.line_words.proofs.spelled.SpelledWords.{AreWords, IsWord, word_by}
use Rattle.script_lines.proofs.spelled.SpelledLines.{command_of-joined}

-- classes
class_is_word : (class : Class) → IsWord (class_word class)
class_is_word class.View = word_by (class_word class.View) refl
class_is_word _ = word_by _ refl

-- visibilities
visibility_of-text : (visibility : Visibility) → visibility_of (visibility_text visibility) ≡ Ok visibility
unfolding visibility_of
visibility_of-text visibility.Visible = refl
visibility_of-text visibility.Invisible = refl
visibility_of-text visibility.Gone = refl

visibility_word : (visibility : Visibility) → IsWord (visibility_text visibility)
visibility_word visibility.Visible = word_by (codes "visible") refl
visibility_word visibility.Invisible = word_by (codes "invisible") refl
visibility_word visibility.Gone = word_by (codes "gone") refl

-- words of two
on_word : (on : Bool) → IsWord (on_text on)
on_word true = word_by (codes "yes") refl
on_word false = word_by (codes "no") refl

pub on_of-text : (on : Bool) → on_of (on_text on) ≡ Ok on
unfolding on_of
on_of-text true = refl
on_of-text false = refl

vertical_word : (vertical : Bool) → IsWord (if vertical then codes "vertical" else codes "horizontal")
vertical_word true = word_by (codes "vertical") refl
vertical_word false = word_by (codes "horizontal") refl

vertical_of-text : (vertical : Bool) → vertical_of (if vertical then codes "vertical" else codes "horizontal") ≡ Ok vertical
unfolding vertical_of
vertical_of-text true = refl
vertical_of-text false = refl

direction_named-text : (direction : Direction) → direction_named (direction_text direction) ≡ Ok direction
unfolding direction_named
direction_named-text Inherit = refl
direction_named-text Ltr = refl
direction_named-text Rtl = refl

direction_word : (direction : Direction) → IsWord (direction_text direction)
direction_word Inherit = word_by (codes "inherit") refl
direction_word Ltr = word_by (codes "ltr") refl
direction_word Rtl = word_by (codes "rtl") refl

-- flags
flag_named-text : (flag : Flag) → flag_named (flag_text flag) ≡ Ok flag
unfolding flag_named
flag_named-text flag.Clip = refl
flag_named-text flag.Fill = refl
flag_named-text flag.Split = refl

flag_word : (flag : Flag) → IsWord (flag_text flag)
flag_word flag.Clip = word_by (codes "clip") refl
flag_word flag.Fill = word_by (codes "fill") refl
flag_word flag.Split = word_by (codes "split") refl

-- answers to events
answer_named-text : (answer : Answer) → answer_named (event_answer_text answer) ≡ Ok answer
unfolding answer_named
answer_named-text answer.Off = refl
answer_named-text answer.Yes = refl
answer_named-text answer.Click = refl

event_answer_word : (answer : Answer) → IsWord (event_answer_text answer)
event_answer_word answer.Off = word_by (codes "off") refl
event_answer_word answer.Yes = word_by (codes "yes") refl
event_answer_word answer.Click = word_by (codes "click") refl

pub record ActReads (a : Act) : Type 0 where
  pub head : IsWord (act_head a)
  pub words : AreWords (act_words a)
  pub value : act_by (act_verb_of a) (act_words a) ≡ Ok a

pub act_reads : (a : Act) → IsActInBounds a → ActHasLine a → ActReads a
unfolding visible_of new_id_of orient_of direction_of flag_of answer_of scroll_of rule_of
act_reads (act.Change change) b l = let r = change_reads change b l in record { head = r.head; words = r.words; value = rw r.value refl }
act_reads (act.Visible visibility) b l = record {
  head = word_by (codes "visible") refl;
  words = (visibility_word visibility, tt);
  value = rw (visibility_of-text visibility) refl;
}
act_reads (act.Id id) b l = record {
  head = word_by (codes "id") refl;
  words = (name_word (Id id) l, tt);
  value = rw (id_of-text id l) refl;
}
act_reads (act.WeightSum sum) b l = record {
  head = word_by (codes "weightsum") refl;
  words = weight_reads_words sum b;
  value = rw (weight_of-words sum b) refl;
}
act_reads (act.Orient vertical) b l = record {
  head = word_by (codes "orient") refl;
  words = (vertical_word vertical, tt);
  value = rw (vertical_of-text vertical) refl;
}
act_reads (act.Direction direction) b l = record {
  head = word_by (codes "direction") refl;
  words = (direction_word direction, tt);
  value = rw (direction_named-text direction) refl;
}
act_reads (act.Flag flag on) b l = record {
  head = word_by (codes "flag") refl;
  words = (flag_word flag, (on_word on, tt));
  value = rw (flag_named-text flag, on_of-text on) refl;
}
act_reads (act.Ink color) b l = record {
  head = word_by (codes "ink") refl;
  words = (color_word color, tt);
  value = rw (last_color-text color l) refl;
}
act_reads (act.Rule verb value) b l = record {
  head = word_by (codes "rule") refl;
  words = (verb_word verb b, (rule_value_word verb value l, tt));
  value = rw (verb_of-text verb b, rule_value_in-text verb value l) refl;
}
act_reads (act.Answer answer) b l = record {
  head = word_by (codes "answer") refl;
  words = (event_answer_word answer, tt);
  value = rw (answer_named-text answer) refl;
}
act_reads (act.Intercept actions) b l = record {
  head = word_by (codes "intercept") refl;
  words = intercept_reads_words actions b;
  value = rw (actions_of-words actions b) refl;
}
act_reads (act.Scroll offset) b l =
    let short = size_short offset b in
    record {
      head = word_by (codes "scroll") refl;
      words = (signed_word offset short, tt);
      value = rw (integer_of-signed offset short, within_of-within (pos 0) max_size offset b) refl;
    }

pub side_of_window : (z : ℤ) → IsWithin (pos 1) max_window z → IsShort z
side_of_window z h = short_within 0 4096 z (omega (arith, ints, h.0)) h.1 (omega arith) (omega arith)

pub dpi_short : (dpi : ℕ) → dpi ≤ max_dpi → dpi < 10 ^ 10
dpi_short dpi h = omega (arith, h)

pub point_short : (z : ℤ) → IsWithin (pos 0) max_point z → IsShort z
point_short z h = short_within 0 4095 z (omega (arith, ints, h.0)) h.1 (omega arith) (omega arith)

-- the four numbers of a part of the picture
pub part_short : (x y w h : ℤ) → IsPart x y w h → AreShort (record { left = x; top = y; right = w; bottom = h })
part_short x y w h b = record { left = point_short x b.0; top = point_short y b.1; right = side_of_window w b.2; bottom = side_of_window h b.3 }

is_small-part : (w h : ℤ) → (w *ℤ h) ≤ℤ max_pixels → is_small w h ≡ true
unfolding is_small
is_small-part w h small = grind (arith, ints)

pub pixels_of-text : (x y w h : ℤ) → IsPart x y w h → pixels_of (signed_decimal x ∷ signed_decimal y ∷ signed_decimal w ∷ signed_decimal h ∷ []) ≡ Ok (plain.Pixels x y w h)
unfolding pixels_of part_of
pixels_of-text x y w h b =
    let short = part_short x y w h b in
    rw (
      integer_of-signed x short.left,
      integer_of-signed y short.top,
      integer_of-signed w short.right,
      integer_of-signed h short.bottom,
      within_of-within (pos 0) max_point x b.0,
      within_of-within (pos 0) max_point y b.1,
      within_of-within (pos 1) max_window w b.2,
      within_of-within (pos 1) max_window h b.3,
      is_small-part w h b.4,
    ) refl

-- The command of the text of a command is that plain.
pub command_of-spelled : (c : PlainCommand) → IsInBounds c → HasLine c → command_of (spelled c) ≡ Ok c
unfolding command_by dpi_of inflate_of into_of add_of remove_of disallow_of up_of cancel_of frame_of bounds_of digest_of hook_of save_of restore_of set_of
command_of-spelled (plain.Window w h) b l =
    let j = command_of-joined verb.Window (signed_decimal w ∷ signed_decimal h ∷ []) (word_by (codes "window") refl, (signed_word w (side_of_window w b.0), (signed_word h (side_of_window h b.1), tt))) in
    j.command ∙ rw (j.words, pair_of-signed (pos 1) max_window w h (side_of_window w b.0) (side_of_window h b.1) b.0 b.1) refl
command_of-spelled (plain.Dpi dpi) b l =
    let short = dpi_short dpi b.1 in
    let j = command_of-joined verb.Dpi (decimal dpi ∷ []) (word_by (codes "dpi") refl, (decimal_word dpi short, tt)) in
    j.command ∙ rw (j.words, integer_of-signed (pos dpi) short, natural_within-within min_dpi max_dpi dpi b.0 b.1) refl
command_of-spelled (plain.Res id value) b l = command_of-resource id value b.0 l.0 b.1 l.1
command_of-spelled (plain.Inflate name None) b l =
    let j = command_of-joined verb.Inflate (name ∷ []) (word_by (codes "inflate") refl, (file_name_word name b, tt)) in
    j.command ∙ rw (j.words, b) refl
command_of-spelled (plain.Inflate name (Some view)) b l =
    let j = command_of-joined verb.Inflate (name ∷ codes "into" ∷ name_text view ∷ []) (word_by (codes "inflate") refl, (file_name_word name b, (word_by (codes "into") refl, (name_word view l, tt)))) in
    j.command ∙ rw (j.words, b, name_of-text view l) refl
command_of-spelled (plain.Add parent class width height) b l =
    let j = command_of-joined verb.Add (parent_text parent ∷ class_word class ∷ extent_text width ∷ extent_text height ∷ []) (word_by (codes "add") refl, (parent_word parent l, (class_is_word class, (extent_word width b.0, (extent_word height b.1, tt))))) in
    j.command ∙ rw (j.words, parent_of-text parent l, class_named-word class, extents_of-text width height b.0 b.1) refl
command_of-spelled (plain.Remove view) b l =
    let j = command_of-joined verb.Remove (name_text view ∷ []) (word_by (codes "remove") refl, (name_word view l, tt)) in
    j.command ∙ rw (j.words, name_of-text view l) refl
command_of-spelled (plain.Act view act) b l =
    let r = act_reads act b l.1 in
    let j = command_of-joined (verb.Act (act_verb_of act)) (name_text view ∷ act_words act) (r.head, (name_word view l.0, r.words)) in
    j.command ∙ rw (j.words, name_of-text view l.0, r.value) refl
command_of-spelled (plain.SetText view text) b l = command_of-text view text b l.0 l.1
command_of-spelled (plain.Disallow view on) b l =
    let j = command_of-joined verb.Disallow (name_text view ∷ on_text on ∷ []) (word_by (codes "disallow") refl, (name_word view l, (on_word on, tt))) in
    j.command ∙ rw (j.words, name_of-text view l, on_of-text on) refl
command_of-spelled (plain.Hook view edits bad) b l =
    let reads = hook_reads edits bad b.0 b.1 l.1 l.2 in
    let j = command_of-joined verb.Hook (name_text view ∷ edits_words (hook_edits edits bad)) (word_by (codes "hook") refl, (name_word view l.0, reads.words)) in
    j.command ∙ rw (j.words, name_of-text view l.0, reads.value) refl
command_of-spelled (plain.Down p x y) b l =
    let j = command_of-joined verb.Down (touch_words p x y) (word_by (codes "down") refl, touch_reads_words p x y b) in
    j.command ∙ rw (j.words, touch_of-words p x y b) refl
command_of-spelled (plain.Move p x y) b l =
    let j = command_of-joined verb.Move (touch_words p x y) (word_by (codes "move") refl, touch_reads_words p x y b) in
    j.command ∙ rw (j.words, touch_of-words p x y b) refl
command_of-spelled (plain.Up p) b l =
    let j = command_of-joined verb.Up (decimal p ∷ []) (word_by (codes "up") refl, (decimal_word p (pointer_short p b), tt)) in
    j.command ∙ rw (j.words, integer_of-signed (pos p) (pointer_short p b), pointer_of-id p b) refl
command_of-spelled plain.Cancel b l =
    let j = command_of-joined verb.Cancel [] (word_by (codes "cancel") refl, tt) in
    j.command ∙ rw j.words refl
command_of-spelled plain.Frame b l =
    let j = command_of-joined verb.Frame [] (word_by (codes "frame") refl, tt) in
    j.command ∙ rw j.words refl
command_of-spelled (plain.Bounds None) b l =
    let j = command_of-joined verb.Bounds [] (word_by (codes "bounds") refl, tt) in
    j.command ∙ rw j.words refl
command_of-spelled (plain.Bounds (Some view)) b l =
    let j = command_of-joined verb.Bounds (name_text view ∷ []) (word_by (codes "bounds") refl, (name_word view l, tt)) in
    j.command ∙ rw (j.words, name_of-text view l) refl
command_of-spelled (plain.Pixels x y w h) b l =
    let short = part_short x y w h b in
    let j = command_of-joined verb.Pixels (signed_decimal x ∷ signed_decimal y ∷ signed_decimal w ∷ signed_decimal h ∷ [])
    (word_by (codes "pixels") refl, (signed_word x short.left, (signed_word y short.top, (signed_word w short.right, (signed_word h short.bottom, tt))))) in
    j.command ∙ rw j.words (pixels_of-text x y w h b)
command_of-spelled plain.Digest b l =
    let j = command_of-joined verb.Digest [] (word_by (codes "digest") refl, tt) in
    j.command ∙ rw j.words refl
command_of-spelled plain.Save b l =
    let j = command_of-joined verb.Save [] (word_by (codes "save") refl, tt) in
    j.command ∙ rw j.words refl
command_of-spelled (plain.Restore None) b l =
    let j = command_of-joined verb.Restore [] (word_by (codes "restore") refl, tt) in
    j.command ∙ rw j.words refl
command_of-spelled (plain.Restore (Some text)) b l =
    let j = command_of-joined verb.Restore (text ∷ []) (word_by (codes "restore") refl, (state_word text b, tt)) in
    j.command ∙ rw (j.words, state_text_of-text text b) refl
