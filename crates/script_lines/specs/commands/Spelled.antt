-- The text of a command: one way to write it, of those that the grammar reads.
use Rattle.std.specs.Prelude.{ℕ, zero, suc, ◌<◌, ◌^◌, ◌/◌, ◌%◌, ◌==◌, ◌||◌, Bool, IsTrue, if◌then◌else◌, ℤ, List, []}
use Rattle.std.specs.Prelude.{◌∷◌, ◌++◌, codes, Some, None, IfSome, slice_index_or, length, map, nat_lt}
use Rattle.std.specs.Fmt.{decimal, signed_decimal}
use Rattle.std.specs.List.{All, join_with_byte}
use Rattle.std.specs.Str.{is_utf8}
use Rattle.geom_core.specs.declared.geometry.Insets.{Insets}
use Rattle.view_model.specs.Classes.{class_word}
use Rattle.view_model.specs.Dimensions.{mantissa}
use Rattle.view_model.specs.declared.changes.Act.{Act}
use Rattle.view_model.specs.declared.changes.Act.TheVariants as act
use Rattle.view_model.specs.declared.changes.Change.{Change}
use Rattle.view_model.specs.declared.changes.Change.TheVariants as change
use Rattle.view_model.specs.declared.changes.Flag.{Flag}
use Rattle.view_model.specs.declared.changes.Flag.TheVariants as flag
use Rattle.view_model.specs.declared.answer.Answer.{Answer}
use Rattle.view_model.specs.declared.answer.Answer.TheVariants as answer
use Rattle.view_model.specs.declared.visibility.Visibility.{Visibility}
use Rattle.view_model.specs.declared.visibility.Visibility.TheVariants as visibility
use Rattle.view_model.specs.declared.placing.Direction.{Direction}
use Rattle.view_model.specs.declared.placing.Direction.TheVariants.{Inherit, Ltr, Rtl}
use Rattle.script_lines.specs.commands.PlainCommands.{PlainCommand, PlainGiven}
use Rattle.script_lines.specs.commands.PlainCommands as plain
use Rattle.script_lines.specs.reading.Rules.{names_sibling, verbs}
use Rattle.script_lines.specs.reading.Verbs.{act_word, change_word, line_word}
use Rattle.script_lines.specs.declared.commands.Asked.{Asked}
use Rattle.script_lines.specs.declared.verbs.ActVerb.{ActVerb}
use Rattle.script_lines.specs.declared.verbs.ActVerb.TheVariants as act_verb
use Rattle.script_lines.specs.declared.verbs.ChangeVerb.{ChangeVerb}
use Rattle.script_lines.specs.declared.verbs.ChangeVerb.TheVariants as change_verb
use Rattle.script_lines.specs.declared.verbs.Verb.TheVariants as verb
use Rattle.line_words.specs.declared.words.naming.Name.TheVariants.{Id}
use Rattle.line_words.specs.Spelled.{name_text, parent_text, extent_text, gravity_text, weight_words, color_text}
use Rattle.line_words.specs.Spelled.{on_text, HasText, HasWord}

abbrev pub insets_words : Insets → List (List ℕ)
insets_words sides =
    signed_decimal sides.left ∷ signed_decimal sides.top ∷ signed_decimal sides.right ∷ signed_decimal sides.bottom ∷ []

abbrev pub visibility_text : Visibility → List ℕ
visibility_text visibility.Visible = codes "visible"
visibility_text visibility.Invisible = codes "invisible"
visibility_text visibility.Gone = codes "gone"

-- what the first word of the line asks for that makes a change
abbrev pub change_verb_of : Change → ChangeVerb
change_verb_of (change.Size width height) = change_verb.Size
change_verb_of (change.Min size) = change_verb.Min
change_verb_of (change.Margins sides) = change_verb.Margins
change_verb_of (change.Padding sides) = change_verb.Padding
change_verb_of (change.Weight weight) = change_verb.Weight
change_verb_of (change.Gravity kids gravity) = change_verb.Gravity
change_verb_of (change.Background color) = change_verb.Background

-- that word
abbrev pub change_head : Change → List ℕ
change_head change = change_word (change_verb_of change)

-- the words after the view
abbrev pub change_words : Change → List (List ℕ)
change_words (change.Size width height) = extent_text width ∷ extent_text height ∷ []
change_words (change.Min size) = signed_decimal size.w ∷ signed_decimal size.h ∷ []
change_words (change.Margins sides) = insets_words sides
change_words (change.Padding sides) = insets_words sides
change_words (change.Weight weight) = weight_words weight
change_words (change.Gravity kids gravity) = (if kids then codes "kids" else codes "self") ∷ gravity_text gravity ∷ []
change_words (change.Background color) = color_text color ∷ []

abbrev pub flag_text : Flag → List ℕ
flag_text flag.Clip = codes "clip"
flag_text flag.Fill = codes "fill"
flag_text flag.Split = codes "split"

-- how a view answers events
abbrev pub event_answer_text : Answer → List ℕ
event_answer_text answer.Off = codes "off"
event_answer_text answer.Yes = codes "yes"
event_answer_text answer.Click = codes "click"

-- the words of the actions, by their bits
abbrev pub action_words : List (List ℕ)
action_words = codes "down" ∷ codes "up" ∷ codes "move" ∷ codes "cancel" ∷ codes "pdown" ∷ codes "pup" ∷ []

-- those of these words whose bits a number has, the first of them that of the lowest bit
abbrev pub words_of_bits : List (List ℕ) → ℕ → List (List ℕ)
words_of_bits [] bits = []
words_of_bits (word ∷ words) bits = (if bits % 2 == 1 then word ∷ [] else []) ++ words_of_bits words (bits / 2)

abbrev pub intercept_words : ℕ → List (List ℕ)
intercept_words actions = if actions == 0 then codes "none" ∷ [] else words_of_bits action_words actions

abbrev pub verb_text : ℕ → List ℕ
verb_text verb = slice_index_or verbs verb []

abbrev pub answer_text : ℕ → List ℕ
answer_text zero = codes "no"
answer_text (suc n) = codes "yes"

-- the id of a sibling, or whether a rule on the parent counts
abbrev pub rule_value_text : ℕ → ℕ → List ℕ
rule_value_text verb value = if names_sibling verb then name_text (Id value) else answer_text value

abbrev pub direction_text : Direction → List ℕ
direction_text Inherit = codes "inherit"
direction_text Ltr = codes "ltr"
direction_text Rtl = codes "rtl"

-- what the first word of the line asks for that sets this
abbrev pub act_verb_of : Act → ActVerb
act_verb_of (act.Change change) = act_verb.Change (change_verb_of change)
act_verb_of (act.WeightSum sum) = act_verb.WeightSum
act_verb_of (act.Orient vertical) = act_verb.Orient
act_verb_of (act.Flag flag on) = act_verb.Flag
act_verb_of (act.Visible visibility) = act_verb.Visible
act_verb_of (act.Ink color) = act_verb.Ink
act_verb_of (act.Id id) = act_verb.Id
act_verb_of (act.Rule verb value) = act_verb.Rule
act_verb_of (act.Answer answer) = act_verb.Answer
act_verb_of (act.Intercept actions) = act_verb.Intercept
act_verb_of (act.Scroll offset) = act_verb.Scroll
act_verb_of (act.Direction direction) = act_verb.Direction

-- that word
abbrev pub act_head : Act → List ℕ
act_head act = act_word (act_verb_of act)

-- the words after the view
abbrev pub act_words : Act → List (List ℕ)
act_words (act.Change change) = change_words change
act_words (act.WeightSum sum) = weight_words sum
act_words (act.Orient vertical) = (if vertical then codes "vertical" else codes "horizontal") ∷ []
act_words (act.Flag flag on) = flag_text flag ∷ on_text on ∷ []
act_words (act.Visible visibility) = visibility_text visibility ∷ []
act_words (act.Ink color) = color_text color ∷ []
act_words (act.Id id) = name_text (Id id) ∷ []
act_words (act.Rule verb value) = verb_text verb ∷ rule_value_text verb value ∷ []
act_words (act.Answer answer) = event_answer_text answer ∷ []
act_words (act.Intercept actions) = intercept_words actions
act_words (act.Scroll offset) = signed_decimal offset ∷ []
act_words (act.Direction direction) = direction_text direction ∷ []

-- a unit by its number in the word of a dimension
abbrev pub unit_text : ℕ → List ℕ
unit_text unit =
    if unit == 0 then codes "px" else (
    if unit == 1 then codes "dp" else (
    if unit == 2 then codes "sp" else (
    if unit == 3 then codes "pt" else (
    if unit == 4 then codes "in" else
    codes "mm"))))

-- what is given to a resource: its kind, and the words after that; a text is the last word, whatever it has
abbrev pub given_words : PlainGiven → List (List ℕ)
given_words (plain.Color color) = codes "color" ∷ color_text color ∷ []
given_words (plain.Dimen word) = codes "dimen" ∷ signed_decimal (mantissa word) ∷ unit_text (word % 256) ∷ []
given_words (plain.Text text) = codes "text" ∷ text ∷ []

-- a pointer and a point
abbrev pub touch_words : ℕ → ℤ → ℤ → List (List ℕ)
touch_words p x y = decimal p ∷ signed_decimal x ∷ signed_decimal y ∷ []

-- the words of an edit
abbrev pub edit_words : Asked → List (List ℕ)
edit_words asked = change_head asked.change ∷ name_text asked.view ∷ change_words asked.change

-- an edit that no hook can make, if there is to be one
abbrev pub unmade_edits : Bool → List (List (List ℕ))
unmade_edits bad = if bad then (line_word verb.Frame ∷ []) ∷ [] else []

abbrev pub hook_edits : List Asked → Bool → List (List (List ℕ))
hook_edits edits bad = map edit_words edits ++ unmade_edits bad

-- the words of edits, `;` between them
abbrev pub edits_words : List (List (List ℕ)) → List (List ℕ)
edits_words [] = []
edits_words (edit ∷ []) = edit
edits_words (edit ∷ next ∷ edits) = edit ++ codes ";" ∷ edits_words (next ∷ edits)

-- the words of a command
abbrev pub command_words : PlainCommand → List (List ℕ)
command_words (plain.Window w h) = line_word verb.Window ∷ signed_decimal w ∷ signed_decimal h ∷ []
command_words (plain.Dpi dpi) = line_word verb.Dpi ∷ decimal dpi ∷ []
command_words (plain.Res id value) = line_word verb.Res ∷ name_text (Id id) ∷ given_words value
command_words (plain.Inflate name None) = line_word verb.Inflate ∷ name ∷ []
command_words (plain.Inflate name (Some view)) = line_word verb.Inflate ∷ name ∷ codes "into" ∷ name_text view ∷ []
command_words (plain.Add parent class width height) =
    codes "add" ∷ parent_text parent ∷ class_word class ∷ extent_text width ∷ extent_text height ∷ []
command_words (plain.Remove view) = line_word verb.Remove ∷ name_text view ∷ []
command_words (plain.Act view act) = act_head act ∷ name_text view ∷ act_words act
command_words (plain.SetText view text) = line_word verb.Text ∷ name_text view ∷ text ∷ []
command_words (plain.Disallow view on) = line_word verb.Disallow ∷ name_text view ∷ on_text on ∷ []
command_words (plain.Hook view edits bad) = line_word verb.Hook ∷ name_text view ∷ edits_words (hook_edits edits bad)
command_words (plain.Down p x y) = line_word verb.Down ∷ touch_words p x y
command_words (plain.Move p x y) = line_word verb.Move ∷ touch_words p x y
command_words (plain.Up p) = line_word verb.Up ∷ decimal p ∷ []
command_words plain.Cancel = line_word verb.Cancel ∷ []
command_words plain.Frame = line_word verb.Frame ∷ []
command_words (plain.Bounds None) = line_word verb.Bounds ∷ []
command_words (plain.Bounds (Some view)) = line_word verb.Bounds ∷ name_text view ∷ []
command_words (plain.Pixels x y w h) =
    line_word verb.Pixels ∷ signed_decimal x ∷ signed_decimal y ∷ signed_decimal w ∷ signed_decimal h ∷ []
command_words plain.Digest = line_word verb.Digest ∷ []
command_words plain.Save = line_word verb.Save ∷ []
command_words (plain.Restore None) = line_word verb.Restore ∷ []
command_words (plain.Restore (Some text)) = line_word verb.Restore ∷ text ∷ []

-- the text of a command, with single spaces between its words
abbrev pub spelled : PlainCommand → List ℕ
spelled command = join_with_byte 32 (command_words command)

-- a change that a line can make
abbrev pub ChangeHasLine : Change → Type 0
ChangeHasLine (change.Size width height) = Unit {0}
ChangeHasLine (change.Min size) = Unit {0}
ChangeHasLine (change.Margins sides) = Unit {0}
ChangeHasLine (change.Padding sides) = Unit {0}
ChangeHasLine (change.Weight weight) = Unit {0}
ChangeHasLine (change.Gravity kids gravity) = HasWord gravity
ChangeHasLine (change.Background color) = color.0 < 2 ^ 32

-- an edit that a hook can make
abbrev pub AskedHasLine : Asked → Type 0
AskedHasLine asked = HasText asked.view × ChangeHasLine asked.change

-- what a line can set
abbrev pub ActHasLine : Act → Type 0
ActHasLine (act.Change change) = ChangeHasLine change
ActHasLine (act.WeightSum sum) = Unit {0}
ActHasLine (act.Orient vertical) = Unit {0}
ActHasLine (act.Flag flag on) = Unit {0}
ActHasLine (act.Visible visibility) = Unit {0}
ActHasLine (act.Ink color) = color.0 < 2 ^ 32
ActHasLine (act.Id id) = HasText (Id id)
ActHasLine (act.Rule verb value) = value < (if names_sibling verb then 2 ^ 32 else 2)
ActHasLine (act.Answer answer) = Unit {0}
ActHasLine (act.Intercept actions) = Unit {0}
ActHasLine (act.Scroll offset) = Unit {0}
ActHasLine (act.Direction direction) = Unit {0}

-- a value that a line can give a resource
abbrev pub GivenHasLine : PlainGiven → Type 0
GivenHasLine (plain.Color color) = color.0 < 2 ^ 32
GivenHasLine (plain.Dimen word) = Unit {0}
GivenHasLine (plain.Text text) = IsTrue (is_utf8 text)

-- a command that a line can give, if its numbers are within their bounds
abbrev pub HasLine : PlainCommand → Type 0
HasLine (plain.Window w h) = Unit {0}
HasLine (plain.Dpi dpi) = Unit {0}
HasLine (plain.Res id value) = HasText (Id id) × GivenHasLine value
HasLine (plain.Inflate name into) = IfSome into HasText
HasLine (plain.Add parent class width height) = IfSome parent HasText
HasLine (plain.Remove view) = HasText view
HasLine (plain.Act view act) = HasText view × ActHasLine act
HasLine (plain.SetText view text) = HasText view × IsTrue (is_utf8 text)
HasLine (plain.Disallow view on) = HasText view
HasLine (plain.Hook view edits bad) = HasText view × All AskedHasLine edits × IsTrue (bad || nat_lt 0 (length edits))
HasLine (plain.Down p x y) = Unit {0}
HasLine (plain.Move p x y) = Unit {0}
HasLine (plain.Up p) = Unit {0}
HasLine plain.Cancel = Unit {0}
HasLine plain.Frame = Unit {0}
HasLine (plain.Bounds view) = IfSome view HasText
HasLine (plain.Pixels x y w h) = Unit {0}
HasLine plain.Digest = Unit {0}
HasLine plain.Save = Unit {0}
HasLine (plain.Restore text) = Unit {0}
