-- The words of tables.
use Rattle.std.proofs.Common.{◌≡◌, ℕ, Bool, sym, List, []}
use Rattle.std.specs.Prelude.{codes, if◌then◌else◌, IfOk}
use Rattle.std.specs.Str.{bytes_eq}
use Rattle.std.proofs.lemmas.List.Quantifiers.{position-Some}
use Rattle.std.proofs.lemmas.Slice.Eq.{bytes_eq-Decides}
use Rattle.script_lines.specs.reading.Changes.{answer_named, direction_named, flag_named, kids_of, vertical_of, visibility_of}
use Rattle.script_lines.specs.reading.Resources.{unit_number, unit_of}
use Rattle.script_lines.specs.reading.Rules.{verb_of, verbs}
use Rattle.script_lines.specs.commands.Spelled.{direction_text, event_answer_text, flag_text, unit_text, verb_text, visibility_text}
use Rattle.script_lines.specs.declared.reading.resources.LengthUnit.{LengthUnit}
use Rattle.view_model.specs.declared.changes.Flag.{Flag}
use Rattle.view_model.specs.declared.answer.Answer.{Answer}
use Rattle.view_model.specs.declared.visibility.Visibility.{Visibility}
use Rattle.view_model.specs.declared.placing.Direction.{Direction}
use Rattle.line_words.proofs.texts.OkLaws.{if_known, if_word}

pub visibility_of-written : (word : List ℕ) → IfOk (visibility_of word) (λ visibility. word ≡ visibility_text visibility)
unfolding visibility_of
visibility_of-written word =
    let P = λ (visibility : Visibility). word ≡ visibility_text visibility in
    if_word P word (codes "visible") _ _ (λ e. e) (if_word P word (codes "invisible") _ _ (λ e. e) (if_word P word (codes "gone") _ _ (λ e. e) tt))

pub vertical_of-written : (word : List ℕ) → IfOk (vertical_of word) (λ vertical. word ≡ (if vertical then codes "vertical" else codes "horizontal"))
unfolding vertical_of
vertical_of-written word =
    let P = λ (vertical : Bool). word ≡ (if vertical then codes "vertical" else codes "horizontal") in
    if_word P word (codes "horizontal") _ _ (λ e. e) (if_word P word (codes "vertical") _ _ (λ e. e) tt)

pub kids_of-written : (word : List ℕ) → IfOk (kids_of word) (λ kids. word ≡ (if kids then codes "kids" else codes "self"))
unfolding kids_of
kids_of-written word =
    let P = λ (kids : Bool). word ≡ (if kids then codes "kids" else codes "self") in
    if_word P word (codes "self") _ _ (λ e. e) (if_word P word (codes "kids") _ _ (λ e. e) tt)

pub direction_named-written : (word : List ℕ) → IfOk (direction_named word) (λ direction. word ≡ direction_text direction)
unfolding direction_named
direction_named-written word =
    let P = λ (direction : Direction). word ≡ direction_text direction in
    if_word P word (codes "ltr") _ _ (λ e. e) (if_word P word (codes "rtl") _ _ (λ e. e) (if_word P word (codes "inherit") _ _ (λ e. e) tt))

pub flag_named-written : (word : List ℕ) → IfOk (flag_named word) (λ flag. word ≡ flag_text flag)
unfolding flag_named
flag_named-written word =
    let P = λ (flag : Flag). word ≡ flag_text flag in
    if_word P word (codes "clip") _ _ (λ e. e) (if_word P word (codes "fill") _ _ (λ e. e) (if_word P word (codes "split") _ _ (λ e. e) tt))

pub answer_named-written : (word : List ℕ) → IfOk (answer_named word) (λ answer. word ≡ event_answer_text answer)
unfolding answer_named
answer_named-written word =
    let P = λ (answer : Answer). word ≡ event_answer_text answer in
    if_word P word (codes "off") _ _ (λ e. e) (if_word P word (codes "yes") _ _ (λ e. e) (if_word P word (codes "click") _ _ (λ e. e) tt))

pub unit_of-written : (word : List ℕ) → IfOk (unit_of word) (λ unit. word ≡ unit_text (unit_number unit))
unfolding unit_of
unit_of-written word =
    let P = λ (unit : LengthUnit). word ≡ unit_text (unit_number unit) in
    if_word P word (codes "px") _ _ (λ e. e) (if_word P word (codes "dp") _ _ (λ e. e) (if_word P word (codes "sp") _ _ (λ e. e)
    (if_word P word (codes "pt") _ _ (λ e. e) (if_word P word (codes "in") _ _ (λ e. e) (if_word P word (codes "mm") _ _ (λ e. e) tt)))))

pub verb_of-written : (word : List ℕ) → IfOk (verb_of word) (λ verb. word ≡ verb_text verb)
unfolding verb_of
verb_of-written word =
    if_known (λ verb. word ≡ verb_text verb) _ (λ verb e.
    let is = position-Some (λ verb. bytes_eq verb word) verbs verb [] e in
    sym ((bytes_eq-Decides (verb_text verb) word).0 is.1))
