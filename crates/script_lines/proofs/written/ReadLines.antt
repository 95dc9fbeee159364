-- The lines of a command, read as that command.
use Rattle.std.proofs.Common.{◌≡◌, ℕ, suc, zero, ◌-◌, ◌<◌, Bool, true, false, refl, ap, sym, ◌∙◌, inl, inr, List, [], ◌∷◌, length, arith}
use Rattle.std.specs.Prelude.{◌==◌, nat_lt, if◌then◌else◌, ℤ, pos, codes, Option, Some, None, Result, Ok, Err}
use Rattle.std.specs.Fmt.{signed_decimal}
use Rattle.std.specs.List.{All, filter_map, list_any, slice_split}
use Rattle.std.specs.Str.{is_utf8}
use Rattle.std.proofs.lemmas.Bool.{cases_Bool}
use Rattle.std.proofs.lemmas.Bool.Decides.{nat_tests}
use Rattle.std.proofs.lemmas.List.Elements.{All-head, All-tail}
use Rattle.view_model.specs.declared.changes.Act.{Act}
use Rattle.view_model.specs.declared.changes.Act.TheVariants as act
use Rattle.view_model.specs.declared.changes.Change.{Change}
use Rattle.view_model.specs.declared.changes.Change.TheVariants as change
use Rattle.view_model.proofs.ClassLaws.{class_named-word}
use Rattle.view_model.specs.Numbers.{max_edits}
use Rattle.script_lines.specs.reading.Changes.{IsActInBounds, IsChangeInBounds, act_by, change_by, gravity_change_of, new_id_of}
use Rattle.script_lines.specs.reading.Commands.{IsInBounds, add_of, bounds_of, command_by, command_in, command_of, digest_of, disallow_of, dpi_of, frame_of, inflate_of, into_of, remove_of, set_of, set_text_of, hook_of}
use Rattle.line_words.specs.words.Escapes.{escaped_text_of, has_escapes, rest_of}
use Rattle.script_lines.specs.reading.Hooks.{asked_in, asked_of, edit_of, edits_of, is_range, is_syntax, is_unmade, joined, parts_edits, readings_of, unmade_of}
use Rattle.line_words.specs.words.Names.{id_in}
use Rattle.line_words.specs.words.Numbers.{IsWithin}
use Rattle.script_lines.specs.commands.PlainCommands.{PlainCommand, PlainGiven}
use Rattle.script_lines.specs.commands.PlainCommands as plain
use Rattle.script_lines.specs.reading.Resources.{IsGivenInBounds, dimen_given, dimen_word, given_by, given_of, res_of, resource_id, unit_number}
use Rattle.script_lines.specs.reading.Rules.{answer_in, names_sibling, rule_of, rule_value_in}
use Rattle.script_lines.specs.commands.Spelled.{act_head, act_verb_of, change_verb_of, unit_text}
use Rattle.script_lines.specs.reading.States.{restore_of, save_of}
use Rattle.script_lines.specs.reading.Touches.{cancel_of, up_of}
use Rattle.script_lines.specs.reading.Verbs.{change_named, line_word}
use Rattle.line_words.specs.words.Words.{after_word, first_word, text_of, words}
use Rattle.script_lines.specs.commands.Written.{AreActWords, AreChangeWords, AreEditWords, AreEdits, AreUnmadeWords, IsGivenBy, IsRuleWord, IsWritten}
use Rattle.line_words.specs.Written.{IsHexWord, IsNameWord}
use Rattle.script_lines.specs.declared.commands.Asked.{Asked}
use Rattle.script_lines.specs.Numbers.{max_dpi, max_mantissa, max_window, min_dpi, min_mantissa}
use Rattle.line_words.specs.declared.fault.LineFault.{LineFault}
use Rattle.line_words.specs.declared.fault.LineFault.TheVariants.{Syntax, Range}
use Rattle.line_words.specs.declared.words.naming.Name.{Name}
use Rattle.line_words.specs.declared.words.naming.Name.TheVariants.{Number, Id}
use Rattle.script_lines.specs.declared.verbs.Verb.{Verb}
use Rattle.script_lines.specs.declared.verbs.Verb.TheVariants as verb
use Rattle.script_lines.specs.declared.reading.resources.LengthUnit.{LengthUnit}
use Rattle.script_lines.proofs.written.ReadActions.{actions_of-read, answer_in-read}
use Rattle.line_words.proofs.written.ReadGravities.{gravity_of-read}
use Rattle.line_words.proofs.written.ReadWords.{id_of-read, last_color-read, name_of-read, parent_of-read, weight_of-read}
use Rattle.script_lines.proofs.spelled.SpelledChanges.{change_reads, kids_of-text}
use Rattle.line_words.proofs.spelled.SpelledDimensions.{extents_of-text}
use Rattle.script_lines.proofs.spelled.SpelledCommands.{act_reads, dpi_short, on_of-text, pixels_of-text, side_of_window}
use Rattle.line_words.proofs.spelled.SpelledNumbers.{differs, integer_of-signed, natural_within-within, pair_of-signed, short_within, within_of-within}
use Rattle.script_lines.proofs.spelled.SpelledResources.{dimen_word-unit, mantissa-dimen, unit_of-number}
use Rattle.script_lines.proofs.spelled.SpelledRules.{verb_of-text}
use Rattle.script_lines.proofs.spelled.SpelledTouches.{pointer_of-id, pointer_short, touch_of-words}
use Rattle.script_lines.proofs.readings.StateLaws.{state_text_of-text}
use Rattle.script_lines.proofs.readings.VerbLaws.{change_named-word, no_change, verb_named-word}
use Rattle.line_words.proofs.texts.WordLaws.{words_some}
use Rattle.script_lines.proofs.written.WrittenCommands.{line_begins}

-- what a line sets
change_by-read : (c : Change) (ws : List (List ℕ)) → IsChangeInBounds c → AreChangeWords c ws → change_by (change_verb_of c) ws ≡ Ok c
unfolding gravity_change_of
change_by-read (change.Size width height) ws b are = rw are (change_reads (change.Size width height) b tt).value
change_by-read (change.Min size) ws b are = rw are (change_reads (change.Min size) b tt).value
change_by-read (change.Margins sides) ws b are = rw are (change_reads (change.Margins sides) b tt).value
change_by-read (change.Padding sides) ws b are = rw are (change_reads (change.Padding sides) b tt).value
change_by-read (change.Weight weight) ws b h = rw (weight_of-read weight ws b h) refl
change_by-read (change.Gravity kids gravity) ws b (word, are, h) = rw (are, kids_of-text kids, gravity_of-read gravity word h) refl
change_by-read (change.Background color) ws b (word, are, h) = rw (are, last_color-read color word h) refl

rule_value-read : (sibling : Bool) (value : ℕ) (word : List ℕ) → IsRuleWord sibling value word → (if sibling then id_in (word ∷ []) else answer_in (word ∷ [])) ≡ Ok (value, [])
rule_value-read true value word h = rw (id_of-read value word h) refl
rule_value-read false value word (is, below) = rw is (answer_in-read value below)

act_by-read : (a : Act) (ws : List (List ℕ)) → IsActInBounds a → AreActWords a ws → act_by (act_verb_of a) ws ≡ Ok a
unfolding new_id_of rule_of rule_value_in
act_by-read (act.Change change) ws b h = rw (change_by-read change ws b h) refl
act_by-read (act.WeightSum sum) ws b h = rw (weight_of-read sum ws b h) refl
act_by-read (act.Ink color) ws b (word, are, h) = rw (are, last_color-read color word h) refl
act_by-read (act.Id id) ws b (word, are, h) = rw (are, id_of-read id word h) refl
act_by-read (act.Rule verb value) ws b (word, are, h) = rw (are, verb_of-text verb b, rule_value-read (names_sibling verb) value word h) refl
act_by-read (act.Intercept actions) ws b h = rw (actions_of-read actions ws h) refl
act_by-read (act.Orient vertical) ws b are = rw are (act_reads (act.Orient vertical) b tt).value
act_by-read (act.Flag flag on) ws b are = rw are (act_reads (act.Flag flag on) b tt).value
act_by-read (act.Visible visibility) ws b are = rw are (act_reads (act.Visible visibility) b tt).value
act_by-read (act.Answer answer) ws b are = rw are (act_reads (act.Answer answer) b tt).value
act_by-read (act.Scroll offset) ws b are = rw are (act_reads (act.Scroll offset) b tt).value
act_by-read (act.Direction direction) ws b are = rw are (act_reads (act.Direction direction) b tt).value

-- edits of hooks
unmade_of-read : (left : ℕ) (part : List (List ℕ)) → AreUnmadeWords left part → unmade_of part ≡ Ok None
unfolding unmade_of
unmade_of-read left part h = rw (h.are, verb_named-word h.verb) refl

edit_of-unmade : (head : List ℕ) (rest : List (List ℕ)) → change_named head ≡ None → unmade_of (head ∷ rest) ≡ Ok None → edit_of (head ∷ rest) ≡ Ok None
unfolding edit_of
edit_of-unmade head rest none h = rw none h

edit_of-none : (left : ℕ) (part : List (List ℕ)) → AreUnmadeWords (suc left) part → edit_of part ≡ Ok None
edit_of-none left part h =
    let head = line_word h.verb in
    let none : change_named head ≡ None = elim h.unmade [ inl full ↦ absurd (omega (arith, full)) | inr others ↦ no_change head others (change_named head) refl ] in
    ap edit_of h.are ∙ edit_of-unmade head h.rest none (ap unmade_of (sym h.are) ∙ unmade_of-read (suc left) part h)

asked_of-read : (asked : Asked) (view : List ℕ) (rest : List (List ℕ)) → IsChangeInBounds asked.change → IsNameWord asked.view view → AreChangeWords asked.change rest
    → asked_of (change_verb_of asked.change) (view ∷ rest) ≡ Ok asked
unfolding asked_of
asked_of-read asked view rest b name h = rw (name_of-read asked.view view name, change_by-read asked.change rest b h) refl

edit_of-read : (asked : Asked) (part : List (List ℕ)) → IsChangeInBounds asked.change → AreEditWords asked part → edit_of part ≡ Ok (Some asked)
unfolding edit_of
edit_of-read asked part b h = rw (h.are, change_named-word (change_verb_of asked.change), asked_of-read asked h.view h.rest b h.name h.change) refl

module _ (rest : List (Result (Option Asked) LineFault)) (more : List Asked) (bad : Bool) where
  record AreJoined : Type 0 where
    syntax : list_any is_syntax rest ≡ false
    range : list_any is_range rest ≡ false
    edits : filter_map asked_in rest ≡ more
    unmade : list_any is_unmade rest ≡ bad

  are_joined : joined rest ≡ Ok (more, bad) → AreJoined
  unfolding joined
  are_joined e = elim (cases_Bool (list_any is_syntax rest)) [
    | inl s ↦ absurd (let v : Err Syntax ≡ Ok (more, bad) = rw s at e in cc)
    | inr s ↦ elim (cases_Bool (list_any is_range rest)) [
      | inl r ↦ absurd (let v : Err Range ≡ Ok (more, bad) = rw (s, r) at e in cc)
      | inr r ↦ (
          let made : List Asked × Bool = (filter_map asked_in rest, list_any is_unmade rest) in
          let wanted : List Asked × Bool = (more, bad) in
          let v : Ok made ≡ Ok wanted = rw (s, r) at e in
          let w : made ≡ wanted = cc in
          record { syntax = s; range = r; edits = ap (λ (p : List Asked × Bool). p.0) w; unmade = ap (λ (p : List Asked × Bool). p.1) w })
    ]
  ]

  joined_asked : (asked : Asked) → joined rest ≡ Ok (more, bad) → joined (Ok (Some asked) ∷ rest) ≡ Ok (asked ∷ more, bad)
  unfolding joined
  joined_asked asked e = let h = are_joined e in rw (h.syntax, h.range, h.edits, h.unmade) refl

  joined_none : joined rest ≡ Ok (more, bad) → joined (Ok None ∷ rest) ≡ Ok (more, true)
  unfolding joined
  joined_none e = let h = are_joined e in rw (h.syntax, h.range, h.edits) refl

one_less : (left : ℕ) → suc left - 1 ≡ left
one_less left = omega arith

abbrev AreBounded : List Asked → Type 0
AreBounded edits = All (λ asked. IsChangeInBounds asked.change) edits

edits_read : (left : ℕ) (parts : List (List (List ℕ))) (edits : List Asked) (bad : Bool) → AreBounded edits → AreEdits left edits bad parts → joined (readings_of left parts) ≡ Ok (edits, bad)
unfolding joined
edits_read zero [] edits bad b (none, good) = rw (none, good) refl
edits_read (suc left) [] edits bad b (none, good) = rw (none, good) refl
edits_read zero (part ∷ parts) edits bad b (inl (asked, more, are, some, h, rest)) = absurd (omega (arith, some))
edits_read zero (part ∷ parts) edits bad b (inr (others, is, h, rest)) =
    ap (λ reading. joined (reading ∷ readings_of 0 parts)) (unmade_of-read 0 part h) ∙ joined_none (readings_of 0 parts) edits others (edits_read zero parts edits others b rest)
    ∙ ap (λ bad. Ok (edits, bad)) (sym is)
edits_read (suc left) (part ∷ parts) edits bad b (inl (asked, more, are, some, h, rest)) =
    let c : AreBounded (asked ∷ more) = rw are at b in
    ap (λ reading. joined (reading ∷ readings_of left parts)) (edit_of-read asked part (All-head (λ (asked : Asked). IsChangeInBounds asked.change) asked more c) h)
    ∙ joined_asked (readings_of left parts) more bad asked (edits_read left parts more bad (All-tail (λ (asked : Asked). IsChangeInBounds asked.change) asked more c) (rw (one_less left) at rest))
    ∙ ap (λ edits. Ok (edits, bad)) (sym are)
edits_read (suc left) (part ∷ parts) edits bad b (inr (others, is, h, rest)) =
    ap (λ reading. joined (reading ∷ readings_of left parts)) (edit_of-none left part h)
    ∙ joined_none (readings_of left parts) edits others (edits_read left parts edits others b (rw (one_less left) at rest))
    ∙ ap (λ bad. Ok (edits, bad)) (sym is)

edits_of-read : (ws : List (List ℕ)) (edits : List Asked) (bad : Bool) → AreBounded edits → AreEdits max_edits edits bad (slice_split parts_edits ws) → edits_of ws ≡ Ok (edits, bad)
unfolding edits_of
edits_of-read ws edits bad b h = edits_read max_edits (slice_split parts_edits ws) edits bad b h

-- texts
rest_of-read : (bytes text : List ℕ) → bytes ≡ 32 ∷ text → has_escapes text ≡ true → is_utf8 text ≡ true → rest_of bytes ≡ Ok text
unfolding rest_of escaped_text_of text_of
rest_of-read bytes text are escapes utf8 =
    let some : nat_lt 0 (length (32 ∷ text)) ≡ true = grind (arith, nat_tests) in
    rw (are, some, escapes, utf8) refl

name_some : (name : Name) (word : List ℕ) → IsNameWord name word → 0 < length word
name_some (Number n) word h = rw h.1 (omega arith)
name_some (Id id) word h = rw h.marked (omega arith)

-- a line that begins with a word, and what comes after it
begins_with-word : (line head : List ℕ) → first_word line ≡ head → 0 < length head → words line ≡ head ∷ words (after_word line)
begins_with-word line head first some = words_some line (rw first some) ∙ ap (λ head. head ∷ words (after_word line)) first

set_text-read : (rest : List ℕ) (view : Name) (text : List ℕ) → IsNameWord view (first_word rest) → after_word rest ≡ 32 ∷ text → has_escapes text ≡ true → is_utf8 text ≡ true
    → set_text_of rest ≡ Ok (plain.SetText view text)
unfolding set_text_of
set_text-read rest view text name are escapes utf8 =
    rw (begins_with-word rest (first_word rest) refl (name_some view (first_word rest) name), name_of-read view (first_word rest) name, rest_of-read (after_word rest) text are escapes utf8) refl

-- the values of resources
dimen_given-read : (n : ℤ) (unit : LengthUnit) → IsWithin min_mantissa max_mantissa n → dimen_given (signed_decimal n ∷ unit_text (unit_number unit) ∷ []) ≡ Ok (plain.Dimen (dimen_word n unit))
unfolding dimen_given
dimen_given-read n unit within =
    let short = short_within 8388606 8388607 n within.0 within.1 (omega arith) (omega arith) in
    rw (integer_of-signed n short, unit_of-number unit, within_of-within min_mantissa max_mantissa n within) refl

given_of-by : (bytes kind : List ℕ) (ws : List (List ℕ)) → words bytes ≡ kind ∷ ws → given_of bytes ≡ given_by kind (after_word bytes)
unfolding given_of
given_of-by bytes kind ws all = rw all refl

words_after : (bytes kind : List ℕ) (ws : List (List ℕ)) → words bytes ≡ kind ∷ ws → words (after_word bytes) ≡ ws
words_after bytes kind ws all = let h = (line_begins bytes kind ws all).all in let e : kind ∷ words (after_word bytes) ≡ kind ∷ ws = sym h ∙ all in cc

dimen_words : (word : ℕ) (n : ℤ) (unit : LengthUnit) (bytes : List ℕ) → IsWithin min_mantissa max_mantissa n → word ≡ dimen_word n unit → IsGivenBy (plain.Dimen word) bytes
    → words bytes ≡ codes "dimen" ∷ signed_decimal n ∷ unit_text (unit_number unit) ∷ []
dimen_words word n unit bytes within e all = let h : IsGivenBy (plain.Dimen (dimen_word n unit)) bytes = rw e at all in h ∙ rw (mantissa-dimen n unit within, dimen_word-unit n unit) refl

given_of-read : (value : PlainGiven) (bytes : List ℕ) → IsGivenInBounds value → IsGivenBy value bytes → given_of bytes ≡ Ok value
unfolding given_by
given_of-read (plain.Color color) bytes b (word, all, h) =
    given_of-by bytes (codes "color") (word ∷ []) all ∙ rw (words_after bytes (codes "color") (word ∷ []) all, last_color-read color word h) refl
given_of-read (plain.Dimen word) bytes (n, unit, within, e) all =
    let ws : List (List ℕ) = signed_decimal n ∷ unit_text (unit_number unit) ∷ [] in
    let are = dimen_words word n unit bytes within e all in
    given_of-by bytes (codes "dimen") ws are ∙ rw (words_after bytes (codes "dimen") ws are, dimen_given-read n unit within) (ap (λ word. Ok (plain.Dimen word)) (sym e))
given_of-read (plain.Text text) bytes b (first, are, utf8) =
    given_of-by bytes (codes "text") (words (after_word bytes)) (begins_with-word bytes (codes "text") first (omega arith)) ∙ rw (rest_of-read (after_word bytes) text are b utf8) refl

res_of-read : (rest : List ℕ) (id : ℕ) (value : PlainGiven) → 0 < id → IsGivenInBounds value → IsHexWord 64 id (first_word rest) → IsGivenBy value (after_word rest) → res_of rest ≡ Ok (plain.Res id value)
unfolding res_of resource_id
res_of-read rest id value some b name h =
    let other : (id == 0) ≡ false = differs id 0 (λ e. omega (arith, e, some)) in
    rw (begins_with-word rest (first_word rest) refl (name_some (Id id) (first_word rest) name), id_of-read id (first_word rest) name, given_of-read value (after_word rest) b h, other) refl

-- a line by its first word
read_line : (line : List ℕ) (verb : Verb) (ws : List (List ℕ)) → is_utf8 line ≡ true → words line ≡ line_word verb ∷ ws → command_of line ≡ command_by verb (after_word line)
unfolding command_of command_in
read_line line verb ws utf8 all = rw (utf8, all, verb_named-word verb) refl

-- Each line that gives a command is read as it.
pub command_of-given : (c : PlainCommand) (line : List ℕ) → is_utf8 line ≡ true → IsInBounds c → IsWritten c line → command_of line ≡ Ok c
unfolding command_by dpi_of inflate_of into_of add_of remove_of disallow_of up_of cancel_of frame_of bounds_of digest_of hook_of save_of restore_of set_of
command_of-given (plain.Window w h) line utf8 b (ws, all, are) =
    read_line line verb.Window ws utf8 all ∙ rw (words_after line (codes "window") ws all, are, pair_of-signed (pos 1) max_window w h (side_of_window w b.0) (side_of_window h b.1) b.0 b.1) refl
command_of-given (plain.Dpi dpi) line utf8 b (ws, all, are) =
    read_line line verb.Dpi ws utf8 all ∙ rw (words_after line (codes "dpi") ws all, are, integer_of-signed (pos dpi) (dpi_short dpi b.1), natural_within-within min_dpi max_dpi dpi b.0 b.1) refl
command_of-given (plain.Res id value) line utf8 b (first, name, given) = read_line line verb.Res (words (after_word line)) utf8 (begins_with-word line (codes "res") first (omega arith)) ∙ res_of-read (after_word line) id value b.0 b.1 name given
command_of-given (plain.Inflate name None) line utf8 b (ws, all, are) = read_line line verb.Inflate ws utf8 all ∙ rw (words_after line (codes "inflate") ws all, are, b) refl
command_of-given (plain.Inflate name (Some view)) line utf8 b (ws, all, (word, are, h)) = read_line line verb.Inflate ws utf8 all ∙ rw (words_after line (codes "inflate") ws all, are, b, name_of-read view word h) refl
command_of-given (plain.Add parent class width height) line utf8 b (ws, all, (word, are, h)) =
    read_line line verb.Add ws utf8 all ∙ rw (words_after line (codes "add") ws all, are, parent_of-read parent word h, class_named-word class, extents_of-text width height b.0 b.1) refl
command_of-given (plain.Remove view) line utf8 b (ws, all, (word, are, h)) = read_line line verb.Remove ws utf8 all ∙ rw (words_after line (codes "remove") ws all, are, name_of-read view word h) refl
command_of-given (plain.Act view act) line utf8 b (ws, all, (word, rest, are, h, acts)) =
    read_line line (verb.Act (act_verb_of act)) ws utf8 all ∙ rw (words_after line (act_head act) ws all, are, name_of-read view word h, act_by-read act rest b acts) refl
command_of-given (plain.SetText view text) line utf8 b (first, name, are, valid) = read_line line verb.Text (words (after_word line)) utf8 (begins_with-word line (codes "text") first (omega arith)) ∙ set_text-read (after_word line) view text name are b valid
command_of-given (plain.Disallow view on) line utf8 b (ws, all, (word, are, h)) = read_line line verb.Disallow ws utf8 all ∙ rw (words_after line (codes "disallow") ws all, are, name_of-read view word h, on_of-text on) refl
command_of-given (plain.Hook view edits bad) line utf8 b (ws, all, (word, rest, are, h, e)) =
    read_line line verb.Hook ws utf8 all ∙ rw (words_after line (codes "hook") ws all, are, name_of-read view word h, edits_of-read rest edits bad b.1 e) refl
command_of-given (plain.Down p x y) line utf8 b (ws, all, are) = read_line line verb.Down ws utf8 all ∙ rw (words_after line (codes "down") ws all, are, touch_of-words p x y b) refl
command_of-given (plain.Move p x y) line utf8 b (ws, all, are) = read_line line verb.Move ws utf8 all ∙ rw (words_after line (codes "move") ws all, are, touch_of-words p x y b) refl
command_of-given (plain.Up p) line utf8 b (ws, all, are) = read_line line verb.Up ws utf8 all ∙ rw (words_after line (codes "up") ws all, are, integer_of-signed (pos p) (pointer_short p b), pointer_of-id p b) refl
command_of-given plain.Cancel line utf8 b (ws, all, are) = read_line line verb.Cancel ws utf8 all ∙ rw (words_after line (codes "cancel") ws all, are) refl
command_of-given plain.Frame line utf8 b (ws, all, are) = read_line line verb.Frame ws utf8 all ∙ rw (words_after line (codes "frame") ws all, are) refl
command_of-given (plain.Bounds None) line utf8 b (ws, all, are) = read_line line verb.Bounds ws utf8 all ∙ rw (words_after line (codes "bounds") ws all, are) refl
command_of-given (plain.Bounds (Some view)) line utf8 b (ws, all, (word, are, h)) = read_line line verb.Bounds ws utf8 all ∙ rw (words_after line (codes "bounds") ws all, are, name_of-read view word h) refl
command_of-given (plain.Pixels x y w h) line utf8 b (ws, all, are) = read_line line verb.Pixels ws utf8 all ∙ rw (words_after line (codes "pixels") ws all, are) (pixels_of-text x y w h b)
command_of-given plain.Digest line utf8 b (ws, all, are) = read_line line verb.Digest ws utf8 all ∙ rw (words_after line (codes "digest") ws all, are) refl
command_of-given plain.Save line utf8 b (ws, all, are) = read_line line verb.Save ws utf8 all ∙ rw (words_after line (codes "save") ws all, are) refl
command_of-given (plain.Restore None) line utf8 b (ws, all, are) = read_line line verb.Restore ws utf8 all ∙ rw (words_after line (codes "restore") ws all, are) refl
command_of-given (plain.Restore (Some text)) line utf8 b (ws, all, are) = read_line line verb.Restore ws utf8 all ∙ rw (words_after line (codes "restore") ws all, are, state_text_of-text text b) refl
