-- Hooks, read from their texts.
use Rattle.std.proofs.Common.{◌≡◌, ℕ, suc, zero, ◌-◌, ◌<◌, ◌≤◌, Bool, true, false, refl, ap, sym, ◌∙◌, inl, inr, List, [], ◌∷◌, ◌++◌, length, arith, append_assoc}
use Rattle.std.specs.Prelude.{◌/◌, ◌%◌, ◌||◌, if◌then◌else◌, nat_lt, map, ℤ, pos, codes, Some, None, Result, Ok, Err}
use Rattle.std.specs.Fmt.{signed_decimal}
use Rattle.std.specs.List.{All, slice_split}
use Rattle.std.proofs.lemmas.Bool.{cases_Bool}
use Rattle.std.proofs.lemmas.Bool.Decides.{nat_tests}
use Rattle.std.proofs.lemmas.List.{append-nil}
use Rattle.std.proofs.lemmas.List.Elements.{All-cons, All-head, All-tail}
use Rattle.std.proofs.lemmas.List.Splits.{slice_split_at, slice_split_none}
use Rattle.std.proofs.lemmas.Slice.Eq.{bytes_eq-Decides}
use Rattle.geom_core.specs.declared.geometry.Insets.{Insets}
use Rattle.view_model.specs.declared.changes.Change.{Change}
use Rattle.view_model.specs.declared.changes.Change.TheVariants as change
use Rattle.view_model.specs.Numbers.{max_edits}
use Rattle.view_model.specs.declared.placing.Gravity.{Gravity}
use Rattle.script_lines.specs.reading.Changes.{IsChangeInBounds}
use Rattle.line_words.specs.words.Dimensions.{IsExtent, dimension_of}
use Rattle.script_lines.specs.reading.Gathered.{joined_after, reading_of}
use Rattle.line_words.specs.words.Gravities.{across_of, down_of, gravity_of, with_word, with_words}
use Rattle.script_lines.specs.reading.Hooks.{asked_of, edit_of, edits_of, joined, parts_edits, readings_of, unmade_of}
use Rattle.script_lines.specs.reading.Verbs.{act_named, change_named, verb_named}
use Rattle.line_words.specs.words.Names.{id_of, name_of}
use Rattle.line_words.specs.words.Numbers.{integer_of, natural_of}
use Rattle.script_lines.specs.commands.Spelled.{AskedHasLine, ChangeHasLine, change_head, change_verb_of, change_words, edit_words, edits_words, hook_edits, insets_words, unmade_edits}
use Rattle.line_words.specs.Spelled.{HasText, HasWord, extent_text, gravity_text, name_text}
use Rattle.script_lines.specs.declared.commands.Asked.{Asked}
use Rattle.line_words.specs.declared.fault.LineFault.{LineFault}
use Rattle.line_words.specs.declared.fault.LineFault.TheVariants.{Syntax}
use Rattle.line_words.specs.declared.words.naming.Name.{Name}
use Rattle.script_lines.proofs.readings.HookLaws.{edits_asked, edits_end, edits_start, edits_unmade}
use Rattle.script_lines.proofs.readings.VerbLaws.{change_named-word}
use Rattle.script_lines.proofs.spelled.SpelledChanges.{AreShort, change_reads, padding_short, sides_short, size_short}
use Rattle.line_words.proofs.spelled.SpelledWeights.{digits_short, whole_short}
use Rattle.line_words.proofs.spelled.SpelledDimensions.{dimension_of-text}
use Rattle.line_words.proofs.spelled.SpelledGravities.{gravity_back}
use Rattle.line_words.proofs.spelled.SpelledNames.{name_of-text, name_word}
use Rattle.line_words.proofs.spelled.SpelledNumbers.{IsShort, integer_of-signed}
use Rattle.line_words.proofs.spelled.SpelledWords.{AreWords, word_by}

-- an edit, read from its words
record EditReads (asked : Asked) : Type 0 where
  words : AreWords (edit_words asked)
  value : edit_of (edit_words asked) ≡ Ok (Some asked)
  whole : All (λ word. parts_edits word ≡ false) (edit_words asked)

asked_of-words : (asked : Asked) → IsChangeInBounds asked.change → AskedHasLine asked → asked_of (change_verb_of asked.change) (name_text asked.view ∷ change_words asked.change) ≡ Ok asked
unfolding asked_of
asked_of-words asked b l = rw (name_of-text asked.view l.0, (change_reads asked.change b l.1).value) refl

edit_of-words : (asked : Asked) → IsChangeInBounds asked.change → AskedHasLine asked → edit_of (edit_words asked) ≡ Ok (Some asked)
unfolding edit_of
edit_of-words asked b l = rw (change_named-word (change_verb_of asked.change), asked_of-words asked b l) refl

-- words none of which separates edits
abbrev AreApart : List (List ℕ) → Type 0
AreApart [] = Unit {0}
AreApart (word ∷ words) = (parts_edits word ≡ false) × AreApart words

apart : (words : List (List ℕ)) → AreApart words → All (λ word. parts_edits word ≡ false) words
apart [] h = λ k d short. absurd (omega (arith, short))
apart (word ∷ words) h = All-cons (λ word. parts_edits word ≡ false) word words h.0 (apart words h.1)

is_part : (word : List ℕ) → parts_edits word ≡ true → word ≡ codes ";"
is_part word h = (bytes_eq-Decides word (codes ";")).0 h

-- a word that is read as something does not separate edits, if that something does not
no_part : {A : Type 0} (read : List ℕ → Result A LineFault) (word : List ℕ) (a : A) → read word ≡ Ok a → read (codes ";") ≡ Err Syntax → parts_edits word ≡ false
no_part read word a h k = elim (cases_Bool (parts_edits word)) [
  | inl same ↦ absurd (let e : Ok a ≡ Err Syntax = sym h ∙ ap read (is_part word same) ∙ k in cc)
  | inr other ↦ other
]

name_apart : (view : Name) → HasText view → parts_edits (name_text view) ≡ false
unfolding name_of id_of
name_apart view l = no_part name_of (name_text view) view (name_of-text view l) refl

signed_apart : (z : ℤ) → IsShort z → parts_edits (signed_decimal z) ≡ false
unfolding integer_of natural_of
signed_apart z short = no_part integer_of (signed_decimal z) z (integer_of-signed z short) refl

extent_apart : (z : ℤ) → IsExtent z → parts_edits (extent_text z) ≡ false
unfolding dimension_of integer_of natural_of
extent_apart z extent = no_part dimension_of (extent_text z) _ (dimension_of-text z extent) refl

sides_apart : (sides : Insets) → AreShort sides → AreApart (insets_words sides)
sides_apart sides h = (signed_apart sides.left h.left, (signed_apart sides.top h.top, (signed_apart sides.right h.right, (signed_apart sides.bottom h.bottom, tt))))

kids_apart : (kids : Bool) → parts_edits (if kids then codes "kids" else codes "self") ≡ false
kids_apart true = refl
kids_apart false = refl

gravity_apart : (gravity : Gravity) → HasWord gravity → parts_edits (gravity_text gravity) ≡ false
unfolding gravity_of with_words with_word across_of down_of
gravity_apart gravity l = no_part gravity_of (gravity_text gravity) gravity (gravity_back gravity l).value refl

change_apart : (c : Change) → IsChangeInBounds c → ChangeHasLine c → AreApart (change_words c)
change_apart (change.Size width height) b l = (extent_apart width b.0, (extent_apart height b.1, tt))
change_apart (change.Min size) b l = (signed_apart size.w (size_short size.w b.0), (signed_apart size.h (size_short size.h b.1), tt))
change_apart (change.Margins sides) b l = sides_apart sides (sides_short 1048574 sides (omega arith) b)
change_apart (change.Padding sides) b l = sides_apart sides (padding_short sides b)
change_apart (change.Weight weight) b l =
    (signed_apart (pos (weight / 256)) (digits_short _ (whole_short weight b)), (signed_apart (pos (weight % 256)) (digits_short _ (omega arith)), tt))
change_apart (change.Gravity kids gravity) b l = (kids_apart kids, (gravity_apart gravity l, tt))
change_apart (change.Background color) b l = (refl, tt)

head_apart : (c : Change) → parts_edits (change_head c) ≡ false
head_apart (change.Size width height) = refl
head_apart (change.Min size) = refl
head_apart (change.Margins sides) = refl
head_apart (change.Padding sides) = refl
head_apart (change.Weight weight) = refl
head_apart (change.Gravity kids gravity) = refl
head_apart (change.Background color) = refl

edit_reads : (asked : Asked) → IsChangeInBounds asked.change → AskedHasLine asked → EditReads asked
edit_reads asked b l =
    let reads = change_reads asked.change b l.1 in
    record {
      words = (reads.head, (name_word asked.view l.0, reads.words));
      value = edit_of-words asked b l;
      whole = apart (edit_words asked) (head_apart asked.change, (name_apart asked.view l.0, change_apart asked.change b l.1));
    }

-- edits with the separating word between them
parts-joined : (edits : List (List (List ℕ))) → 0 < length edits → All (λ words. All (λ word. parts_edits word ≡ false) words) edits → slice_split parts_edits (edits_words edits) ≡ edits
parts-joined [] some h = absurd (omega (arith, some))
parts-joined (edit ∷ []) some h = slice_split_none parts_edits edit (All-head (λ words. All (λ word. parts_edits word ≡ false) words) edit [] h)
parts-joined (edit ∷ next ∷ edits) some h =
    let P = λ (words : List (List ℕ)). All (λ word. parts_edits word ≡ false) words in
    slice_split_at parts_edits edit (codes ";") (edits_words (next ∷ edits)) (All-head P edit (next ∷ edits) h) refl
    ∙ ap (λ more. edit ∷ more) (parts-joined (next ∷ edits) (omega arith) (All-tail P edit (next ∷ edits) h))

words-append : (a b : List (List ℕ)) → AreWords a → AreWords b → AreWords (a ++ b)
words-append [] b h k = k
words-append (word ∷ a) b h k = (h.0, words-append a b h.1 k)

edits_words-words : (edits : List (List (List ℕ))) → All AreWords edits → AreWords (edits_words edits)
edits_words-words [] h = tt
edits_words-words (edit ∷ []) h = All-head AreWords edit [] h
edits_words-words (edit ∷ next ∷ edits) h =
    words-append edit (codes ";" ∷ edits_words (next ∷ edits)) (All-head AreWords edit (next ∷ edits) h)
    (word_by (codes ";") refl, edits_words-words (next ∷ edits) (All-tail AreWords edit (next ∷ edits) h))

-- an edit that no hook can make
unmade : (left : ℕ) → reading_of left (codes "frame" ∷ []) ≡ Ok None
unfolding reading_of edit_of unmade_of change_named act_named verb_named
unmade zero = refl
unmade (suc left) = let some : nat_lt 0 (suc left) ≡ true = grind (arith, nat_tests) in rw some refl

-- edits that are read one by one, and those after them
reads-then : (edits : List Asked) (asked : List Asked) (left : ℕ) (more : List (List (List ℕ))) → length edits ≤ left → All EditReads edits
    → joined_after asked false false (readings_of left (map edit_words edits ++ more)) ≡ joined_after (asked ++ edits) false false (readings_of (left - length edits) more)
unfolding reading_of
reads-then [] asked left more most h = let e : left - 0 ≡ left = omega arith in rw (append-nil asked, e) refl
reads-then (edit ∷ edits) asked left more most h =
    let some : nat_lt 0 left ≡ true = grind (arith, nat_tests, most) in
    let r : reading_of left (edit_words edit) ≡ Ok (Some edit) = rw some (All-head EditReads edit edits h).value in
    let e : left - 1 - length edits ≡ left - length (edit ∷ edits) = omega arith in
    edits_asked asked left false false (edit_words edit) (map edit_words edits ++ more) edit r
    ∙ reads-then edits (asked ++ edit ∷ []) (left - 1) more (omega (arith, most)) (All-tail EditReads edit edits h)
    ∙ rw (e, append_assoc asked (edit ∷ []) edits) refl

-- what holds of each edit that a hook has as its text
hook_edits-all : (P : List (List ℕ) → Type 0) → ((asked : Asked) → EditReads asked → P (edit_words asked)) → P (codes "frame" ∷ []) → (edits : List Asked) (bad : Bool) → All EditReads edits
    → All P (hook_edits edits bad)
hook_edits-all P each last [] true h = All-cons P (codes "frame" ∷ []) [] last (λ k d short. absurd (omega (arith, short)))
hook_edits-all P each last [] false h = λ k d short. absurd (omega (arith, short))
hook_edits-all P each last (edit ∷ edits) bad h =
    All-cons P (edit_words edit) (hook_edits edits bad) (each edit (All-head EditReads edit edits h)) (hook_edits-all P each last edits bad (All-tail EditReads edit edits h))

hook_edits-some : (edits : List Asked) (bad : Bool) → (bad || nat_lt 0 (length edits)) ≡ true → 0 < length (hook_edits edits bad)
hook_edits-some [] true h = omega arith
hook_edits-some [] false h = absurd (cc)
hook_edits-some (edit ∷ edits) bad h = omega arith

-- the edit that no hook can make, if there is to be one
reads-last : (edits : List Asked) (bad : Bool) (left : ℕ) → joined_after edits false false (readings_of left (unmade_edits bad)) ≡ Ok (edits, bad)
reads-last edits false left = edits_end edits left false false
reads-last edits true left = edits_unmade edits left false false (codes "frame" ∷ []) [] (unmade left) ∙ edits_end edits (left - 1) true false

edits_of-words : (edits : List Asked) (bad : Bool) → length edits ≤ max_edits → All EditReads edits → (bad || nat_lt 0 (length edits)) ≡ true → edits_of (edits_words (hook_edits edits bad)) ≡ Ok (edits, bad)
unfolding edits_of
edits_of-words edits bad most reads some =
    let P = λ (words : List (List ℕ)). All (λ word. parts_edits word ≡ false) words in
    let apart = hook_edits-all P (λ asked r. r.whole) (All-cons (λ word. parts_edits word ≡ false) (codes "frame") [] refl (λ k d short. absurd (omega (arith, short)))) edits bad reads in
    ap (λ parts. joined (readings_of max_edits parts)) (parts-joined (hook_edits edits bad) (hook_edits-some edits bad some) apart)
    ∙ sym (edits_start (hook_edits edits bad))
    ∙ reads-then edits [] max_edits (unmade_edits bad) most reads
    ∙ reads-last edits bad (max_edits - length edits)

-- the edits of a hook, read from its text
pub record HookReads (edits : List Asked) (bad : Bool) : Type 0 where
  pub words : AreWords (edits_words (hook_edits edits bad))
  pub value : edits_of (edits_words (hook_edits edits bad)) ≡ Ok (edits, bad)

pub hook_reads : (edits : List Asked) (bad : Bool) → length edits ≤ max_edits → All (λ asked. IsChangeInBounds asked.change) edits → All AskedHasLine edits → (bad || nat_lt 0 (length edits)) ≡ true
    → HookReads edits bad
hook_reads edits bad most b l some =
    let reads : All EditReads edits = λ k d short. edit_reads _ (b k d short) (l k d short) in
    record {
      words = edits_words-words (hook_edits edits bad) (hook_edits-all AreWords (λ asked r. r.words) (word_by (codes "frame") refl, tt) edits bad reads);
      value = edits_of-words edits bad most reads some;
    }
