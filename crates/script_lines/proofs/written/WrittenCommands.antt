-- The lines from which commands are read.
use Rattle.std.proofs.Common.{◌≡◌, ℕ, ◌+◌, ◌<◌, ◌≤◌, Bool, true, refl, ap, sym, ◌∙◌, inl, inr, List, [], ◌∷◌, length, drop, arith}
use Rattle.std.specs.Prelude.{◌==◌, nat_lt, ℤ, pos, codes, IfOk, Option, Some, None, Result, Ok}
use Rattle.std.specs.Fmt.{signed_decimal}
use Rattle.std.specs.List.{prefix_len, slice_split}
use Rattle.std.specs.Str.{is_utf8}
use Rattle.std.proofs.lemmas.Bool.{cases_Bool, cases_lt}
use Rattle.std.proofs.lemmas.Bool.Decides.{nat_tests}
use Rattle.view_model.specs.declared.changes.Act.{Act}
use Rattle.view_model.proofs.ClassLaws.{class_named-is}
use Rattle.view_model.specs.Classes.{class_named, class_word}
use Rattle.view_model.specs.Numbers.{max_edits}
use Rattle.script_lines.specs.reading.Changes.{act_by}
use Rattle.line_words.specs.words.Colors.{last_color}
use Rattle.script_lines.specs.reading.Commands.{add_of, bounds_of, command_by, command_in, command_of, digest_of, disallow_of, dpi_of, frame_of, inflate_of, into_of, remove_of, set_of, set_text_of, hook_of}
use Rattle.line_words.specs.words.Dimensions.{extents_of}
use Rattle.line_words.specs.words.Escapes.{escaped_text_of, has_escapes, rest_of}
use Rattle.line_words.specs.words.FileNames.{file_name_in}
use Rattle.script_lines.specs.reading.Hooks.{edits_of, parts_edits}
use Rattle.line_words.specs.words.Names.{id_in, known, name_in, parent_in}
use Rattle.line_words.specs.words.Numbers.{IsWithin, integer_in, natural_within, pair_of, within_of}
use Rattle.script_lines.specs.reading.Pixels.{is_small, part_of, pixels_of}
use Rattle.script_lines.specs.commands.PlainCommands.{PlainCommand, PlainGiven}
use Rattle.script_lines.specs.commands.PlainCommands as plain
use Rattle.script_lines.specs.reading.Resources.{dimen_given, given_by, given_of, res_of, resource_id, unit_number, unit_of}
use Rattle.line_words.specs.Spelled.{extent_text, on_text}
use Rattle.script_lines.specs.commands.Spelled.{touch_words, unit_text}
use Rattle.script_lines.specs.reading.States.{is_state_text, restore_of, save_of, state_text_of}
use Rattle.script_lines.specs.reading.Touches.{cancel_of, pointer_of, touch_of, up_of}
use Rattle.script_lines.specs.reading.Verbs.{act_word, line_word, verb_named}
use Rattle.line_words.specs.words.Words.{◌>>=◌, after_spaces, after_word, end_of, first_word, in_word, literal_in, on_of, text_of, word_in, words}
use Rattle.script_lines.specs.commands.Written.{AreEdits, IsGivenBy, IsWritten}
use Rattle.line_words.specs.Written.{IsColorWord, IsHexWord, IsNameWord, IsParentWord}
use Rattle.script_lines.specs.declared.commands.Asked.{Asked}
use Rattle.script_lines.specs.Numbers.{max_dpi, max_mantissa, max_point, max_pointer, max_touch, max_window, min_dpi, min_mantissa, min_touch}
use Rattle.line_words.specs.declared.fault.LineFault.{LineFault}
use Rattle.line_words.specs.declared.words.naming.Name.{Name}
use Rattle.script_lines.specs.declared.reading.touches.Touch.{Touch}
use Rattle.script_lines.specs.declared.verbs.ActVerb.{ActVerb}
use Rattle.script_lines.specs.declared.verbs.Verb.{Verb}
use Rattle.script_lines.specs.declared.verbs.Verb.TheVariants as verb
use Rattle.line_words.proofs.texts.OkLaws.{if_either, if_known, if_map_with, if_test, if_then_with, if_word}
use Rattle.script_lines.proofs.readings.VerbLaws.{verb_named-written}
use Rattle.script_lines.proofs.spelled.SpelledResources.{dimen_word-unit, mantissa-dimen}
use Rattle.line_words.proofs.texts.WordLaws.{one_add, words_none, words_some}
use Rattle.script_lines.proofs.written.WrittenActs.{AreAct, act_by-written}
use Rattle.line_words.proofs.written.WrittenDimensions.{extents_of-written}
use Rattle.line_words.proofs.written.WrittenBounds.{natural_within-written, pair_of-written, within_of-written}
use Rattle.script_lines.proofs.written.WrittenHooks.{edits_of-written}
use Rattle.line_words.proofs.written.WrittenWords.{FirstWord, end_of-written, file_name_in-written, id_in-written, integer_in-written, last_color-written, literal_in-written, name_in-written, on_of-written, parent_in-written, word_in-written}
use Rattle.script_lines.proofs.written.WrittenTables.{unit_of-written}

-- a line that begins with a word
pub record LineBegins (line head : List ℕ) : Type 0 where
  pub first : first_word line ≡ head
  pub all : words line ≡ head ∷ words (after_word line)

pub line_begins : (line head : List ℕ) (rest : List (List ℕ)) → words line ≡ head ∷ rest → LineBegins line head
line_begins line head rest are = elim (cases_lt 0 (length (first_word line))) [
  | inl some ↦ (let is = words_some line some in record { first = cc; all = cc })
  | inr none ↦ absurd (let is = words_none line (omega (arith, none)) in cc)
]

-- what comes after a word begins with a space, if there is any of it
rest_begins : (s : List ℕ) → 0 < length (drop (prefix_len in_word s) s) → drop (prefix_len in_word s) s ≡ 32 ∷ drop 1 (drop (prefix_len in_word s) s)
rest_begins [] h = absurd (omega (arith, h))
rest_begins (b ∷ bs) h = elim (cases_Bool (b == 32)) [
  | inl e ↦ (let z : prefix_len in_word (b ∷ bs) ≡ 0 = rw e refl in let is : b ≡ 32 = grind (arith, nat_tests) in rw z (ap (λ b. b ∷ bs) is))
  | inr e ↦ (
      let z : prefix_len in_word (b ∷ bs) ≡ 1 + prefix_len in_word bs = rw e refl in
      let same : drop (prefix_len in_word (b ∷ bs)) (b ∷ bs) ≡ drop (prefix_len in_word bs) bs = ap (λ n. drop n (b ∷ bs)) (z ∙ one_add (prefix_len in_word bs)) in
      let some : 0 < length (drop (prefix_len in_word bs) bs) = omega (arith, h, ap length same) in
      same ∙ rest_begins bs some ∙ ap (λ rest. 32 ∷ drop 1 rest) (sym same))
]

after_word-begins : (bytes : List ℕ) → 0 < length (after_word bytes) → after_word bytes ≡ 32 ∷ drop 1 (after_word bytes)
unfolding after_word
after_word-begins bytes h = rest_begins (after_spaces bytes) h

-- what comes after the first word is a space and this text
abbrev EndsInText : List ℕ → List ℕ → Type 0
EndsInText bytes text = (after_word bytes ≡ 32 ∷ text) × (is_utf8 text ≡ true)

rest_of-written : (bytes : List ℕ) → IfOk (rest_of (after_word bytes)) (λ text. EndsInText bytes text)
unfolding rest_of escaped_text_of text_of
rest_of-written bytes =
    let rest = after_word bytes in
    let P = λ (text : List ℕ). EndsInText bytes text in
    if_test P (nat_lt 0 (length rest)) _ _ (λ some.
    let h = after_word-begins bytes (grind (arith, nat_tests)) in
    if_either P (has_escapes (drop 1 rest)) _ _ (if_test P (is_utf8 (drop 1 rest)) _ _ (λ utf8. (h, utf8)) tt) tt) tt

-- the values of resources
dimen_given-written : (ws : List (List ℕ)) (bytes : List ℕ) → words bytes ≡ codes "dimen" ∷ ws → IfOk (dimen_given ws) (λ value. IsGivenBy value bytes)
unfolding dimen_given
dimen_given-written ws bytes all =
    let P = λ (value : PlainGiven). IsGivenBy value bytes in
    if_then_with (λ (r : ℤ × List (List ℕ)). ws ≡ signed_decimal r.0 ∷ r.1) P (integer_in ws) _ (integer_in-written ws) (λ n are.
    if_then_with (λ (r : List ℕ × List (List ℕ)). n.1 ≡ r.0 ∷ r.1) P (word_in n.1) _ (word_in-written n.1) (λ u more.
    if_then_with (λ unit. u.0 ≡ unit_text (unit_number unit)) P (unit_of u.0) _ (unit_of-written u.0) (λ unit is.
    if_then_with (λ _. u.1 ≡ []) P (end_of u.1) _ (end_of-written u.1) (λ _ end.
    if_then_with (λ z. (n.0 ≡ z) × IsWithin min_mantissa max_mantissa z) P (within_of min_mantissa max_mantissa n.0) _ (within_of-written min_mantissa max_mantissa n.0) (λ z h.
    rw (mantissa-dimen z unit h.1, dimen_word-unit z unit) (all ∙ rw (are, more, end, h.0, is) refl))))))

given_by-written : (kind bytes : List ℕ) → LineBegins bytes kind → IfOk (given_by kind (after_word bytes)) (λ value. IsGivenBy value bytes)
unfolding given_by
given_by-written kind bytes head =
    let P = λ (value : PlainGiven). IsGivenBy value bytes in
    let ws = words (after_word bytes) in
    if_word P kind (codes "color") _ _
    (λ e. if_map_with (λ color. FirstWord (IsColorWord color) ws []) P plain.Color (last_color ws) (last_color-written ws) (λ color h. (h.word, head.all ∙ rw (e, h.are) refl, h.fits)))
    (if_word P kind (codes "dimen") _ _ (λ e. dimen_given-written ws bytes (head.all ∙ ap (λ kind. kind ∷ ws) e))
    (if_word P kind (codes "text") _ _
    (λ e. if_map_with (EndsInText bytes) P plain.Text (rest_of (after_word bytes)) (rest_of-written bytes) (λ text h. (head.first ∙ e, h.0, h.1))) tt))

given_of-written : (bytes : List ℕ) → IfOk (given_of bytes) (λ value. IsGivenBy value bytes)
unfolding given_of
given_of-written bytes =
    if_then_with (λ (r : List ℕ × List (List ℕ)). words bytes ≡ r.0 ∷ r.1) (λ (value : PlainGiven). IsGivenBy value bytes) (word_in (words bytes)) _ (word_in-written (words bytes))
    (λ kind are. given_by-written kind.0 bytes (line_begins bytes kind.0 kind.1 are))

res_of-written : (line : List ℕ) → first_word line ≡ codes "res" → IfOk (res_of (after_word line)) (λ command. IsWritten command line)
unfolding res_of resource_id
res_of-written line first =
    let P = λ (command : PlainCommand). IsWritten command line in
    let rest = after_word line in
    if_then_with (λ (r : ℕ × List (List ℕ)). FirstWord (IsHexWord 64 r.0) (words rest) r.1) P (id_in (words rest)) _ (id_in-written (words rest)) (λ id h.
    if_then_with (λ value. IsGivenBy value (after_word rest)) P (given_of (after_word rest)) _ (given_of-written (after_word rest)) (λ value given.
    if_then_with (λ n. id.0 ≡ n) P (resource_id id.0) _ (if_either (λ n. id.0 ≡ n) (id.0 == 0) _ _ tt refl) (λ n e.
    (first, rw ((line_begins rest h.word id.1 h.are).first, sym e) h.fits, given))))

set_text_of-written : (line : List ℕ) → first_word line ≡ codes "text" → IfOk (set_text_of (after_word line)) (λ command. IsWritten command line)
unfolding set_text_of
set_text_of-written line first =
    let P = λ (command : PlainCommand). IsWritten command line in
    let rest = after_word line in
    if_then_with (λ (r : Name × List (List ℕ)). FirstWord (IsNameWord r.0) (words rest) r.1) P (name_in (words rest)) _ (name_in-written (words rest)) (λ view h.
    if_map_with (EndsInText rest) P (plain.SetText view.0) (rest_of (after_word rest)) (rest_of-written rest) (λ text is.
    (first, rw (line_begins rest h.word view.1 h.are).first h.fits, is.0, is.1)))

-- the words of a line, of which the first is this
abbrev Line : List ℕ → List ℕ → List (List ℕ) → Type 0
Line line head ws = words line ≡ head ∷ ws

abbrev Gives : List ℕ → Result PlainCommand LineFault → Type 0
Gives line r = IfOk r (λ command. IsWritten command line)

no_words : (line : List ℕ) (ws : List (List ℕ)) (command : PlainCommand) → (ws ≡ [] → IsWritten command line) → Gives line (end_of ws >>= λ _. Ok command)
no_words line ws command h = if_then_with (λ _. ws ≡ []) (λ command. IsWritten command line) (end_of ws) _ (end_of-written ws) (λ _ end. h end)

dpi_of-written : (line : List ℕ) (ws : List (List ℕ)) → Line line (codes "dpi") ws → Gives line (dpi_of ws)
unfolding dpi_of
dpi_of-written line ws all =
    let P = λ (command : PlainCommand). IsWritten command line in
    if_then_with (λ (r : ℤ × List (List ℕ)). ws ≡ signed_decimal r.0 ∷ r.1) P (integer_in ws) _ (integer_in-written ws) (λ n are.
    if_then_with (λ _. n.1 ≡ []) P (end_of n.1) _ (end_of-written n.1) (λ _ end.
    if_map_with (λ dpi. (n.0 ≡ pos dpi) × (min_dpi ≤ dpi) × (dpi ≤ max_dpi)) P plain.Dpi (natural_within min_dpi max_dpi n.0) (natural_within-written min_dpi max_dpi n.0) (λ dpi h.
    (ws, all, are ∙ rw (end, h.0) refl))))

abbrev AreIntoWords : Option Name → List (List ℕ) → Type 0
AreIntoWords None ws = ws ≡ []
AreIntoWords (Some view) ws = (word : List ℕ) × (ws ≡ codes "into" ∷ word ∷ []) × IsNameWord view word

into_of-written : (ws : List (List ℕ)) → IfOk (into_of ws) (λ into. AreIntoWords into ws)
unfolding into_of
into_of-written [] = refl
into_of-written (word ∷ ws) =
    let all = word ∷ ws in
    let P = λ (into : Option Name). AreIntoWords into (word ∷ ws) in
    if_then_with (λ rest. all ≡ codes "into" ∷ rest) P (literal_in (codes "into") all) _ (literal_in-written (codes "into") all) (λ rest are.
    if_then_with (λ (r : Name × List (List ℕ)). FirstWord (IsNameWord r.0) rest r.1) P (name_in rest) _ (name_in-written rest) (λ view h.
    if_then_with (λ _. view.1 ≡ []) P (end_of view.1) _ (end_of-written view.1) (λ _ end. (h.word, are ∙ rw (h.are, end) refl, h.fits))))

inflate_line : (line name : List ℕ) (ws rest : List (List ℕ)) (into : Option Name) → Line line (codes "inflate") ws → ws ≡ name ∷ rest → AreIntoWords into rest → IsWritten (plain.Inflate name into) line
inflate_line line name ws rest None all are none = (ws, all, are ∙ ap (λ rest. name ∷ rest) none)
inflate_line line name ws rest (Some view) all are (word, is, fits) = (ws, all, (word, are ∙ ap (λ rest. name ∷ rest) is, fits))

inflate_of-written : (line : List ℕ) (ws : List (List ℕ)) → Line line (codes "inflate") ws → Gives line (inflate_of ws)
unfolding inflate_of
inflate_of-written line ws all =
    let P = λ (command : PlainCommand). IsWritten command line in
    if_then_with (λ (r : List ℕ × List (List ℕ)). ws ≡ r.0 ∷ r.1) P (file_name_in ws) _ (file_name_in-written ws) (λ name are.
    if_map_with (λ into. AreIntoWords into name.1) P (plain.Inflate name.0) (into_of name.1) (into_of-written name.1) (λ into is. inflate_line line name.0 ws name.1 into all are is))

add_of-written : (line : List ℕ) (ws : List (List ℕ)) → Line line (codes "add") ws → Gives line (add_of ws)
unfolding add_of
add_of-written line ws all =
    let P = λ (command : PlainCommand). IsWritten command line in
    if_then_with (λ (r : Option Name × List (List ℕ)). FirstWord (IsParentWord r.0) ws r.1) P (parent_in ws) _ (parent_in-written ws) (λ parent h.
    if_then_with (λ (r : List ℕ × List (List ℕ)). parent.1 ≡ r.0 ∷ r.1) P (word_in parent.1) _ (word_in-written parent.1) (λ c more.
    if_then_with (λ class. c.0 ≡ class_word class) P (known (class_named c.0)) _ (if_known (λ class. c.0 ≡ class_word class) (class_named c.0) (class_named-is c.0)) (λ class is.
    if_map_with (λ (extents : ℤ × ℤ). c.1 ≡ extent_text extents.0 ∷ extent_text extents.1 ∷ []) P _ (extents_of c.1) (extents_of-written c.1) (λ extents last.
    (ws, all, (h.word, h.are ∙ rw (more, is, last) refl, h.fits))))))

-- a line with a view alone
view_of-written : (line : List ℕ) (ws : List (List ℕ)) (make : Name → PlainCommand) → ((view : Name) (word : List ℕ) → ws ≡ word ∷ [] → IsNameWord view word → IsWritten (make view) line)
    → Gives line (name_in ws >>= λ view. end_of view.1 >>= λ _. Ok (make view.0))
view_of-written line ws make h =
    let P = λ (command : PlainCommand). IsWritten command line in
    if_then_with (λ (r : Name × List (List ℕ)). FirstWord (IsNameWord r.0) ws r.1) P (name_in ws) _ (name_in-written ws) (λ view is.
    if_then_with (λ _. view.1 ≡ []) P (end_of view.1) _ (end_of-written view.1) (λ _ end. h view.0 is.word (is.are ∙ ap (λ more. is.word ∷ more) end) is.fits))

bounds_of-written : (line : List ℕ) (ws : List (List ℕ)) → Line line (codes "bounds") ws → Gives line (bounds_of ws)
unfolding bounds_of
bounds_of-written line [] all = ([], all, refl)
bounds_of-written line (word ∷ ws) all = view_of-written line (word ∷ ws) (λ view. plain.Bounds (Some view)) (λ view name are fits. (word ∷ ws, all, (name, are, fits)))

disallow_of-written : (line : List ℕ) (ws : List (List ℕ)) → Line line (codes "disallow") ws → Gives line (disallow_of ws)
unfolding disallow_of
disallow_of-written line ws all =
    let P = λ (command : PlainCommand). IsWritten command line in
    if_then_with (λ (r : Name × List (List ℕ)). FirstWord (IsNameWord r.0) ws r.1) P (name_in ws) _ (name_in-written ws) (λ view h.
    if_then_with (λ (r : List ℕ × List (List ℕ)). view.1 ≡ r.0 ∷ r.1) P (word_in view.1) _ (word_in-written view.1) (λ b more.
    if_then_with (λ on. b.0 ≡ on_text on) P (on_of b.0) _ (on_of-written b.0) (λ on is.
    if_then_with (λ _. b.1 ≡ []) P (end_of b.1) _ (end_of-written b.1) (λ _ end. (ws, all, (h.word, h.are ∙ rw (more, is, end) refl, h.fits))))))

set_of-written : (line : List ℕ) (verb : ActVerb) (ws : List (List ℕ)) → Line line (act_word verb) ws → Gives line (set_of verb ws)
unfolding set_of
set_of-written line verb ws all =
    let P = λ (command : PlainCommand). IsWritten command line in
    if_then_with (λ (r : Name × List (List ℕ)). FirstWord (IsNameWord r.0) ws r.1) P (name_in ws) _ (name_in-written ws) (λ view h.
    if_map_with (AreAct (act_word verb) view.1) P (λ (act : Act). plain.Act view.0 act) (act_by verb view.1) (act_by-written verb view.1) (λ act a.
    (ws, all ∙ ap (λ head. head ∷ ws) a.0, (h.word, view.1, h.are, h.fits, a.1))))

hook_of-written : (line : List ℕ) (ws : List (List ℕ)) → Line line (codes "hook") ws → Gives line (hook_of ws)
unfolding hook_of
hook_of-written line ws all =
    let P = λ (command : PlainCommand). IsWritten command line in
    if_then_with (λ (r : Name × List (List ℕ)). FirstWord (IsNameWord r.0) ws r.1) P (name_in ws) _ (name_in-written ws) (λ view h.
    if_map_with (λ (edits : List Asked × Bool). AreEdits max_edits edits.0 edits.1 (slice_split parts_edits view.1)) P _ (edits_of view.1) (edits_of-written view.1) (λ edits e.
    (ws, all, (h.word, view.1, h.are, h.fits, e))))

restore_of-written : (line : List ℕ) (ws : List (List ℕ)) → Line line (codes "restore") ws → Gives line (restore_of ws)
unfolding restore_of state_text_of
restore_of-written line [] all = ([], all, refl)
restore_of-written line (word ∷ ws) all =
    let P = λ (command : PlainCommand). IsWritten command line in
    if_then_with (λ text. word ≡ text) P _ _ (if_either (λ text. word ≡ text) (is_state_text word) _ _ refl tt) (λ text e.
    if_then_with (λ _. ws ≡ []) P (end_of ws) _ (end_of-written ws) (λ _ end. (word ∷ ws, all, rw (e, end) refl)))

touch_of-written : (ws : List (List ℕ)) → IfOk (touch_of ws) (λ touch. ws ≡ touch_words touch.pointer touch.x touch.y)
unfolding touch_of pointer_of
touch_of-written ws =
    let P = λ (touch : Touch). ws ≡ touch_words touch.pointer touch.x touch.y in
    let Q = λ (ws : List (List ℕ)) (r : ℤ × List (List ℕ)). ws ≡ signed_decimal r.0 ∷ r.1 in
    let W = λ (n z : ℤ). (n ≡ z) × IsWithin min_touch max_touch z in
    if_then_with (Q ws) P (integer_in ws) _ (integer_in-written ws) (λ p a.
    if_then_with (Q p.1) P (integer_in p.1) _ (integer_in-written p.1) (λ x b.
    if_then_with (Q x.1) P (integer_in x.1) _ (integer_in-written x.1) (λ y c.
    if_then_with (λ _. y.1 ≡ []) P (end_of y.1) _ (end_of-written y.1) (λ _ end.
    if_then_with (λ n. (p.0 ≡ pos n) × (0 ≤ n) × (n ≤ max_pointer)) P (natural_within 0 max_pointer p.0) _ (natural_within-written 0 max_pointer p.0) (λ pointer i.
    if_then_with (W x.0) P (within_of min_touch max_touch x.0) _ (within_of-written min_touch max_touch x.0) (λ left j.
    if_then_with (W y.0) P (within_of min_touch max_touch y.0) _ (within_of-written min_touch max_touch y.0) (λ top k.
    a ∙ rw (b, c, end, i.0, j.0, k.0) refl)))))))

up_of-written : (line : List ℕ) (ws : List (List ℕ)) → Line line (codes "up") ws → Gives line (up_of ws)
unfolding up_of pointer_of
up_of-written line ws all =
    let P = λ (command : PlainCommand). IsWritten command line in
    if_then_with (λ (r : ℤ × List (List ℕ)). ws ≡ signed_decimal r.0 ∷ r.1) P (integer_in ws) _ (integer_in-written ws) (λ p are.
    if_then_with (λ _. p.1 ≡ []) P (end_of p.1) _ (end_of-written p.1) (λ _ end.
    if_map_with (λ n. (p.0 ≡ pos n) × (0 ≤ n) × (n ≤ max_pointer)) P plain.Up (natural_within 0 max_pointer p.0) (natural_within-written 0 max_pointer p.0) (λ pointer h.
    (ws, all, are ∙ rw (end, h.0) refl))))

pixels_of-written : (line : List ℕ) (ws : List (List ℕ)) → Line line (codes "pixels") ws → Gives line (pixels_of ws)
unfolding pixels_of part_of
pixels_of-written line ws all =
    let P = λ (command : PlainCommand). IsWritten command line in
    let Q = λ (ws : List (List ℕ)) (r : ℤ × List (List ℕ)). ws ≡ signed_decimal r.0 ∷ r.1 in
    let W = λ (low high n z : ℤ). (n ≡ z) × IsWithin low high z in
    if_then_with (Q ws) P (integer_in ws) _ (integer_in-written ws) (λ x a.
    if_then_with (Q x.1) P (integer_in x.1) _ (integer_in-written x.1) (λ y b.
    if_then_with (Q y.1) P (integer_in y.1) _ (integer_in-written y.1) (λ w c.
    if_then_with (Q w.1) P (integer_in w.1) _ (integer_in-written w.1) (λ h d.
    if_then_with (λ _. h.1 ≡ []) P (end_of h.1) _ (end_of-written h.1) (λ _ end.
    if_then_with (W (pos 0) max_point x.0) P (within_of (pos 0) max_point x.0) _ (within_of-written (pos 0) max_point x.0) (λ left i.
    if_then_with (W (pos 0) max_point y.0) P (within_of (pos 0) max_point y.0) _ (within_of-written (pos 0) max_point y.0) (λ top j.
    if_then_with (W (pos 1) max_window w.0) P (within_of (pos 1) max_window w.0) _ (within_of-written (pos 1) max_window w.0) (λ width k.
    if_then_with (W (pos 1) max_window h.0) P (within_of (pos 1) max_window h.0) _ (within_of-written (pos 1) max_window h.0) (λ height m.
    if_either P (is_small width height) _ _ (ws, all, a ∙ rw (b, c, d, end, i.0, j.0, k.0, m.0) refl) tt)))))))))

command_by-written : (line : List ℕ) (verb : Verb) → LineBegins line (line_word verb) → Gives line (command_by verb (after_word line))
unfolding command_by remove_of frame_of digest_of cancel_of save_of
command_by-written line verb.Window h =
    let ws = words (after_word line) in
    if_map_with (λ (pair : ℤ × ℤ). ws ≡ signed_decimal pair.0 ∷ signed_decimal pair.1 ∷ []) (λ (command : PlainCommand). IsWritten command line) (λ (pair : ℤ × ℤ). plain.Window pair.0 pair.1)
    (pair_of (pos 1) max_window ws) (pair_of-written (pos 1) max_window ws) (λ pair are. (ws, h.all, are))
command_by-written line verb.Dpi h = dpi_of-written line (words (after_word line)) h.all
command_by-written line verb.Res h = res_of-written line h.first
command_by-written line verb.Inflate h = inflate_of-written line (words (after_word line)) h.all
command_by-written line verb.Add h = add_of-written line (words (after_word line)) h.all
command_by-written line verb.Remove h = let ws = words (after_word line) in view_of-written line ws plain.Remove (λ view word are fits. (ws, h.all, (word, are, fits)))
command_by-written line (verb.Act act) h = set_of-written line act (words (after_word line)) h.all
command_by-written line verb.Text h = set_text_of-written line h.first
command_by-written line verb.Disallow h = disallow_of-written line (words (after_word line)) h.all
command_by-written line verb.Hook h = hook_of-written line (words (after_word line)) h.all
command_by-written line verb.Down h =
    let ws = words (after_word line) in
    if_map_with (λ (touch : Touch). ws ≡ touch_words touch.pointer touch.x touch.y) (λ (command : PlainCommand). IsWritten command line) (λ (touch : Touch). plain.Down touch.pointer touch.x touch.y)
    (touch_of ws) (touch_of-written ws) (λ touch are. (ws, h.all, are))
command_by-written line verb.Move h =
    let ws = words (after_word line) in
    if_map_with (λ (touch : Touch). ws ≡ touch_words touch.pointer touch.x touch.y) (λ (command : PlainCommand). IsWritten command line) (λ (touch : Touch). plain.Move touch.pointer touch.x touch.y)
    (touch_of ws) (touch_of-written ws) (λ touch are. (ws, h.all, are))
command_by-written line verb.Up h = up_of-written line (words (after_word line)) h.all
command_by-written line verb.Cancel h = no_words line (words (after_word line)) plain.Cancel (λ end. (words (after_word line), h.all, end))
command_by-written line verb.Frame h = no_words line (words (after_word line)) plain.Frame (λ end. (words (after_word line), h.all, end))
command_by-written line verb.Bounds h = bounds_of-written line (words (after_word line)) h.all
command_by-written line verb.Pixels h = pixels_of-written line (words (after_word line)) h.all
command_by-written line verb.Digest h = no_words line (words (after_word line)) plain.Digest (λ end. (words (after_word line), h.all, end))
command_by-written line verb.Save h = no_words line (words (after_word line)) plain.Save (λ end. (words (after_word line), h.all, end))
command_by-written line verb.Restore h = restore_of-written line (words (after_word line)) h.all

command_in-written : (line head : List ℕ) → LineBegins line head → Gives line (command_in head (after_word line))
unfolding command_in
command_in-written line head h =
    let P = λ (command : PlainCommand). IsWritten command line in
    if_then_with (λ verb. head ≡ line_word verb) P (known (verb_named head)) _ (verb_named-written head)
    (λ verb is. command_by-written line verb (record { first = h.first ∙ is; all = h.all ∙ ap (λ head. head ∷ words (after_word line)) is }))

-- Whatever line a command is read from is one of those that give it.
pub command_of-written : (line : List ℕ) → IfOk (command_of line) (λ command. IsWritten command line)
unfolding command_of
command_of-written line =
    let P = λ (command : PlainCommand). IsWritten command line in
    if_either P (is_utf8 line) _ _
    (if_then_with (λ (r : List ℕ × List (List ℕ)). words line ≡ r.0 ∷ r.1) P (word_in (words line)) _ (word_in-written (words line)) (λ head are.
    command_in-written line head.0 (line_begins line head.0 head.1 are))) tt
