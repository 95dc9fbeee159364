-- The words from which what a line sets of a view is read.
use Rattle.std.proofs.Common.{◌≡◌, ℕ, ◌<◌, ◌^◌, Bool, true, false, refl, ap, ◌∙◌, inl, inr, List, [], ◌∷◌, length, arith}
use Rattle.std.specs.Prelude.{if◌then◌else◌, ℤ, pos, fold, map, codes, bit_or, slice_index_or, IfOk, Result, Ok}
use Rattle.std.specs.Fmt.{signed_decimal}
use Rattle.std.specs.List.{All}
use Rattle.std.proofs.lemmas.List.{length-map}
use Rattle.std.proofs.lemmas.List.Elements.{All-cons}
use Rattle.geom_core.specs.declared.geometry.Insets.{Insets}
use Rattle.view_model.specs.declared.changes.Act.{Act}
use Rattle.view_model.specs.declared.changes.Act.TheVariants as act
use Rattle.view_model.specs.declared.changes.Change.{Change}
use Rattle.view_model.specs.declared.changes.Change.TheVariants as change
use Rattle.view_model.specs.Numbers.{max_inset, max_size, min_margin}
use Rattle.view_model.specs.declared.placing.Gravity.{Gravity}
use Rattle.script_lines.specs.reading.Actions.{action_of, actions_of, with_actions}
use Rattle.script_lines.specs.reading.Changes.{act_by, answer_named, answer_of, change_by, direction_named, direction_of, flag_named, flag_of, gravity_change_of, insets_of, kids_of, new_id_of, orient_of, scroll_of, sides_of, vertical_of, visibility_of, visible_of}
use Rattle.line_words.specs.words.Colors.{last_color}
use Rattle.line_words.specs.words.Dimensions.{extents_of}
use Rattle.line_words.specs.words.Gravities.{gravity_of}
use Rattle.line_words.specs.words.Names.{id_in}
use Rattle.line_words.specs.words.Numbers.{IsWithin, integer_in, pair_of, within_of}
use Rattle.script_lines.specs.reading.Rules.{answer_in, names_sibling, rule_of, rule_value_in, verb_of}
use Rattle.script_lines.specs.reading.Verbs.{act_word, change_word}
use Rattle.script_lines.specs.commands.Spelled.{act_head, action_words, change_head, direction_text, event_answer_text, flag_text, insets_words, verb_text, visibility_text}
use Rattle.line_words.specs.Spelled.{extent_text, on_text}
use Rattle.line_words.specs.words.Weights.{weight_of}
use Rattle.line_words.specs.words.Words.{◌>>=◌, end_of, map_ok, on_of, word_in}
use Rattle.script_lines.specs.commands.Written.{AreActWords, AreActions, AreChangeWords, AreInterceptWords, IsRuleWord}
use Rattle.line_words.specs.Written.{AreWeightWords, IsColorWord, IsGravityWord, IsHexWord}
use Rattle.script_lines.specs.declared.reading.changes.Sides.{Sides}
use Rattle.script_lines.specs.declared.verbs.ActVerb.{ActVerb}
use Rattle.script_lines.specs.declared.verbs.ActVerb.TheVariants as act_verb
use Rattle.script_lines.specs.declared.verbs.ChangeVerb.{ChangeVerb}
use Rattle.script_lines.specs.declared.verbs.ChangeVerb.TheVariants as change_verb
use Rattle.line_words.specs.declared.fault.LineFault.{LineFault}
use Rattle.line_words.proofs.texts.OkLaws.{if_map_with, if_ok_more, if_then_with, if_word}
use Rattle.line_words.proofs.written.WrittenWords.{FirstWord, end_of-written, id_in-written, integer_in-written, last_color-written, on_of-written, word_in-written}
use Rattle.script_lines.proofs.written.WrittenTables.{answer_named-written, direction_named-written, flag_named-written, kids_of-written, verb_of-written, vertical_of-written, visibility_of-written}
use Rattle.line_words.proofs.written.WrittenBounds.{within_of-written, pair_of-written}
use Rattle.line_words.proofs.written.WrittenGravities.{gravity_of-written}
use Rattle.line_words.proofs.written.WrittenDimensions.{extents_of-written}
use Rattle.line_words.proofs.written.WrittenWeights.{weight_of-written}

-- sides
abbrev AreSides : Sides → Insets → Type 0
AreSides sides insets = (sides.left ≡ insets.left) × (sides.top ≡ insets.top) × (sides.right ≡ insets.right) × (sides.bottom ≡ insets.bottom)

sides_of-written : (ws : List (List ℕ))
    → IfOk (sides_of ws) (λ sides. ws ≡ signed_decimal sides.left ∷ signed_decimal sides.top ∷ signed_decimal sides.right ∷ signed_decimal sides.bottom ∷ [])
unfolding sides_of
sides_of-written ws =
    let Q = λ (ws : List (List ℕ)) (r : ℤ × List (List ℕ)). ws ≡ signed_decimal r.0 ∷ r.1 in
    let P = λ (sides : Sides). ws ≡ signed_decimal sides.left ∷ signed_decimal sides.top ∷ signed_decimal sides.right ∷ signed_decimal sides.bottom ∷ [] in
    if_then_with (Q ws) P (integer_in ws) _ (integer_in-written ws) (λ l a.
    if_then_with (Q l.1) P (integer_in l.1) _ (integer_in-written l.1) (λ t b.
    if_then_with (Q t.1) P (integer_in t.1) _ (integer_in-written t.1) (λ r c.
    if_then_with (Q r.1) P (integer_in r.1) _ (integer_in-written r.1) (λ b' d.
    if_then_with (λ _. b'.1 ≡ []) P (end_of b'.1) _ (end_of-written b'.1) (λ _ end. cc)))))

insets_of-written : (low : ℤ) (sides : Sides) → IfOk (insets_of low sides) (AreSides sides)
unfolding insets_of
insets_of-written low sides =
    let Q = λ (n z : ℤ). (n ≡ z) × IsWithin low max_inset z in
    let P = AreSides sides in
    if_then_with (Q sides.left) P (within_of low max_inset sides.left) _ (within_of-written low max_inset sides.left) (λ left a.
    if_then_with (Q sides.top) P (within_of low max_inset sides.top) _ (within_of-written low max_inset sides.top) (λ top b.
    if_then_with (Q sides.right) P (within_of low max_inset sides.right) _ (within_of-written low max_inset sides.right) (λ right c.
    if_then_with (Q sides.bottom) P (within_of low max_inset sides.bottom) _ (within_of-written low max_inset sides.bottom) (λ bottom d. (a.0, b.0, c.0, d.0)))))

insets_words-written : (low : ℤ) (ws : List (List ℕ)) (sides : Sides)
    → ws ≡ signed_decimal sides.left ∷ signed_decimal sides.top ∷ signed_decimal sides.right ∷ signed_decimal sides.bottom ∷ []
    → IfOk (insets_of low sides) (λ insets. ws ≡ insets_words insets)
insets_words-written low ws sides are =
    if_ok_more (AreSides sides) (λ insets. ws ≡ insets_words insets) (insets_of low sides) (insets_of-written low sides) (λ insets h. are ∙ rw (h.0, h.1, h.2, h.3) refl)

-- actions
record IsActionAt (bit : ℕ) (word : List ℕ) : Type 0 where
  place : ℕ
  known : place < 6
  are : word ≡ slice_index_or action_words place []
  bit_of : bit ≡ 2 ^ place

action_of-written : (word : List ℕ) → IfOk (action_of word) (λ bit. IsActionAt bit word)
unfolding action_of
action_of-written word =
    let P = λ (bit : ℕ). IsActionAt bit word in
    if_word P word (codes "down") _ _ (λ e. record { place = 0; known = omega arith; are = e; bit_of = refl })
    (if_word P word (codes "up") _ _ (λ e. record { place = 1; known = omega arith; are = e; bit_of = refl })
    (if_word P word (codes "move") _ _ (λ e. record { place = 2; known = omega arith; are = e; bit_of = refl })
    (if_word P word (codes "cancel") _ _ (λ e. record { place = 3; known = omega arith; are = e; bit_of = refl })
    (if_word P word (codes "pdown") _ _ (λ e. record { place = 4; known = omega arith; are = e; bit_of = refl })
    (if_word P word (codes "pup") _ _ (λ e. record { place = 5; known = omega arith; are = e; bit_of = refl }) tt)))))

abbrev pub with_place : ℕ → ℕ → ℕ
with_place bits place = bit_or bits (2 ^ place)

record MoreActions (bits : ℕ) (ws : List (List ℕ)) (actions : ℕ) : Type 0 where
  places : List ℕ
  known : All (λ place. place < 6) places
  are : ws ≡ map (λ place. slice_index_or action_words place []) places
  all : actions ≡ fold with_place bits places

one_action : (bits bit actions : ℕ) (word : List ℕ) (ws : List (List ℕ)) → IsActionAt bit word → MoreActions (bit_or bits bit) ws actions → MoreActions bits (word ∷ ws) actions
one_action bits bit actions word ws one more = record {
  places = one.place ∷ more.places;
  known = All-cons (λ place. place < 6) one.place more.places one.known more.known;
  are = rw (one.are, more.are) refl;
  all = more.all ∙ ap (λ bit. fold with_place (bit_or bits bit) more.places) one.bit_of;
}

with_actions-written : (ws : List (List ℕ)) (bits : ℕ) → IfOk (with_actions bits ws) (MoreActions bits ws)
unfolding with_actions
with_actions-written [] bits = record { places = []; known = λ k d short. absurd (omega (arith, short)); are = refl; all = refl }
with_actions-written (word ∷ ws) bits =
    if_then_with (λ bit. IsActionAt bit word) (MoreActions bits (word ∷ ws)) (action_of word) _ (action_of-written word) (λ bit one.
    if_ok_more (MoreActions (bit_or bits bit) ws) (MoreActions bits (word ∷ ws)) (with_actions (bit_or bits bit) ws) (with_actions-written ws (bit_or bits bit)) (λ actions more.
    one_action bits bit actions word ws one more))

actions_some : (ws : List (List ℕ)) (actions : ℕ) → 0 < length ws → MoreActions 0 ws actions → AreActions actions ws
actions_some ws actions some more = record {
  places = more.places;
  some = omega (arith, some, ap length more.are, length-map more.places (λ place. slice_index_or action_words place []));
  known = more.known;
  are = more.are;
  bits = more.all;
}

pub actions_of-written : (ws : List (List ℕ)) → IfOk (actions_of ws) (λ actions. AreInterceptWords actions ws)
unfolding actions_of
actions_of-written ws =
    let P = λ (actions : ℕ). AreInterceptWords actions ws in
    if_then_with (λ (r : List ℕ × List (List ℕ)). ws ≡ r.0 ∷ r.1) P (word_in ws) _ (word_in-written ws) (λ first are.
    if_word P first.0 (codes "none") _ _
    (λ none. if_then_with (λ _. first.1 ≡ []) P (end_of first.1) _ (end_of-written first.1) (λ _ end. inl (are ∙ rw (none, end) refl, refl)))
    (if_ok_more (MoreActions 0 ws) P (with_actions 0 ws) (with_actions-written ws 0) (λ actions more. inr (actions_some ws actions (omega (arith, ap length are)) more))))

-- rules
answer_word : (on : Bool) (word : List ℕ) → word ≡ on_text on → IsRuleWord false (if on then 1 else 0) word
answer_word true word e = (e, omega arith)
answer_word false word e = (e, omega arith)

rule_value-written : (sibling : Bool) (ws : List (List ℕ)) → IfOk (if sibling then id_in ws else answer_in ws) (λ r. FirstWord (IsRuleWord sibling r.0) ws r.1)
rule_value-written true ws = id_in-written ws
rule_value-written false ws =
    let P = λ (r : ℕ × List (List ℕ)). FirstWord (IsRuleWord false r.0) ws r.1 in
    if_then_with (λ (r : List ℕ × List (List ℕ)). ws ≡ r.0 ∷ r.1) P (word_in ws) _ (word_in-written ws) (λ b are.
    if_then_with (λ on. b.0 ≡ on_text on) P (on_of b.0) _ (on_of-written b.0) (λ on e. record { word = b.0; are = are; fits = answer_word on b.0 e }))

abbrev pub AreAct : List ℕ → List (List ℕ) → Act → Type 0
AreAct head ws act = (head ≡ act_head act) × AreActWords act ws

rule_of-written : (ws : List (List ℕ)) → IfOk (rule_of ws) (AreAct (codes "rule") ws)
unfolding rule_of rule_value_in
rule_of-written ws =
    let P = AreAct (codes "rule") ws in
    if_then_with (λ (r : List ℕ × List (List ℕ)). ws ≡ r.0 ∷ r.1) P (word_in ws) _ (word_in-written ws) (λ v are.
    if_then_with (λ verb. v.0 ≡ verb_text verb) P (verb_of v.0) _ (verb_of-written v.0) (λ verb is.
    if_then_with (λ (r : ℕ × List (List ℕ)). FirstWord (IsRuleWord (names_sibling verb) r.0) v.1 r.1) P (if names_sibling verb then id_in v.1 else answer_in v.1) _
    (rule_value-written (names_sibling verb) v.1) (λ value h.
    if_then_with (λ _. value.1 ≡ []) P (end_of value.1) _ (end_of-written value.1) (λ _ end. (refl, (h.word, cc (h.are), h.fits))))))

-- changes
abbrev pub AreChange : List ℕ → List (List ℕ) → Change → Type 0
AreChange head ws change = (head ≡ change_head change) × AreChangeWords change ws

gravity_change_of-written : (ws : List (List ℕ)) → IfOk (gravity_change_of ws) (AreChange (codes "gravity") ws)
unfolding gravity_change_of
gravity_change_of-written ws =
    let P = AreChange (codes "gravity") ws in
    let Q = λ (ws : List (List ℕ)) (r : List ℕ × List (List ℕ)). ws ≡ r.0 ∷ r.1 in
    if_then_with (Q ws) P (word_in ws) _ (word_in-written ws) (λ whose are.
    if_then_with (λ kids. whose.0 ≡ (if kids then codes "kids" else codes "self")) P (kids_of whose.0) _ (kids_of-written whose.0) (λ kids is.
    if_then_with (Q whose.1) P (word_in whose.1) _ (word_in-written whose.1) (λ g more.
    if_then_with (λ (gravity : Gravity). IsGravityWord gravity g.0) P (gravity_of g.0) _ (gravity_of-written g.0) (λ gravity h.
    if_then_with (λ _. g.1 ≡ []) P (end_of g.1) _ (end_of-written g.1) (λ _ end. (refl, (g.0, are ∙ rw (is, more, end) refl, h)))))))

sides-written : (ws : List (List ℕ)) (low : ℤ) (P : Change → Type 0) (make : Insets → Change) → ((insets : Insets) → ws ≡ insets_words insets → P (make insets)) → IfOk (sides_of ws >>= λ sides. map_ok make (insets_of low sides)) P
sides-written ws low P make each =
    if_then_with (λ (sides : Sides). ws ≡ signed_decimal sides.left ∷ signed_decimal sides.top ∷ signed_decimal sides.right ∷ signed_decimal sides.bottom ∷ []) P (sides_of ws) _ (sides_of-written ws)
    (λ sides are. if_map_with (λ insets. ws ≡ insets_words insets) P make (insets_of low sides) (insets_words-written low ws sides are) each)

pub change_by-written : (verb : ChangeVerb) (ws : List (List ℕ)) → IfOk (change_by verb ws) (AreChange (change_word verb) ws)
change_by-written change_verb.Size ws =
    if_map_with (λ (extents : ℤ × ℤ). ws ≡ extent_text extents.0 ∷ extent_text extents.1 ∷ []) (AreChange (codes "size") ws) _ (extents_of ws) (extents_of-written ws) (λ extents h. (refl, h))
change_by-written change_verb.Min ws =
    if_map_with (λ (pair : ℤ × ℤ). ws ≡ signed_decimal pair.0 ∷ signed_decimal pair.1 ∷ []) (AreChange (codes "min") ws) _ (pair_of (pos 0) max_size ws) (pair_of-written (pos 0) max_size ws) (λ pair h. (refl, h))
change_by-written change_verb.Margins ws = sides-written ws min_margin (AreChange (codes "margins") ws) change.Margins (λ insets h. (refl, h))
change_by-written change_verb.Padding ws = sides-written ws (pos 0) (AreChange (codes "padding") ws) change.Padding (λ insets h. (refl, h))
change_by-written change_verb.Weight ws = if_map_with (λ weight. AreWeightWords weight ws) (AreChange (codes "weight") ws) change.Weight (weight_of ws) (weight_of-written ws) (λ weight h. (refl, h))
change_by-written change_verb.Gravity ws = gravity_change_of-written ws
change_by-written change_verb.Background ws =
    if_map_with (λ color. FirstWord (IsColorWord color) ws []) (AreChange (codes "bg") ws) change.Background (last_color ws) (last_color-written ws) (λ color h. (refl, (h.word, h.are, h.fits)))

-- one word of a table
last_word : {A : Type 0} (Q : A → List ℕ → Type 0) (P : Act → Type 0) (read : List ℕ → Result A LineFault) (make : A → Act) (ws : List (List ℕ)) → ((word : List ℕ) → IfOk (read word) (λ a. Q a word))
    → ((a : A) (word : List ℕ) → Q a word → ws ≡ word ∷ [] → P (make a)) → IfOk (word_in ws >>= λ w. read w.0 >>= λ a. end_of w.1 >>= λ _. Ok (make a)) P
last_word Q P read make ws each h =
    if_then_with (λ (r : List ℕ × List (List ℕ)). ws ≡ r.0 ∷ r.1) P (word_in ws) _ (word_in-written ws) (λ w are.
    if_then_with (λ a. Q a w.0) P (read w.0) _ (each w.0) (λ a q.
    if_then_with (λ _. w.1 ≡ []) P (end_of w.1) _ (end_of-written w.1) (λ _ end. h a w.0 q (are ∙ ap (λ more. w.0 ∷ more) end))))

flag_of-written : (ws : List (List ℕ)) → IfOk (flag_of ws) (AreAct (codes "flag") ws)
unfolding flag_of
flag_of-written ws =
    let P = AreAct (codes "flag") ws in
    let Q = λ (ws : List (List ℕ)) (r : List ℕ × List (List ℕ)). ws ≡ r.0 ∷ r.1 in
    if_then_with (Q ws) P (word_in ws) _ (word_in-written ws) (λ f are.
    if_then_with (λ flag. f.0 ≡ flag_text flag) P (flag_named f.0) _ (flag_named-written f.0) (λ flag is.
    if_then_with (Q f.1) P (word_in f.1) _ (word_in-written f.1) (λ b more.
    if_then_with (λ on. b.0 ≡ on_text on) P (on_of b.0) _ (on_of-written b.0) (λ on which.
    if_then_with (λ _. b.1 ≡ []) P (end_of b.1) _ (end_of-written b.1) (λ _ end. (refl, cc))))))

scroll_of-written : (ws : List (List ℕ)) → IfOk (scroll_of ws) (AreAct (codes "scroll") ws)
unfolding scroll_of
scroll_of-written ws =
    let P = AreAct (codes "scroll") ws in
    if_then_with (λ (r : ℤ × List (List ℕ)). ws ≡ signed_decimal r.0 ∷ r.1) P (integer_in ws) _ (integer_in-written ws) (λ y are.
    if_then_with (λ _. y.1 ≡ []) P (end_of y.1) _ (end_of-written y.1) (λ _ end.
    if_map_with (λ z. (y.0 ≡ z) × IsWithin (pos 0) max_size z) P act.Scroll (within_of (pos 0) max_size y.0) (within_of-written (pos 0) max_size y.0) (λ offset h. (refl, are ∙ rw (h.0, end) refl))))

new_id_of-written : (ws : List (List ℕ)) → IfOk (new_id_of ws) (AreAct (codes "id") ws)
unfolding new_id_of
new_id_of-written ws =
    let P = AreAct (codes "id") ws in
    if_then_with (λ (r : ℕ × List (List ℕ)). FirstWord (IsHexWord 64 r.0) ws r.1) P (id_in ws) _ (id_in-written ws) (λ id h.
    if_then_with (λ _. id.1 ≡ []) P (end_of id.1) _ (end_of-written id.1) (λ _ end. (refl, (h.word, h.are ∙ ap (λ more. h.word ∷ more) end, h.fits))))

pub act_by-written : (verb : ActVerb) (ws : List (List ℕ)) → IfOk (act_by verb ws) (AreAct (act_word verb) ws)
unfolding visible_of orient_of direction_of answer_of
act_by-written (act_verb.Change verb) ws = if_map_with (AreChange (change_word verb) ws) (AreAct (change_word verb) ws) act.Change (change_by verb ws) (change_by-written verb ws) (λ change h. (h.0, h.1))
act_by-written act_verb.WeightSum ws = if_map_with (λ weight. AreWeightWords weight ws) (AreAct (codes "weightsum") ws) act.WeightSum (weight_of ws) (weight_of-written ws) (λ weight h. (refl, h))
act_by-written act_verb.Orient ws =
    last_word (λ a word. word ≡ (if a then codes "vertical" else codes "horizontal")) (AreAct (codes "orient") ws) vertical_of act.Orient ws vertical_of-written (λ a word is are. (refl, are ∙ ap (λ word. word ∷ []) is))
act_by-written act_verb.Direction ws = last_word (λ a word. word ≡ direction_text a) (AreAct (codes "direction") ws) direction_named act.Direction ws direction_named-written (λ a word is are. (refl, are ∙ ap (λ word. word ∷ []) is))
act_by-written act_verb.Flag ws = flag_of-written ws
act_by-written act_verb.Visible ws = last_word (λ a word. word ≡ visibility_text a) (AreAct (codes "visible") ws) visibility_of act.Visible ws visibility_of-written (λ a word is are. (refl, are ∙ ap (λ word. word ∷ []) is))
act_by-written act_verb.Ink ws = if_map_with (λ color. FirstWord (IsColorWord color) ws []) (AreAct (codes "ink") ws) act.Ink (last_color ws) (last_color-written ws) (λ color h. (refl, (h.word, h.are, h.fits)))
act_by-written act_verb.Id ws = new_id_of-written ws
act_by-written act_verb.Rule ws = rule_of-written ws
act_by-written act_verb.Answer ws = last_word (λ a word. word ≡ event_answer_text a) (AreAct (codes "answer") ws) answer_named act.Answer ws answer_named-written (λ a word is are. (refl, are ∙ ap (λ word. word ∷ []) is))
act_by-written act_verb.Intercept ws = if_map_with (λ actions. AreInterceptWords actions ws) (AreAct (codes "intercept") ws) act.Intercept (actions_of ws) (actions_of-written ws) (λ actions h. (refl, h))
act_by-written act_verb.Scroll ws = scroll_of-written ws
