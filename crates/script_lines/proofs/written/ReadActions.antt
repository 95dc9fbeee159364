-- Words of actions, and whether a rule counts, read as what they write.
use Rattle.std.proofs.Common.{◌≡◌, ℕ, suc, zero, ◌<◌, ◌^◌, Bool, true, false, refl, ap, sym, ◌∙◌, inl, inr, List, [], ◌∷◌, length, arith}
use Rattle.std.specs.Prelude.{not, fold, map, codes, bit_or, slice_index_or, Ok}
use Rattle.std.specs.List.{All}
use Rattle.std.specs.Str.{bytes_eq}
use Rattle.std.proofs.lemmas.List.Elements.{All-head, All-tail}
use Rattle.script_lines.specs.reading.Actions.{action_of, actions_of, with_actions}
use Rattle.script_lines.specs.reading.Rules.{answer_in}
use Rattle.script_lines.specs.commands.Spelled.{action_words, answer_text}
use Rattle.line_words.specs.words.Words.{on_of}
use Rattle.script_lines.specs.commands.Written.{AreInterceptWords}
use Rattle.script_lines.proofs.spelled.SpelledRules.{all_below, all_below-at, is_ok_of, ok_of}
use Rattle.script_lines.proofs.written.WrittenActs.{with_place}

-- actions
abbrev reads_action : ℕ → Bool
reads_action place = is_ok_of (2 ^ place) (action_of (slice_index_or action_words place []))

abbrev no_none : ℕ → Bool
no_none place = not (bytes_eq (slice_index_or action_words place []) (codes "none"))

all_actions : all_below reads_action 6 ≡ true
unfolding action_of
all_actions = refl

all_named : all_below no_none 6 ≡ true
all_named = refl

abbrev words_at : List ℕ → List (List ℕ)
words_at places = map (λ place. slice_index_or action_words place []) places

with_actions-read : (places : List ℕ) (bits : ℕ) → All (λ place. place < 6) places → with_actions bits (words_at places) ≡ Ok (fold with_place bits places)
unfolding with_actions
with_actions-read [] bits known = refl
with_actions-read (place ∷ places) bits known =
    let P = λ (place : ℕ). place < 6 in
    let first = ok_of (2 ^ place) (action_of (slice_index_or action_words place [])) (all_below-at reads_action 6 place (All-head P place places known) all_actions) in
    rw first (with_actions-read places (bit_or bits (2 ^ place)) (All-tail P place places known))

not_false : (b : Bool) → not b ≡ true → b ≡ false
not_false true h = absurd (cc)
not_false false h = refl

actions_of-places : (places : List ℕ) → 0 < length places → All (λ place. place < 6) places → actions_of (words_at places) ≡ Ok (fold with_place 0 places)
unfolding actions_of
actions_of-places [] some known = absurd (omega (arith, some))
actions_of-places (place ∷ places) some known =
    let other = not_false _ (all_below-at no_none 6 place (All-head (λ (place : ℕ). place < 6) place places known) all_named) in
    rw other (with_actions-read (place ∷ places) 0 known)

pub actions_of-read : (actions : ℕ) (ws : List (List ℕ)) → AreInterceptWords actions ws → actions_of ws ≡ Ok actions
unfolding actions_of
actions_of-read actions ws (inl (are, none)) = rw (are, none) refl
actions_of-read actions ws (inr h) = ap actions_of h.are ∙ actions_of-places h.places h.some h.known ∙ ap Ok (sym h.bits)

-- whether a rule on the parent counts
pub answer_in-read : (value : ℕ) → value < 2 → answer_in (answer_text value ∷ []) ≡ Ok (value, [])
unfolding on_of
answer_in-read zero h = refl
answer_in-read (suc zero) h = refl
answer_in-read (suc (suc value)) h = absurd (omega (arith, h))
