-- Actions, word by word.
use Rattle.std.proofs.Common.{◌≡◌, ℕ, ◌-◌, ◌<◌, true, false, refl, ap, sym, ◌∙◌, List, [], ◌∷◌, length, drop}
use Rattle.std.specs.Prelude.{bit_or, Result, Ok, Err}
use Rattle.std.specs.Result.{is_err}
use Rattle.std.proofs.lemmas.Nat.{or_lt}
use Rattle.script_lines.specs.reading.Actions.{action_in, action_of, with_actions}
use Rattle.line_words.specs.words.Words.{◌>>=◌, after_word, end_of, word_in, words}
use Rattle.line_words.specs.declared.fault.LineFault.{LineFault}
use Rattle.line_words.proofs.texts.AfterLaws.{following}

-- no words are left
pub actions_end : (actions : ℕ) (ws : List (List ℕ)) → is_err (end_of ws) ≡ false → with_actions actions ws ≡ Ok actions
unfolding with_actions
actions_end actions [] h = refl
actions_end actions (w ∷ ws) h = absurd (cc)

abbrev named : Result (ℕ × List (List ℕ)) LineFault → ℕ
named (Ok a) = a.0
named (Err fault) = 0

abbrev left : Result (ℕ × List (List ℕ)) LineFault → List (List ℕ)
left (Ok a) = a.1
left (Err fault) = []

ok_then : (r : Result ℕ LineFault) (ws rest : List (List ℕ)) (action : ℕ) (next : ℕ → Result ℕ LineFault) → (◌>>=◌ {B = ℕ × List (List ℕ)} r (λ a. Ok (a, ws))) ≡ Ok (action, rest) → (r >>= next) ≡ next action
ok_then (Ok a) ws rest action next h = ap next (ap named h)
ok_then (Err fault) ws rest action next h = absurd (cc)

rest_is : (r : Result ℕ LineFault) (ws rest : List (List ℕ)) (action : ℕ) → (◌>>=◌ {B = ℕ × List (List ℕ)} r (λ a. Ok (a, ws))) ≡ Ok (action, rest) → ws ≡ rest
rest_is (Ok a) ws rest action h = ap left h
rest_is (Err fault) ws rest action h = absurd (cc)

-- a word, and those after it
pub actions_go : (actions action : ℕ) (ws rest : List (List ℕ)) → action_in ws ≡ Ok (action, rest) → with_actions actions ws ≡ with_actions (bit_or actions action) rest
unfolding with_actions
actions_go actions action [] rest h = absurd (cc)
actions_go actions action (w ∷ ws) rest h =
    ok_then (action_of w) ws rest action (λ action. with_actions (bit_or actions action) ws) h
    ∙ ap (with_actions (bit_or actions action)) (rest_is (action_of w) ws rest action h)

fault_then : (r : Result ℕ LineFault) (ws : List (List ℕ)) (fault : LineFault) (next : ℕ → Result ℕ LineFault) → (◌>>=◌ {B = ℕ × List (List ℕ)} r (λ a. Ok (a, ws))) ≡ Err fault → (r >>= next) ≡ Err fault
fault_then (Ok a) ws fault next h = absurd (cc)
fault_then (Err other) ws fault next h = ap Err (cc h)

-- a word that is a fault
pub actions_stop : (actions : ℕ) (ws : List (List ℕ)) (fault : LineFault) → is_err (end_of ws) ≡ true → action_in ws ≡ Err fault → with_actions actions ws ≡ Err fault
unfolding with_actions
actions_stop actions [] fault e h = absurd (cc)
actions_stop actions (w ∷ ws) fault e h = fault_then (action_of w) ws fault (λ action. with_actions (bit_or actions action) ws) h

-- an action, and the place after its word
pub read_after : (bytes : List ℕ) (at action : ℕ) (name rest : List ℕ) → word_in (words (drop at bytes)) ≡ Ok (name, words rest) → rest ≡ after_word (drop at bytes) → action_of name ≡ Ok action
    → action_in (words (drop at bytes)) ≡ Ok (action, words (drop (length bytes - length rest) bytes))
read_after bytes at action name rest is after_is named =
    let same : drop (length bytes - length rest) bytes ≡ rest = ap (λ rest. drop (length bytes - length rest) bytes) after_is ∙ following bytes at ∙ sym after_is in
    rw (is, named, same) refl

pub both_below : (a b : ℕ) → a < 64 → b < 64 → bit_or a b < 64
both_below a b h k = or_lt 6 a b h k
