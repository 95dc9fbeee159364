-- The words from which weights are read.
use Rattle.std.proofs.Common.{◌≡◌, ℕ, ◌+◌, ◌*◌, ◌/◌, ◌%◌, ◌≤◌, refl, ap, sym, ◌∙◌, inl, inr, List, [], ◌∷◌, arith}
use Rattle.std.specs.Prelude.{◌⊎◌, ℤ, pos, IfOk}
use Rattle.std.specs.Fmt.{signed_decimal}
use Rattle.view_model.specs.Numbers.{max_weight}
use Rattle.line_words.specs.words.Numbers.{integer_in, natural_within}
use Rattle.line_words.specs.words.Weights.{last_number, weight_of}
use Rattle.line_words.specs.words.Words.{end_of}
use Rattle.line_words.specs.Written.{AreWeightWords}
use Rattle.line_words.specs.Numbers.{max_parts, max_whole}
use Rattle.line_words.proofs.texts.OkLaws.{if_ok_more, if_then_with}
use Rattle.line_words.proofs.written.WrittenWords.{end_of-written, integer_in-written}
use Rattle.line_words.proofs.written.WrittenBounds.{natural_within-written}

-- weights
last_number-written : (ws : List (List ℕ)) → IfOk (last_number ws) (λ k. ((ws ≡ []) × (k ≡ pos 0)) ⊎ (ws ≡ signed_decimal k ∷ []))
unfolding last_number
last_number-written [] = inl (refl, refl)
last_number-written (word ∷ ws) =
    let P = λ (k : ℤ). ((word ∷ ws ≡ []) × (k ≡ pos 0)) ⊎ (word ∷ ws ≡ signed_decimal k ∷ []) in
    if_then_with (λ (r : ℤ × List (List ℕ)). word ∷ ws ≡ signed_decimal r.0 ∷ r.1) P (integer_in (word ∷ ws)) _ (integer_in-written (word ∷ ws)) (λ k are.
    if_then_with (λ _. k.1 ≡ []) P (end_of k.1) _ (end_of-written k.1) (λ _ end. inr (are ∙ ap (λ more. signed_decimal k.0 ∷ more) end)))

weight_words-written : (ws more : List (List ℕ)) (n k : ℤ) (whole parts weight : ℕ) → ws ≡ signed_decimal n ∷ more → ((more ≡ []) × (k ≡ pos 0)) ⊎ (more ≡ signed_decimal k ∷ [])
    → n ≡ pos whole → k ≡ pos parts → parts ≤ max_parts → pos (whole * 256 + parts) ≡ pos weight → AreWeightWords weight ws
weight_words-written ws more n k whole parts weight are (inl last) w p few e =
    let same : whole * 256 + parts ≡ weight = cc in
    let zero : pos 0 ≡ pos parts = sym last.1 ∙ p in
    let none : 0 ≡ parts = cc in
    let high : weight / 256 ≡ whole = omega (arith, same, none) in
    inr (omega (arith, same, none), are ∙ rw (w, last.0, high) refl)
weight_words-written ws more n k whole parts weight are (inr last) w p few e =
    let same : whole * 256 + parts ≡ weight = cc in
    let high : weight / 256 ≡ whole = omega (arith, same, few) in
    let low : weight % 256 ≡ parts = omega (arith, same, few) in
    inl (are ∙ rw (last, w, p, high, low) refl)

pub weight_of-written : (ws : List (List ℕ)) → IfOk (weight_of ws) (λ weight. AreWeightWords weight ws)
unfolding weight_of
weight_of-written ws =
    let P = λ (weight : ℕ). AreWeightWords weight ws in
    if_then_with (λ (r : ℤ × List (List ℕ)). ws ≡ signed_decimal r.0 ∷ r.1) P (integer_in ws) _ (integer_in-written ws) (λ n are.
    if_then_with (λ k. ((n.1 ≡ []) × (k ≡ pos 0)) ⊎ (n.1 ≡ signed_decimal k ∷ [])) P (last_number n.1) _ (last_number-written n.1) (λ k more.
    if_then_with (λ m. (n.0 ≡ pos m) × (0 ≤ m) × (m ≤ max_whole)) P (natural_within 0 max_whole n.0) _ (natural_within-written 0 max_whole n.0) (λ whole w.
    if_then_with (λ m. (k ≡ pos m) × (0 ≤ m) × (m ≤ max_parts)) P (natural_within 0 max_parts k) _ (natural_within-written 0 max_parts k) (λ parts p.
    if_ok_more (λ m. (pos (whole * 256 + parts) ≡ pos m) × (0 ≤ m) × (m ≤ max_weight)) P (natural_within 0 max_weight (pos (whole * 256 + parts))) (natural_within-written 0 max_weight (pos (whole * 256 + parts)))
    (λ weight e. weight_words-written ws n.1 n.0 k whole parts weight are more w.0 p.0 p.2 e.0)))))
