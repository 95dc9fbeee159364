-- The words from which numbers within bounds are read.
use Rattle.std.proofs.Common.{◌≡◌, ℕ, ◌≤◌, refl, List, [], ◌∷◌, arith}
use Rattle.std.specs.Prelude.{◌&&◌, ℤ, pos, negsuc, int_le, nat_le, IfOk}
use Rattle.std.specs.Fmt.{signed_decimal}
use Rattle.std.proofs.lemmas.Bool.Decides.{nat_tests}
use Rattle.std.proofs.lemmas.Int.{ints}
use Rattle.line_words.specs.words.Numbers.{IsWithin, integer_in, natural_within, pair_of, within_of}
use Rattle.line_words.specs.words.Words.{end_of}
use Rattle.line_words.proofs.texts.OkLaws.{if_test, if_then_with}
use Rattle.line_words.proofs.written.WrittenWords.{end_of-written, integer_in-written}

-- bounds
pub within_of-written : (low high n : ℤ) → IfOk (within_of low high n) (λ z. (n ≡ z) × IsWithin low high z)
unfolding within_of
within_of-written low high n =
    if_test (λ z. (n ≡ z) × IsWithin low high z) (int_le low n && int_le n high) _ _ (λ is. (refl, (grind (arith, ints), grind (arith, ints)))) tt

pub natural_within-written : (low high : ℕ) (z : ℤ) → IfOk (natural_within low high z) (λ n. (z ≡ pos n) × (low ≤ n) × (n ≤ high))
unfolding natural_within
natural_within-written low high (pos n) = if_test (λ m. (pos n ≡ pos m) × (low ≤ m) × (m ≤ high)) (nat_le low n && nat_le n high) _ _ (λ is. (refl, grind (arith, nat_tests), grind (arith, nat_tests))) tt
natural_within-written low high (negsuc n) = tt

pub pair_of-written : (low high : ℤ) (ws : List (List ℕ)) → IfOk (pair_of low high ws) (λ pair. ws ≡ signed_decimal pair.0 ∷ signed_decimal pair.1 ∷ [])
unfolding pair_of
pair_of-written low high ws =
    let P = λ (pair : ℤ × ℤ). ws ≡ signed_decimal pair.0 ∷ signed_decimal pair.1 ∷ [] in
    if_then_with (λ (r : ℤ × List (List ℕ)). ws ≡ signed_decimal r.0 ∷ r.1) P (integer_in ws) _ (integer_in-written ws) (λ a are.
    if_then_with (λ (r : ℤ × List (List ℕ)). a.1 ≡ signed_decimal r.0 ∷ r.1) P (integer_in a.1) _ (integer_in-written a.1) (λ b more.
    if_then_with (λ _. b.1 ≡ []) P (end_of b.1) _ (end_of-written b.1) (λ _ end.
    if_then_with (λ z. (a.0 ≡ z) × IsWithin low high z) P (within_of low high a.0) _ (within_of-written low high a.0) (λ first f.
    if_then_with (λ z. (b.0 ≡ z) × IsWithin low high z) P (within_of low high b.0) _ (within_of-written low high b.0) (λ second s. cc (f.0, s.0))))))
