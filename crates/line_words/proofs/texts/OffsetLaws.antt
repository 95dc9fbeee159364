-- The place of the first byte that passes a test.
use Rattle.std.proofs.Common.{◌≡◌, ℕ, Bool, true, false, refl, List, length, arith}
use Rattle.std.specs.List.{position_or_len}
use Rattle.std.proofs.lemmas.List.Sums.{position_or_len_is}
use Rattle.memchr.specs.Find.{NoneBefore, Nowhere, Passes}

fails : (b : Bool) → ¬ (b ≡ true) → b ≡ false
fails true h = absurd (h refl)
fails false h = refl

pub place_none : (test : ℕ → Bool) (bytes : List ℕ) → Nowhere (Passes test bytes) 0 (length bytes) → position_or_len test bytes ≡ length bytes
place_none test bytes none = position_or_len_is test bytes (length bytes) 0 (omega arith) (λ k h. fails _ (none k (omega arith) h)) (λ h. absurd (omega (arith, h)))

pub place_some : (test : ℕ → Bool) (bytes : List ℕ) (k : ℕ) → NoneBefore (Passes test bytes) 0 (length bytes) k → Passes test bytes k → position_or_len test bytes ≡ k
place_some test bytes k none here = position_or_len_is test bytes k 0 (omega (arith, none.high)) (λ i h. fails _ (none.before i (omega arith) h)) (λ h. here)
