-- Weights, read from their texts.
use Rattle.std.proofs.Common.{◌≡◌, ℕ, ◌+◌, ◌*◌, ◌/◌, ◌%◌, ◌<◌, ◌≤◌, ◌^◌, arith}
use Rattle.std.specs.Prelude.{pos, Ok}
use Rattle.view_model.specs.Numbers.{max_weight}
use Rattle.line_words.specs.Spelled.{weight_words}
use Rattle.line_words.specs.words.Weights.{last_number, weight_of}
use Rattle.line_words.specs.Numbers.{max_parts, max_whole}
use Rattle.line_words.proofs.spelled.SpelledNumbers.{decimal_word, integer_of-signed, natural_within-within}
use Rattle.line_words.proofs.spelled.SpelledWords.{AreWords}

-- weights
pub whole_short : (weight : ℕ) → weight ≤ max_weight → weight / 256 ≤ max_whole
whole_short weight h = omega (arith, h)

pub digits_short : (n : ℕ) → n ≤ 65535 → n < 10 ^ 10
digits_short n h = omega (arith, h)

pub weight_reads_words : (weight : ℕ) → weight ≤ max_weight → AreWords (weight_words weight)
weight_reads_words weight h = (decimal_word (weight / 256) (digits_short _ (whole_short weight h)), (decimal_word (weight % 256) (digits_short _ (omega arith)), tt))

pub weight_of-words : (weight : ℕ) → weight ≤ max_weight → weight_of (weight_words weight) ≡ Ok weight
unfolding weight_of last_number
weight_of-words weight h =
    let whole = whole_short weight h in
    let parts : weight % 256 ≤ max_parts = omega arith in
    let same : weight / 256 * 256 + weight % 256 ≡ weight = omega arith in
    rw (integer_of-signed (pos (weight / 256)) (digits_short _ whole), integer_of-signed (pos (weight % 256)) (digits_short _ (omega (arith, parts))), natural_within-within 0 max_whole (weight / 256) (omega arith) whole, natural_within-within 0 max_parts (weight % 256) (omega arith) parts, same)
    (natural_within-within 0 max_weight weight (omega arith) h)
