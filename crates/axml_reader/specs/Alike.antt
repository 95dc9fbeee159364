-- String numbers that are known to have the same text.
use Rattle.std.specs.Prelude.{◌≡◌, ℕ, ◌<◌, List, length, slice_get, slice_index, Option, None, Some}
use Rattle.axml_chunks.specs.Pool.{StringPool}

-- the text of a string number, if there is one
abbrev pub text_of : Option StringPool → ℕ → Option (List ℕ)
text_of None k = None
text_of (Some pool) k = slice_get pool.texts k

-- the number at each number's place has the same text
abbrev pub AreAlike : Option StringPool → List ℕ → Type 0
AreAlike pool alike = (k : ℕ) → k < length alike → text_of pool (slice_index alike k) ≡ text_of pool k
