-- Lists of string numbers that are known to have the same text.
use Rattle.std.proofs.Common.{◌≡◌, ℕ, true, List, slice_get, Option, None, Some, refl, ap}
use Rattle.std.proofs.lemmas.Slice.Eq.{bytes_eq-Decides}
use Rattle.axml_chunks.specs.Pool.{StringPool}
use Rattle.axml_reader.specs.Alike.{text_of}
use Rattle.axml_reader.specs.Fields.{same_bytes, same_text}

-- numbers are compared by those that have the same texts
pub same_text_by : (pool : Option StringPool) (a b x y : ℕ) → text_of pool x ≡ text_of pool a → text_of pool y ≡ text_of pool b → same_text pool x y ≡ same_text pool a b
unfolding same_text
same_text_by None a b x y e f = refl
same_text_by (Some pool) a b x y e f = rw (e, f) refl

bytes_same : (x y : Option (List ℕ)) → same_bytes x y ≡ true → x ≡ y
bytes_same None y e = absurd cc
bytes_same (Some x) None e = absurd cc
bytes_same (Some x) (Some y) e = ap (λ (text : List ℕ). Some text) ((bytes_eq-Decides x y).0 e)

pub text_of_same : (pool : Option StringPool) (a b : ℕ) → same_text pool a b ≡ true → text_of pool a ≡ text_of pool b
unfolding same_text
text_of_same None a b e = refl
text_of_same (Some pool) a b e = bytes_same (slice_get pool.texts a) (slice_get pool.texts b) e
