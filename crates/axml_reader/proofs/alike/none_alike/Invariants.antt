use Rattle.std.proofs.Common.{◌≡◌, ◌<◌, ℕ, length, get_or}
use Rattle.axml_reader.proofs.alike.none_alike.Given as goal

abbrev pub invariant-loop-k : goal.invariant-loop-k
invariant-loop-k l = record {
  len : length l.alike.items ≡ l.k;
  own : (i : ℕ) → i < l.k → get_or l.alike.items i 0 ≡ i;
}
