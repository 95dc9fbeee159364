use Rattle.std.proofs.Common.{◌≡◌, ◌<◌, ◌≤◌, ℕ, true, false, get_or}
use Rattle.relative_layout.proofs.ordering.components.has_two.Given as goal

abbrev pub invariant-loop-place : goal.invariant-loop-place
invariant-loop-place l = record {
  some : l.one ≡ true → (p : ℕ) × (l.start ≤ p) × (p < l.place) × (get_or l.path p 0 < l.count);
  none : l.one ≡ false → (p : ℕ) → l.start ≤ p → p < l.place → l.count ≤ get_or l.path p 0;
  single : (p q : ℕ) → l.start ≤ p → p < q → q < l.place → get_or l.path p 0 < l.count → l.count ≤ get_or l.path q 0;
}
