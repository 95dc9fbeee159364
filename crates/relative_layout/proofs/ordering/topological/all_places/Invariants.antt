use Rattle.std.proofs.Common.{◌≡◌, ◌+◌, ◌<◌, ℕ, length, get_or}
use Rattle.relative_layout.proofs.ordering.topological.all_places.Given as goal

abbrev pub invariant-loop-passed : goal.invariant-loop-passed
invariant-loop-passed l = record {
  size : length l.places.items ≡ l.passed;
  each : (p : ℕ) → p < l.passed → get_or l.places.items p 0 + (p + 1) ≡ l.count;
}
