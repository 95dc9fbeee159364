use Rattle.std.proofs.Common.{◌≡◌, ◌<◌, ℕ, length, get_or}
use Rattle.relative_layout.proofs.ordering.listing.listed_places.Given as goal

abbrev pub invariant-loop-place : goal.invariant-loop-place
invariant-loop-place l = record {
  size : length l.places.items ≡ l.place;
  each : (p : ℕ) → p < l.place → get_or l.places.items p 0 ≡ p;
}
