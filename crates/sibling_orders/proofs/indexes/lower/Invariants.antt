use Rattle.std.proofs.Common.{◌≡◌, ◌≢◌, ℕ, ◌<◌, ◌≤◌, length, get_or}
use Rattle.sibling_orders.specs.Indexes.{passing}
use Rattle.sibling_orders.proofs.indexes.lower.Given as goal

abbrev pub invariant-loop-place : goal.invariant-loop-place
invariant-loop-place l = record {
  below : ((q : ℕ) → q < length l.fn.order → get_or l.fn.order q 0 ≢ l.gone) → (q : ℕ) → q < l.place-index → passing l.gone (get_or l.order q 0) ≡ get_or l.fn.order q 0;
  above : (q : ℕ) → l.place-index ≤ q → get_or l.order q 0 ≡ get_or l.fn.order q 0;
}
