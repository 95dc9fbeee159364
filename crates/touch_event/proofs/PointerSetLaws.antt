-- Which ids a set of pointers can have.
use Rattle.std.proofs.Common.{◌≡◌, ℕ, ◌^◌, ◌<◌, ◌≤◌, false, refl}
use Rattle.std.proofs.lemmas.Nat.Bits.{bit_at_above}
use Rattle.touch_event.specs.PointerSets.{has_id}

pub none_above : (ids id : ℕ) → ids < 2 ^ 32 → 32 ≤ id → has_id ids id ≡ false
unfolding has_id
none_above ids id fits above = rw (bit_at_above ids 32 id fits above) refl
