-- Orders of places when one is removed.
use Rattle.std.specs.Prelude.{◌≡◌, ℕ, ◌<◌, ◌+◌, nat_lt, Bool, true, if◌then◌else◌, List, length, slice_index}
use Rattle.view_model.specs.Orders.{IsOrder}

-- where a place that stays was, before this one was removed
unfoldable pub passing : ℕ → ℕ → ℕ
passing gone place = if nat_lt place gone then place else place + 1

-- one relation holds of places that stay only if another held of them before
abbrev pub StaysWithin : ℕ → (ℕ → ℕ → Bool) → (ℕ → ℕ → Bool) → Type 0
StaysWithin gone old new = (a b : ℕ) → new a b ≡ true → old (passing gone a) (passing gone b) ≡ true

-- an order of all places but one, given one of all
abbrev pub IsLowered : ℕ → List ℕ → List ℕ → Type 0
IsLowered gone old new =
    (before after : ℕ → ℕ → Bool) (count : ℕ) → gone < count + 1 → IsOrder before (count + 1) old
    → StaysWithin gone before after → IsOrder after count new

-- each place of an order is its own
abbrev pub IsStraight : List ℕ → Type 0
IsStraight order = (p : ℕ) → p < length order → slice_index order p ≡ p
