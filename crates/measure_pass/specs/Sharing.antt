-- Whose measurings a count is made of: a view has a share of it for each time that it is asked for, and a view of which
-- nothing was asked, and all below it, have none.
use Rattle.std.specs.Prelude.{◌≡◌, ◌≤◌, ◌⊎◌, ℕ, suc, ◌+◌, ◌*◌, true, false, Bool, if◌then◌else◌}
use Rattle.measure_pass.specs.Caches.{AskedBy, Grown}
use Rattle.view_model.specs.Forest.{Forest, Nothing, Branch}
use Rattle.view_model.specs.Measuring.{Specs}
use Rattle.view_tree.specs.declared.node.state.State.{State}
use Rattle.view_tree.specs.Rows.{Row}
use Rattle.view_tree.specs.Views.{Held, specs_of}

-- nothing was asked of a view of this state, and no pair is good for it but its last one
pub record IsSpared (ok : Specs → Type 0) (state : State) : Type 0 where
  pub forced : state.forced ≡ false
  pub needed : state.layout_needed ≡ false
  pub marked : state.measure_first ≡ false
  pub asked : (specs : Specs) → ok specs → specs_of state ≡ specs

-- nothing is asked of it now, and its last pair is the one that it was
pub record StaysSpared (old new : State) : Type 0 where
  pub forced : new.forced ≡ false
  pub needed : new.layout_needed ≡ false
  pub marked : new.measure_first ≡ false
  pub specs : specs_of new ≡ specs_of old

-- a mark is one measuring that is still to come
abbrev pub mark_of : State → ℕ
mark_of state = if state.measure_first then 1 else 0

-- the share of a view that was asked for so often, and that of all below it
pub record Share (ok : Specs → Type 0) (asks : ℕ) (old new : State) (own below : ℕ) : Type 0 where
  pub few : own + mark_of new ≤ asks + mark_of old
  pub still : IsSpared ok old → own + below ≡ 0
  pub unasked : ((specs : Specs) → ok specs → ⊥) → own + below ≡ 0
  pub stays : IsSpared ok old → StaysSpared old new

-- a count of measurings: those of the views of a list, of which the one at each place was asked for so often, and of
-- the views below them. A view asks for each of its children at most three times in one measuring
abbrev pub Shared : (ℕ → Specs → Type 0) → (ℕ → ℕ) → (ℕ → Held) → (ℕ → Held) → Forest Row → ℕ → Type 0
Shared ok asks old new Nothing count = count ≡ 0
Shared ok asks old new (Branch row kids siblings) count =
    (own : ℕ)
    × (below : ℕ)
    × (after : ℕ)
    × (count ≡ own + (below + after))
    × Share (ok 0) (asks 0) (old row.key).state (new row.key).state own below
    × Shared (AskedBy row kids (ok 0)) (λ place. 3 * own) old new kids below
    × Shared (λ place. ok (suc place)) (λ place. asks (suc place)) old new siblings after

-- a count rises at most by the measurings of a list
pub record SharesOut (ok : ℕ → Specs → Type 0) (asks : ℕ → ℕ) (before held : ℕ → Held) (list : Forest Row)
    (old new : ℕ) : Type 0 where
  pub count : ℕ
  pub shared : Shared ok asks before held list count
  pub spent : new ≤ old + count

-- what measuring leaves of the caches of a list, and how its count is shared out
pub record MeasuringTrace (ok : ℕ → Specs → Type 0) (asks : ℕ → ℕ) (before held : ℕ → Held) (list : Forest Row)
    (old new : ℕ) : Type 0 where
  pub caches : Grown ok before held list
  pub shares : SharesOut ok asks before held list old new

-- the most that a list may measure whose views are asked for so often: no calm view, nothing below one, and every other
-- view as often as it is asked for
abbrev pub most : (ℕ → Bool) → ℕ → Forest Row → ℕ
most calm asks Nothing = 0
most calm asks (Branch row kids siblings) =
    (if calm row.key then 0 else asks + most calm (3 * asks) kids) + most calm asks siblings

-- each calm view of a list is still, or no pair is good for it
abbrev pub AreSpared : (ℕ → Bool) → (ℕ → Specs → Type 0) → (ℕ → Held) → Forest Row → Type 0
AreSpared calm ok held Nothing = Unit {0}
AreSpared calm ok held (Branch row kids siblings) =
    (calm row.key ≡ true → IsSpared (ok 0) (held row.key).state ⊎ ((specs : Specs) → ok 0 specs → ⊥))
    × AreSpared calm (AskedBy row kids (ok 0)) held kids
    × AreSpared calm (λ place. ok (suc place)) held siblings
