-- Views that have the bounds that they had.
use Rattle.std.proofs.Common.{◌≡◌, ◌<◌, ◌≤◌, ℕ, ℤ, false, refl, sym, ap, ◌∙◌, arith}
use Rattle.geom_core.specs.Rects.{holds}
use Rattle.seen_parts.proofs.ChangeLaws.{met_cut}
use Rattle.seen_parts.specs.Meeting.{met_at, placed_rows, seen_at}
use Rattle.view_model.specs.Forest.{Forest, Nothing, Branch}
use Rattle.view_model.specs.Visible.{Canvas}
use Rattle.view_tree.specs.Rows.{Row, count_of_key, pruned_at_key}
use Rattle.view_tree.specs.Views.{Held}
use Rattle.view_tree.proofs.forest.KeyLaws.{times_self}

-- a view has the bounds and the offset that it had
pub record IsStill (old new : Held) : Type 0 where
  pub bounds : new.state.bounds ≡ old.state.bounds
  pub offset : new.offset ≡ old.offset

-- so do the views of a list
abbrev pub AreStill : (ℕ → Held) → (ℕ → Held) → Forest Row → Type 0
AreStill old new list = (key : ℕ) → 0 < count_of_key key list → IsStill (old key) (new key)

pub placed_still : (old new : ℕ → Held) (list : Forest Row) → AreStill old new list → placed_rows new list ≡ placed_rows old list
placed_still old new Nothing still = refl
placed_still old new (Branch row kids siblings) still =
    let own = still row.key (times_self row kids siblings) in
    rw (own.bounds, own.offset, placed_still old new kids (λ key some. still key (omega arith)), placed_still old new siblings (λ key some. still key (omega arith))) refl

-- where nothing is seen of a view before and after it changes, and the others stay
pub met_beside : (x y : ℤ) (old new : ℕ → Held) (canvas : Canvas) (key : ℕ) (before after : Forest Row) → count_of_key key before ≤ 1 → count_of_key key after ≤ 1
    → holds (seen_at old canvas key before) x y ≡ false → holds (seen_at new canvas key after) x y ≡ false
    → pruned_at_key key after ≡ pruned_at_key key before → AreStill old new (pruned_at_key key before)
    → met_at x y canvas (placed_rows new after) ≡ met_at x y canvas (placed_rows old before)
met_beside x y old new canvas key before after once once' was is same still =
    met_cut x y new canvas key after once' is
    ∙ ap (λ (tree : Forest Row). met_at x y canvas (placed_rows new tree)) same
    ∙ ap (met_at x y canvas) (placed_still old new (pruned_at_key key before) still)
    ∙ sym (met_cut x y old canvas key before once was)
