use Rattle.std.proofs.Common.{◌≢◌, ℕ, ◌<◌, ◌≤◌, get_or, length}
use Rattle.view_model.specs.SiblingRules.{no_link}
use Rattle.sibling_orders.specs.Latest.{IsReachedIn}
use Rattle.sibling_orders.proofs.latest.latest_of.Given as goal

abbrev pub invariant-loop-place : goal.invariant-loop-place
invariant-loop-place l =
    ((p : ℕ) → p < l.place → (get_or l.links p no_link).id ≢ 0 → IsReachedIn l.latest.entries (get_or l.links p no_link).id (get_or l.numbers p 0))
    × (length l.latest.entries ≤ l.place)
