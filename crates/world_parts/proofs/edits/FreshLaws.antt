-- No view that is to be added is a target, so it has a place that can be taken back.
use Rattle.std.proofs.Common.{◌≡◌, ℕ, ◌+◌, ◌<◌, ◌≤◌, true, false, arith, inl, inr}
use Rattle.std.proofs.lemmas.Bool.{cases_Bool}
use Rattle.std.specs.Prelude.{◌==◌}
use Rattle.touch_dispatch.specs.gesture.Kept.{Kept, gesture_of}
use Rattle.touch_dispatch.specs.reaching.TreeEvents.{IsGestureIn, below_first, is_root}
use Rattle.touch_targets.specs.Captures.{is_target}
use Rattle.view_model.specs.Forest.{Forest, Nothing, Branch, or_else}
use Rattle.view_model.specs.PlainTree.{PlainView, part_of}
use Rattle.view_tree.proofs.forest.ForestLaws.{times_in}
use Rattle.view_tree.specs.Views.{IsTree, Views, plain_of}
use Rattle.world_parts.proofs.touches.CaughtLaws.{caught_plain}
use Rattle.world_parts.proofs.touches.GrownCaught.{unused_next}
use Rattle.world_parts.specs.Places.{AreFree, HasNoneFrom}
use Rattle.world_parts.specs.Places.{HasNoneElse}

root_counted : (child : ℕ) (list : Forest PlainView) → is_root child list ≡ true → 0 < times_in child list
root_counted child Nothing root = absurd (cc)
root_counted child (Branch view below after) root =
    elim (cases_Bool (view.number == child)) [
      | inl e ↦ rw e (omega arith)
      | inr e ↦ let later = root_counted child after (rw e at root) in rw e (omega (arith, later))
    ]

times_below : (child : ℕ) (tree : Forest PlainView) → times_in child (below_first tree) ≤ times_in child tree
times_below child Nothing = omega arith
times_below child (Branch view below after) = omega arith

times_else : (child : ℕ) (first second : Forest PlainView) → times_in child (or_else first second) ≤ times_in child first + times_in child second
times_else child Nothing second = omega arith
times_else child (Branch view below after) second = omega arith

times_part : (child number : ℕ) (tree : Forest PlainView) → times_in child (part_of number tree) ≤ times_in child tree
times_part child number Nothing = omega arith
times_part child number (Branch view below after) =
    elim (cases_Bool (view.number == number)) [
      | inl e ↦ rw e (omega arith)
      | inr e ↦
          let one = times_part child number below in
          let two = times_part child number after in
          let both = times_else child (part_of number below) (part_of number after) in
          rw e (omega (arith, one, two, both))
    ]

-- no view that is to be added is a target
pub free_next : (views : Views) (kept : Kept) → IsTree views → IsGestureIn views.tree kept → (number : ℕ) → views.next ≤ number
    → (group : ℕ) → is_target number ((gesture_of kept).targets group) ≡ false
free_next views kept is caught number later group =
    elim (cases_Bool (is_target number ((gesture_of kept).targets group))) [
      | inr isnt ↦ isnt
      | inl there ↦
          let root = (caught_plain views kept is caught).children group number there in
          let counted = root_counted number (below_first (part_of group (plain_of views))) root in
          let below = times_below number (part_of group (plain_of views)) in
          let part = times_part number group (plain_of views) in
          let none = unused_next views number is later in
          absurd (omega (arith, counted, below, part, none))
    ]

-- nor has it a place
pub none_from : (views : Views) (kept : Kept) → IsTree views → HasNoneElse views.tree kept → HasNoneFrom views.next kept
none_from views kept is closed = λ number later. closed number (is.earlier number later)

pub are_free : (views : Views) (kept : Kept) → IsTree views → IsGestureIn views.tree kept → HasNoneElse views.tree kept → AreFree views.next kept
are_free views kept is caught closed = record { closed = none_from views kept is closed; free = free_next views kept is caught }
