-- A gesture in a tree from which a part is taken away.
use Rattle.std.proofs.Common.{◌≡◌, ℕ, ◌+◌, ◌≤◌, Bool, true, false, List, [], ◌∷◌, refl, sym, ◌∙◌, ap, subst, arith, eqb-true, inl, inr}
use Rattle.std.proofs.lemmas.Bool.{cases_Bool}
use Rattle.std.specs.List.{list_any}
use Rattle.std.specs.Prelude.{◌==◌, ◌||◌}
use Rattle.touch_dispatch.specs.gesture.Gestures.{PlainGesture, closed}
use Rattle.touch_dispatch.specs.gesture.Kept.{Kept, gesture_of, is_open}
use Rattle.touch_dispatch.specs.reaching.TreeEvents.{IsGestureIn, below_first, is_root}
use Rattle.touch_targets.specs.Captures.{Target, is_target, without_child}
use Rattle.view_model.specs.Forest.{Forest, Nothing, Branch, or_else}
use Rattle.view_model.specs.PlainTree.{PlainView, numbers_of, part_of, pruned}
use Rattle.view_tree.proofs.forest.ForestLaws.{times_in}
use Rattle.view_tree.specs.Views.{IsTree, Views, held_of, plain_of}
use Rattle.view_tree.proofs.forest.KeyLaws.{zero_or_more}
use Rattle.world_parts.specs.Touching.{all_closed}
use Rattle.world_parts.proofs.touches.CaughtLaws.{IsCaughtIn, caught_keyed, caught_plain, times-plain}
use Rattle.world_parts.proofs.touches.GrownCaught.{or_else_root}
use Rattle.world_parts.proofs.trees.PartCounts.{apart, none_numbered, part_first, part_none, times-pruned}

-- a child that is left when another is taken away
still_target : (child other : ℕ) (targets : List Target) → is_target child (without_child other targets) ≡ true → (is_target child targets ≡ true) × ((child == other) ≡ false)
still_target child other [] there = absurd (cc)
still_target child other (t ∷ targets) there =
    elim (cases_Bool (t.child == other)) [
      | inl e ↦
          let i = still_target child other targets (rw e at there) in
          (ap (λ b. (t.child == child) || b) i.0 ∙ or_true (t.child == child), i.1)
      | inr e ↦ elim (cases_Bool (t.child == child)) [
        | inl f ↦ (rw f refl, subst (λ c. (c == other) ≡ false) (eqb-true _ _ f) e)
        | inr f ↦
            let there = rw e at there in
            let i = still_target child other targets (rw f at there) in
            (rw f i.0, i.1)
      ]
    ]
  where
    or_true : (b : Bool) → (b || true) ≡ true
    or_true true = refl
    or_true false = refl

-- a target that is left when nothing is kept of some views: neither it nor its group is one of these
pub record IsLeft (child group : ℕ) (numbers : List ℕ) (gesture : PlainGesture) : Type 0 where
  pub target : is_target child (gesture.targets group) ≡ true
  pub group_stays : list_any (λ own. group == own) numbers ≡ false
  pub child_stays : list_any (λ own. child == own) numbers ≡ false

left_one : (child group view : ℕ) (gesture : PlainGesture) → is_target child ((closed view gesture).targets group) ≡ true → IsLeft child group (view ∷ []) gesture
left_one child group view gesture there =
    elim (cases_Bool (group == view)) [
      | inl e ↦ absurd (let there = rw e at there in cc)
      | inr e ↦
          let i = still_target child view (gesture.targets group) (rw e at there) in
          record { target = i.0; group_stays = rw e refl; child_stays = rw i.1 refl }
    ]

pub left_all : (child group : ℕ) (numbers : List ℕ) (gesture : PlainGesture) → is_target child ((all_closed numbers gesture).targets group) ≡ true → IsLeft child group numbers gesture
left_all child group [] gesture there = record { target = there; group_stays = refl; child_stays = refl }
left_all child group (number ∷ numbers) gesture there =
    let later = left_all child group numbers (closed number gesture) there in
    let first = left_one child group number gesture later.target in
    record {
      target = first.target;
      group_stays = both (group == number) (list_any (λ own. group == own) numbers) first.group_stays later.group_stays;
      child_stays = both (child == number) (list_any (λ own. child == own) numbers) first.child_stays later.child_stays;
    }
  where
    both : (a b : Bool) → (a || false) ≡ false → b ≡ false → (a || b) ≡ false
    both true b e f = e
    both false b e f = f

root_pruned : (child number : ℕ) (list : Forest PlainView) → times_in number list ≤ 1 → times_in child (part_of number list) ≡ 0 → is_root child list ≡ true
    → is_root child (pruned number list) ≡ true
root_pruned child number Nothing once none root = absurd (cc)
root_pruned child number (Branch view below after) once none root =
    elim (cases_Bool (view.number == number)) [
      | inl e ↦ elim (cases_Bool (view.number == child)) [
        | inl f ↦ absurd (let none = rw (e, f) at none in omega arith)
        | inr f ↦ rw e (rw f at root)
      ]
      | inr e ↦
          let once : 0 + (times_in number below + times_in number after) ≤ 1 = rw e at once in
          let parts = apart child number below after (omega arith) (rw e at none) in
          elim (cases_Bool (view.number == child)) [
            | inl f ↦ rw (e, f) refl
            | inr f ↦ rw (e, f) (root_pruned child number after (omega arith) parts.second (rw f at root))
          ]
    ]

-- a child stays one if neither it nor its group is in the part
child_pruned : (child group number : ℕ) (tree : Forest PlainView) → times_in number tree ≤ 1 → times_in group (part_of number tree) ≡ 0 → times_in child (part_of number tree) ≡ 0
    → is_root child (below_first (part_of group tree)) ≡ true → is_root child (below_first (part_of group (pruned number tree))) ≡ true
child_pruned child group number Nothing once outside apart_child root = absurd (cc)
child_pruned child group number (Branch view below after) once outside apart_child root =
    elim (cases_Bool (view.number == number)) [
      | inl e ↦
          let outside : times_in group (Branch view below Nothing) ≡ 0 = rw e at outside in
          elim (cases_Bool (view.number == group)) [
            | inl f ↦ absurd (let outside = rw f at outside in omega arith)
            | inr f ↦ let root = rw f at root in rw e (rw (part_none group below (omega arith)) at root)
          ]
      | inr e ↦
          let once : 0 + (times_in number below + times_in number after) ≤ 1 = rw e at once in
          let groups = apart group number below after (omega arith) (rw e at outside) in
          let kids = apart child number below after (omega arith) (rw e at apart_child) in
          elim (cases_Bool (view.number == group)) [
            | inl f ↦ rw (e, f) (root_pruned child number below (omega arith) kids.first (rw f at root))
            | inr f ↦
                let root : is_root child (below_first (or_else (part_of group below) (part_of group after))) ≡ true = rw f at root in
                elim (zero_or_more (times_in group below)) [
                  | inl z ↦
                      let later = child_pruned child group number after (omega arith) groups.second kids.second (rw (part_none group below z) at root) in
                      let count = times-pruned group number below (omega arith) in
                      rw (e, f, part_none group (pruned number below) (omega arith)) later
                  | inr l ↦
                      let here = ap (λ t. is_root child (below_first t)) (sym (part_first group below (part_of group after) l)) ∙ root in
                      let under = child_pruned child group number below (omega arith) groups.first kids.first here in
                      rw (e, f) (or_else_root child (part_of group (pruned number below)) (part_of group (pruned number after)) under)
                ]
          ]
    ]

-- a part is removed, with all that is kept of its views
pub caught_pruned : (number : ℕ) (tree : Forest PlainView) (before after : Kept) → ((other : ℕ) → times_in other tree ≤ 1)
    → gesture_of after ≡ all_closed (numbers_of (part_of number tree)) (gesture_of before)
    → ((other : ℕ) → times_in other (part_of number tree) ≡ 0 → is_open before other ≡ true → is_open after other ≡ true) → IsCaughtIn tree before → IsCaughtIn (pruned number tree) after
caught_pruned number tree before after once cleared stay caught = record {
  opened = λ other there.
      let count = times-pruned other number tree (once number) in
      let one = once other in
      stay other (omega arith) (caught.opened other (omega arith));
  children = λ group child there.
      let left = left_all child group (numbers_of (part_of number tree)) (gesture_of before) (ap (λ (g : PlainGesture). is_target child (g.targets group)) (sym cleared) ∙ there) in
      child_pruned child group number tree (once number) (none_numbered group (part_of number tree) left.group_stays) (none_numbered child (part_of number tree) left.child_stays)
      (caught.children group child left.target);
}

pub gesture_pruned : (old new : Views) (number : ℕ) (before after : Kept) → IsTree old → plain_of new ≡ pruned number (plain_of old)
    → gesture_of after ≡ all_closed (numbers_of (part_of number (plain_of old))) (gesture_of before)
    → ((other : ℕ) → times_in other (part_of number (plain_of old)) ≡ 0 → is_open before other ≡ true → is_open after other ≡ true)
    → IsGestureIn old.tree before → IsGestureIn new.tree after
gesture_pruned old new number before after is cut cleared stay caught =
    let once : (other : ℕ) → times_in other (plain_of old) ≤ 1 = λ other. subst (λ n. n ≤ 1) (sym (times-plain (held_of old) other old.tree)) (is.numbers other) in
    caught_keyed new after (subst (λ t. IsCaughtIn t after) (sym cut) (caught_pruned number (plain_of old) before after once cleared stay (caught_plain old before is caught)))
