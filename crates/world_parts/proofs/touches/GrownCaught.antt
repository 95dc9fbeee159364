-- A gesture in a tree that gets views.
use Rattle.std.proofs.Common.{◌≡◌, ℕ, ◌+◌, ◌<◌, ◌≤◌, Bool, true, false, Option, Some, None, refl, sym, ◌∙◌, ap, subst, arith, eqb-true, inl, inr}
use Rattle.std.proofs.lemmas.Bool.{cases_Bool, eq-eqb}
use Rattle.std.specs.Prelude.{◌==◌, ◌||◌}
use Rattle.touch_dispatch.specs.gesture.Gestures.{PlainGesture}
use Rattle.touch_dispatch.specs.gesture.Kept.{Kept, gesture_of, is_open}
use Rattle.touch_dispatch.specs.reaching.TreeEvents.{AreChildren, IsGestureIn, below_first, is_root}
use Rattle.view_model.specs.Directed.{directed}
use Rattle.view_model.specs.Forest.{Forest, Nothing, Branch, count_of, joined, or_else}
use Rattle.view_model.specs.Growth.{grown_at}
use Rattle.view_model.specs.PlainTree.{PlainView, grown, part_of, single}
use Rattle.view_model.specs.Sprouts.{Seed, numbered}
use Rattle.view_tree.proofs.forest.ForestLaws.{times_in}
use Rattle.view_tree.specs.Views.{IsTree, Views, held_of, plain_of, plain_rows}
use Rattle.view_tree.proofs.forest.KeyLaws.{zero_or_more}
use Rattle.world_parts.proofs.touches.CaughtLaws.{IsCaughtIn, caught_keyed, caught_plain, times-plain}
use Rattle.world_parts.proofs.trees.DirectedLaws.{times-directed}
use Rattle.world_parts.proofs.trees.PartCounts.{numbered_within, part-joined, part_first, part_none, times_grown_none}

root_joined : (child : ℕ) (list more : Forest PlainView) → is_root child list ≡ true → is_root child (joined list more) ≡ true
root_joined child Nothing more root = absurd (cc)
root_joined child (Branch view below after) more root = elim (cases_Bool (view.number == child)) [
  | inl e ↦ rw e refl
  | inr e ↦ rw e (root_joined child after more (rw e at root))
]

root_grown : (child parent : ℕ) (new list : Forest PlainView) → is_root child list ≡ true → is_root child (grown parent new list) ≡ true
root_grown child parent new Nothing root = absurd (cc)
root_grown child parent new (Branch view below after) root =
    elim (cases_Bool (view.number == parent)) [
      | inl e ↦ rw e root
      | inr e ↦ elim (cases_Bool (view.number == child)) [
        | inl f ↦ rw (e, f) refl
        | inr f ↦ rw (e, f) (root_grown child parent new after (rw f at root))
      ]
    ]

pub or_else_root : (child : ℕ) (first second : Forest PlainView) → is_root child (below_first first) ≡ true → is_root child (below_first (or_else first second)) ≡ true
or_else_root child Nothing second root = absurd (cc)
or_else_root child (Branch view below after) second root = root

-- a child stays one, if its group is none of the new views
child_grown : (child group parent : ℕ) (new tree : Forest PlainView) → times_in group new ≡ 0
    → is_root child (below_first (part_of group tree)) ≡ true → is_root child (below_first (part_of group (grown parent new tree))) ≡ true
child_grown child group parent new Nothing none root = absurd (cc)
child_grown child group parent new (Branch view below after) none root =
    elim (cases_Bool (view.number == group)) [
      | inl f ↦ elim (cases_Bool (view.number == parent)) [
        | inl e ↦ rw (e, f) (root_joined child below new (rw f at root))
        | inr e ↦ rw (e, f) (root_grown child parent new below (rw f at root))
      ]
      | inr f ↦
          let root : is_root child (below_first (or_else (part_of group below) (part_of group after))) ≡ true = rw f at root in
          elim (cases_Bool (view.number == parent)) [
            | inl e ↦ rw (e, f, part-joined group below new none) root
            | inr e ↦ elim (zero_or_more (times_in group below)) [
              | inl z ↦
                  let later = child_grown child group parent new after none (rw (part_none group below z) at root) in
                  rw (e, f, part_none group (grown parent new below) (times_grown_none group parent new below none z)) later
              | inr l ↦
                  let under = child_grown child group parent new below none (ap (λ t. is_root child (below_first t)) (sym (part_first group below (part_of group after) l)) ∙ root) in
                  rw (e, f) (or_else_root child (part_of group (grown parent new below)) (part_of group (grown parent new after)) under)
            ]
          ]
    ]

-- if the new views are none of the tree, and have places
pub record ComesFresh (new tree : Forest PlainView) (kept : Kept) (number : ℕ) : Type 0 where
  pub unused : times_in number tree ≡ 0
  pub opened : is_open kept number ≡ true

children_below : (parent : ℕ) (new tree : Forest PlainView) (gesture : PlainGesture) → ((number : ℕ) → 0 < times_in number new → times_in number tree ≡ 0)
    → AreChildren tree gesture → AreChildren (grown parent new tree) gesture
children_below parent new tree gesture unused caught group child there =
    let root = caught group child there in
    elim (zero_or_more (times_in group new)) [
      | inl z ↦ child_grown child group parent new tree z root
      | inr l ↦ absurd (let root = rw (part_none group tree (unused group l)) at root in cc)
    ]

opened_below : (parent number : ℕ) (new tree : Forest PlainView) (kept : Kept) → (0 < times_in number new → is_open kept number ≡ true)
    → (0 < times_in number tree → is_open kept number ≡ true) → 0 < times_in number (grown parent new tree) → is_open kept number ≡ true
opened_below parent number new tree kept fresh before there =
    elim (zero_or_more (times_in number new)) [
      | inr l ↦ fresh l
      | inl z ↦ elim (zero_or_more (times_in number tree)) [
        | inr l ↦ before l
        | inl y ↦ absurd (let none = times_grown_none number parent new tree z y in omega arith)
      ]
    ]

-- views are added below another, or as the whole tree
pub caught_grown : (place : Option ℕ) (new tree : Forest PlainView) (before after : Kept) → (place ≡ None → tree ≡ Nothing) → gesture_of after ≡ gesture_of before
    → ((number : ℕ) → is_open before number ≡ true → is_open after number ≡ true) → ((number : ℕ) → 0 < times_in number new → ComesFresh new tree after number)
    → IsCaughtIn tree before → IsCaughtIn (grown_at place new tree) after
caught_grown None new tree before after root same stay fresh caught = record {
  opened = λ number there. (fresh number there).opened;
  children = λ group child there.
      let target = subst (AreChildren tree) (sym same) caught.children group child there in
      absurd (let target = rw (root refl) at target in cc);
}
caught_grown (Some parent) new tree before after root same stay fresh caught = record {
  opened = λ number there.
      opened_below parent number new tree after (λ l. (fresh number l).opened) (λ l. stay number (caught.opened number l)) there;
  children = children_below parent new tree (gesture_of after) (λ number l. (fresh number l).unused) (subst (AreChildren tree) (sym same) caught.children);
}

single_number : (number : ℕ) (view : PlainView) → 0 < times_in number (single view) → view.number ≡ number
single_number number view there = elim (cases_Bool (view.number == number)) [
  | inl e ↦ eqb-true _ _ e
  | inr e ↦ absurd (let there = rw e at there in omega arith)
]

-- no view of a tree has the next number or a greater one
pub unused_next : (views : Views) (number : ℕ) → IsTree views → views.next ≤ number → times_in number (plain_of views) ≡ 0
unused_next views number is later = times-plain (held_of views) number views.tree ∙ is.earlier number later

plain_root : (views : Views) (place : Option ℕ) → (place ≡ None → views.tree ≡ Nothing) → place ≡ None → plain_of views ≡ Nothing
plain_root views place root e = ap (plain_rows (held_of views)) (root e)

-- a view is added under the next number, for which there is a place
pub gesture_grown : (old new : Views) (place : Option ℕ) (view : PlainView) (before after : Kept) → IsTree old → (place ≡ None → old.tree ≡ Nothing) → view.number ≡ old.next
    → plain_of new ≡ grown_at place (single view) (plain_of old) → gesture_of after ≡ gesture_of before
    → ((other : ℕ) → is_open after other ≡ (is_open before other || other == old.next)) → IsGestureIn old.tree before → IsGestureIn new.tree after
gesture_grown old new place view before after is root own grew same opened caught =
    let stay : (number : ℕ) → is_open before number ≡ true → is_open after number ≡ true = λ number there. opened number ∙ ap (λ b. b || number == old.next) there in
    let fresh : (number : ℕ) → 0 < times_in number (single view) → ComesFresh (single view) (plain_of old) after number =
    λ number there.
    let number_is : number ≡ old.next = sym (single_number number view there) ∙ own in
    record { unused = unused_next old number is (omega (arith, number_is)); opened = opened number ∙ ap (λ b. is_open before number || b) (eq-eqb number old.next number_is) ∙ or_true (is_open before number) } in
    caught_keyed new after (subst (λ t. IsCaughtIn t after) (sym grew)
    (caught_grown place (single view) (plain_of old) before after (plain_root old place root) same stay fresh (caught_plain old before is caught)))
  where
    or_true : (b : Bool) → (b || true) ≡ true
    or_true true = refl
    or_true false = refl

-- the views of a file are added under the next numbers, for which there are places
pub gesture_grafted : (old new : Views) (place : Option ℕ) (rtl : Bool) (seeds : Forest Seed) (before after : Kept) → IsTree old → (place ≡ None → old.tree ≡ Nothing)
    → plain_of new ≡ grown_at place (directed rtl (numbered old.next seeds)) (plain_of old) → gesture_of after ≡ gesture_of before
    → ((number : ℕ) → is_open before number ≡ true → is_open after number ≡ true)
    → ((number : ℕ) → old.next ≤ number → number < old.next + count_of seeds → is_open after number ≡ true) → IsGestureIn old.tree before → IsGestureIn new.tree after
gesture_grafted old new place rtl seeds before after is root grew same stay opened caught =
    let views = directed rtl (numbered old.next seeds) in
    let fresh : (number : ℕ) → 0 < times_in number views → ComesFresh views (plain_of old) after number =
    λ number there.
    let within = numbered_within number old.next seeds (subst (λ (n : ℕ). 0 < n) (times-directed number rtl (numbered old.next seeds)) there) in
    record { unused = unused_next old number is within.0; opened = opened number within.0 within.1 } in
    caught_keyed new after (subst (λ t. IsCaughtIn t after) (sym grew)
    (caught_grown place views (plain_of old) before after (plain_root old place root) same stay fresh (caught_plain old before is caught)))
