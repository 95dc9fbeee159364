-- A view has one parent, so that a child is a target of one group at most.
use Rattle.std.proofs.Common.{◌≡◌, ℕ, ℤ, ◌+◌, List, ◌≤◌, true, sym, ◌∙◌, ap, subst, arith, eqb-true, ◌⊎◌, inl, inr}
use Rattle.std.proofs.lemmas.Bool.{cases_Bool}
use Rattle.std.specs.Prelude.{◌==◌}
use Rattle.touch_dispatch.proofs.steps.ReachSteps.{views_occurs}
use Rattle.touch_dispatch.proofs.steps.SceneLaws.{kid_found, kid_root, kids_part}
use Rattle.touch_dispatch.proofs.steps.StayLaws.{occurs}
use Rattle.touch_dispatch.specs.gesture.Kept.{Kept, MayCapture, gesture_of, is_open}
use Rattle.touch_dispatch.specs.reaching.TreeEvents.{AreChildren, IsGestureIn, IsKidAt, below_first, is_root}
use Rattle.touch_targets.specs.Captures.{Target, is_target}
use Rattle.view_model.specs.Forest.{Branch, Forest, Nothing, or_else}
use Rattle.view_model.specs.PlainTree.{PlainView, part_of}
use Rattle.view_tree.proofs.forest.PlainLaws.{key_where_passes}
use Rattle.view_tree.specs.Rows.{Row, head_view, part_from, views_of}
use Rattle.view_tree.specs.Views.{IsLive, IsTree, Views, number_of}

root_occurs : (c : ℕ) (list : Forest PlainView) → is_root c list ≡ true → 1 ≤ occurs c list
root_occurs c Nothing root = absurd (cc)
root_occurs c (Branch view below after) root = elim (cases_Bool (view.number == c)) [
  | inl e ↦ rw e (omega arith)
  | inr e ↦ let later = root_occurs c after (rw e at root) in rw e (omega arith)
]

either : (c : ℕ) (first second : Forest PlainView) → is_root c (below_first (or_else first second)) ≡ true
    → (is_root c (below_first first) ≡ true) ⊎ (is_root c (below_first second) ≡ true)
either c Nothing second root = inr root
either c (Branch view below after) second root = inl root

-- a child of a view is in the forest
child_occurs : (c g : ℕ) (list : Forest PlainView) → is_root c (below_first (part_of g list)) ≡ true → 1 ≤ occurs c list
child_occurs c g Nothing root = absurd (cc)
child_occurs c g (Branch view below after) root = elim (cases_Bool (view.number == g)) [
  | inl e ↦ let here = root_occurs c below (rw e at root) in omega arith
  | inr e ↦ elim (either c (part_of g below) (part_of g after) (rw e at root)) [
    | inl r ↦ let here = child_occurs c g below r in omega arith
    | inr r ↦ let here = child_occurs c g after r in omega arith
  ]
]

-- a root that is a child too is there twice
root_child_occurs : (c g : ℕ) (list : Forest PlainView) → is_root c list ≡ true → is_root c (below_first (part_of g list)) ≡ true → 2 ≤ occurs c list
root_child_occurs c g Nothing root child = absurd (cc)
root_child_occurs c g (Branch view below after) root child = elim (cases_Bool (view.number == c)) [
  | inl e ↦ elim (cases_Bool (view.number == g)) [
    | inl f ↦ let here = root_occurs c below (rw f at child) in rw e (omega arith)
    | inr f ↦ elim (either c (part_of g below) (part_of g after) (rw f at child)) [
      | inl r ↦ let here = child_occurs c g below r in rw e (omega arith)
      | inr r ↦ let here = child_occurs c g after r in rw e (omega arith)
    ]
  ]
  | inr e ↦
      let later : is_root c after ≡ true = rw e at root in
      let there = root_occurs c after later in
      elim (cases_Bool (view.number == g)) [
        | inl f ↦ let here = root_occurs c below (rw f at child) in rw e (omega arith)
        | inr f ↦ elim (either c (part_of g below) (part_of g after) (rw f at child)) [
          | inl r ↦ let here = child_occurs c g below r in rw e (omega arith)
          | inr r ↦ let here = root_child_occurs c g after later r in rw e (omega arith)
        ]
      ]
]

less : (c : ℕ) (view : PlainView) (below after : Forest PlainView) → occurs c (Branch view below after) ≤ 1 → occurs c below + occurs c after ≤ 1
less c view below after once = elim (cases_Bool (view.number == c)) [
  | inl e ↦ let once = rw e at once in omega arith
  | inr e ↦ let once = rw e at once in omega arith
]

pub parent_same : (c g h : ℕ) (list : Forest PlainView) → occurs c list ≤ 1 → is_root c (below_first (part_of g list)) ≡ true → is_root c (below_first (part_of h list)) ≡ true → g ≡ h
parent_same c g h Nothing once first second = absurd (cc)
parent_same c g h (Branch view below after) once first second =
    let few = less c view below after once in
    elim (cases_Bool (view.number == g)) [
      | inl e ↦
          let here : is_root c below ≡ true = rw e at first in
          let there = root_occurs c below here in
          elim (cases_Bool (view.number == h)) [
            | inl f ↦ sym (eqb-true _ _ e) ∙ eqb-true _ _ f
            | inr f ↦ elim (either c (part_of h below) (part_of h after) (rw f at second)) [
              | inl r ↦ absurd (let twice = root_child_occurs c h below here r in omega arith)
              | inr r ↦ absurd (let more = child_occurs c h after r in omega arith)
            ]
          ]
      | inr e ↦ elim (either c (part_of g below) (part_of g after) (rw e at first)) [
        | inl r ↦
            let there = child_occurs c g below r in
            elim (cases_Bool (view.number == h)) [
              | inl f ↦ absurd (let twice = root_child_occurs c g below (rw f at second) r in omega arith)
              | inr f ↦ elim (either c (part_of h below) (part_of h after) (rw f at second)) [
                | inl s ↦ parent_same c g h below (omega arith) r s
                | inr s ↦ absurd (let more = child_occurs c h after s in omega arith)
              ]
            ]
        | inr r ↦
            let there = child_occurs c g after r in
            elim (cases_Bool (view.number == h)) [
              | inl f ↦ absurd (let more = root_occurs c below (rw f at second) in omega arith)
              | inr f ↦ elim (either c (part_of h below) (part_of h after) (rw f at second)) [
                | inl s ↦ absurd (let more = child_occurs c h below s in omega arith)
                | inr s ↦ parent_same c g h after (omega arith) r s
              ]
            ]
      ]
    ]

-- a gesture that keeps its places and whose targets are children
pub gesture_in : (tree : Forest Row) (old new : Kept) → IsGestureIn tree old → ((view : ℕ) → is_open new view ≡ is_open old view) → AreChildren (views_of tree) (gesture_of new)
    → IsGestureIn tree new
gesture_in tree old new is opened children = record {
  opened = λ key live. opened (head_view (part_from key tree)).number ∙ is.opened key live;
  children = children;
}

pub gesture_stays : (tree new_tree : Forest Row) (old new : Kept) → IsGestureIn tree old → new_tree ≡ tree → ((view : ℕ) → is_open new view ≡ is_open old view)
    → (gesture_of new).targets ≡ (gesture_of old).targets → IsGestureIn new_tree new
gesture_stays tree new_tree old new is same opened targets =
    subst (λ t. IsGestureIn t new) (sym same) (gesture_in tree old new is opened (λ group child there. is.children group child (ap (λ (t : ℕ → List Target). is_target child (t group)) (sym targets) ∙ there)))

-- a child may become a target of its parent
pub may_kid : (views : Views) (kept : Kept) (view kid : ℕ) → IsTree views → IsLive views view → IsKidAt views view kid → IsGestureIn views.tree kept
    → MayCapture kept (number_of views view) (number_of views kid)
may_kid views kept view kid is live at caught = record {
  group_open = caught.opened view live;
  child_open = caught.opened kid at.live;
  only = λ other there.
      let once = is.numbers (number_of views kid) in
      let count = views_occurs (number_of views kid) views.tree in
      parent_same (number_of views kid) other (number_of views view) (views_of views.tree) (omega (arith, once, count))
      (caught.children other (number_of views kid) there)
      (ap (is_root (number_of views kid)) (kids_part views view is live) ∙ kid_root views view kid at);
}

-- a target may get more pointers
pub may_target : (views : Views) (slop : ℤ) (kept : Kept) (view child : ℕ) → IsTree views → IsLive views view → IsGestureIn views.tree kept
    → is_target child ((gesture_of kept).targets (number_of views view)) ≡ true → MayCapture kept (number_of views view) child
may_target views slop kept view child is live caught there =
    let k = kid_found views slop view child is live (caught.children (number_of views view) child there) in
    let number : number_of views k.key ≡ child = eqb-true _ _ (key_where_passes (λ (v : PlainView). v.number == child) views.tree k.key k.key_is (is.keys k.key)) in
    subst (MayCapture kept (number_of views view)) number (may_kid views kept view k.key is live k.kid caught)
