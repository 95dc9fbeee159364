-- The numbers of the views of a removed part, and what is left of a gesture then.
use Rattle.std.proofs.Common.{◌≡◌, ℕ, Bool, true, false, List, [], ◌∷◌, map, refl, sym, ◌∙◌, ap, arith, eqb-true, inl, inr}
use Rattle.std.proofs.lemmas.Bool.{cases_Bool, eq-eqb, ne_eqb}
use Rattle.std.proofs.lemmas.List.{map-append}
use Rattle.std.proofs.lemmas.List.Folds.{list_any-append}
use Rattle.std.specs.Prelude.{◌==◌, ◌&&◌, ◌||◌, not}
use Rattle.touch_dispatch.specs.gesture.Kept.{Kept, gesture_of, is_open}
use Rattle.touch_dispatch.specs.reaching.TreeEvents.{IsGestureIn, part_at}
use Rattle.view_model.specs.Forest.{Forest, Nothing, Branch, rows}
use Rattle.view_model.specs.Layout.{unscrolled}
use Rattle.view_model.specs.PlainTree.{PlainView, numbers_of, part_of, pruned}
use Rattle.view_tree.proofs.forest.ForestLaws.{rows-map, times_in}
use Rattle.view_tree.specs.Views.{IsLive, IsTree, Views, number_of, plain_of}
use Rattle.world_parts.proofs.touches.CutCaught.{gesture_pruned}
use Rattle.world_parts.proofs.trees.PartLaws.{part_plain}
use Rattle.world_parts.specs.Touching.{all_closed, is_among, unscrolled_tree}

same_either_way : (a b : ℕ) → (a == b) ≡ (b == a)
same_either_way a b =
    elim (cases_Bool (b == a)) [
      | inl e ↦ rw e (eq-eqb a b (sym (eqb-true _ _ e)))
      | inr e ↦ rw e (ne_eqb a b (λ same. let there = eq-eqb b a (sym same) in cc))
    ]

among-branch : (number : ℕ) (view : PlainView) (below after : Forest PlainView)
    → is_among number (numbers_of (Branch view below after)) ≡ ((view.number == number) || (is_among number (numbers_of below) || is_among number (numbers_of after)))
among-branch number view below after =
    ap (λ (l : List ℕ). is_among number (view.number ∷ l)) (map-append (λ (v : PlainView). v.number) (rows below) (rows after))
    ∙ ap (λ (b : Bool). (number == view.number) || b) (list_any-append (λ (n : ℕ). number == n) (numbers_of below) (numbers_of after))
    ∙ ap (λ (b : Bool). b || (is_among number (numbers_of below) || is_among number (numbers_of after))) (same_either_way number view.number)

among_none : (number : ℕ) (list : Forest PlainView) → times_in number list ≡ 0 → is_among number (numbers_of list) ≡ false
among_none number Nothing none = refl
among_none number (Branch view below after) none =
    elim (cases_Bool (view.number == number)) [
      | inl e ↦ absurd (let none = rw e at none in omega arith)
      | inr e ↦ among-branch number view below after ∙ rw (e, among_none number below (omega arith), among_none number after (omega arith)) refl
    ]

numbers_listed : (views : List PlainView) → map (λ (view : PlainView). view.number) (map unscrolled views) ≡ map (λ (view : PlainView). view.number) views
numbers_listed [] = refl
numbers_listed (view ∷ views) = ap (λ (l : List ℕ). view.number ∷ l) (numbers_listed views)

numbers-unscrolled : (tree : Forest PlainView) → numbers_of (unscrolled_tree tree) ≡ numbers_of tree
numbers-unscrolled tree = ap (map (λ (view : PlainView). view.number)) (rows-map unscrolled tree) ∙ numbers_listed (rows tree)

-- the numbers of the part of a view
pub part_numbers : (views : Views) (key : ℕ) → IsTree views → IsLive views key → numbers_of (part_at views key) ≡ numbers_of (part_of (number_of views key) (plain_of views))
part_numbers views key is live = ap numbers_of (part_plain views key is live) ∙ numbers-unscrolled (part_of (number_of views key) (plain_of views))

pub gesture_removed : (old new : Views) (key : ℕ) (before after : Kept) → IsTree old → IsLive old key → plain_of new ≡ pruned (number_of old key) (plain_of old)
    → gesture_of after ≡ all_closed (numbers_of (part_at old key)) (gesture_of before)
    → ((number : ℕ) → is_open after number ≡ (is_open before number && not (is_among number (numbers_of (part_at old key)))))
    → IsGestureIn old.tree before → IsGestureIn new.tree after
gesture_removed old new key before after is live plain gesture opened caught =
    let part = part_of (number_of old key) (plain_of old) in
    let numbers = part_numbers old key is live in
    let stay : (number : ℕ) → times_in number part ≡ 0 → is_open before number ≡ true → is_open after number ≡ true = λ number none open_before.
    opened number ∙ ap (λ (l : List ℕ). is_open before number && not (is_among number l)) numbers ∙ rw (open_before, among_none number part none) refl in
    gesture_pruned old new (number_of old key) before after is plain (gesture ∙ ap (λ (l : List ℕ). all_closed l (gesture_of before)) numbers) stay caught
