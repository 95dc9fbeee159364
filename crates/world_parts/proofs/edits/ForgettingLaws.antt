-- What is forgotten of the parts of a tree: of a view with all below it, and of its later siblings.
use Rattle.std.proofs.Common.{◌≡◌, ℕ, ◌<◌, Bool, true, false, List, [], ◌∷◌, ◌++◌, refl, sym, ◌∙◌, ap}
use Rattle.std.specs.Prelude.{◌==◌, ◌&&◌, ◌||◌, not}
use Rattle.std.proofs.lemmas.List.{append-nil, map-append}
use Rattle.std.proofs.lemmas.List.Folds.{list_any-append}
use Rattle.size_hooks.specs.Hook.{Hook}
use Rattle.size_hooks.specs.Hooks.{disarmed}
use Rattle.touch_dispatch.specs.gesture.Gestures.{PlainGesture, closed}
use Rattle.view_model.specs.Forest.{Forest, Nothing, Branch, rows}
use Rattle.view_model.specs.PlainTree.{PlainView, numbers_of}
use Rattle.view_tree.specs.Rows.{Row, children_of_first, count_of_key, first_tree, head_view, later_siblings, part_from, views_of}
use Rattle.view_tree.proofs.forest.KeyLaws.{located}
use Rattle.world_parts.specs.Places.{all_disarmed}
use Rattle.world_parts.specs.Touching.{all_closed, is_among}

-- the numbers of the views of a list and of all below them
abbrev pub numbers_in : Forest Row → List ℕ
numbers_in list = numbers_of (views_of list)

numbers-branch : (row : Row) (kids siblings : Forest Row) → numbers_in (Branch row kids siblings) ≡ row.view.number ∷ (numbers_in kids ++ numbers_in siblings)
numbers-branch row kids siblings = ap (λ (l : List ℕ). row.view.number ∷ l) (map-append (λ (view : PlainView). view.number) (rows (views_of kids)) (rows (views_of siblings)))

numbers-first : (row : Row) (kids : Forest Row) → numbers_in (Branch row kids Nothing) ≡ row.view.number ∷ numbers_in kids
numbers-first row kids = numbers-branch row kids Nothing ∙ ap (λ (l : List ℕ). row.view.number ∷ l) (append-nil (numbers_in kids))

numbers-parts : (row : Row) (kids siblings : Forest Row) → numbers_in (Branch row kids siblings) ≡ numbers_in (Branch row kids Nothing) ++ numbers_in siblings
numbers-parts row kids siblings = numbers-branch row kids siblings ∙ sym (ap (λ (l : List ℕ). l ++ numbers_in siblings) (numbers-first row kids))

all_disarmed-append : (xs ys : List ℕ) (hooks : List Hook) → all_disarmed (xs ++ ys) hooks ≡ all_disarmed ys (all_disarmed xs hooks)
all_disarmed-append [] ys hooks = refl
all_disarmed-append (x ∷ xs) ys hooks = all_disarmed-append xs ys (disarmed x hooks)

all_closed-append : (xs ys : List ℕ) (gesture : PlainGesture) → all_closed (xs ++ ys) gesture ≡ all_closed ys (all_closed xs gesture)
all_closed-append [] ys gesture = refl
all_closed-append (x ∷ xs) ys gesture = all_closed-append xs ys (closed x gesture)

none_of-both : (was first second : Bool) → ((was && not first) && not second) ≡ (was && not (first || second))
none_of-both false first second = refl
none_of-both true true second = refl
none_of-both true false second = refl

-- nothing more is closed
pub and_more : (b : Bool) → (b && true) ≡ b
and_more true = refl
and_more false = refl

module _ (key : ℕ) (tree : Forest Row) (live : 0 < count_of_key key tree) where
  numbers_alone : numbers_in (first_tree (part_from key tree)) ≡ (head_view (part_from key tree)).number ∷ numbers_in (children_of_first (part_from key tree))
  numbers_alone = let f = located key tree live in rw f.is (numbers-first f.row f.kids)

  numbers_list : numbers_in (part_from key tree) ≡ numbers_in (first_tree (part_from key tree)) ++ numbers_in (later_siblings (part_from key tree))
  numbers_list = let f = located key tree live in rw f.is (numbers-parts f.row f.kids f.siblings)

  -- first the view, then all below it
  pub disarmed_alone : (hooks : List Hook) → all_disarmed (numbers_in (children_of_first (part_from key tree))) (disarmed (head_view (part_from key tree)).number hooks)
      ≡ all_disarmed (numbers_in (first_tree (part_from key tree))) hooks
  disarmed_alone hooks = sym (ap (λ (l : List ℕ). all_disarmed l hooks) numbers_alone)

  pub closed_alone : (gesture : PlainGesture) → all_closed (numbers_in (children_of_first (part_from key tree))) (closed (head_view (part_from key tree)).number gesture)
      ≡ all_closed (numbers_in (first_tree (part_from key tree))) gesture
  closed_alone gesture = sym (ap (λ (l : List ℕ). all_closed l gesture) numbers_alone)

  pub open_alone : (other : ℕ) (was : Bool) → ((was && not (other == (head_view (part_from key tree)).number)) && not (is_among other (numbers_in (children_of_first (part_from key tree)))))
      ≡ (was && not (is_among other (numbers_in (first_tree (part_from key tree)))))
  open_alone other was =
      none_of-both was (other == (head_view (part_from key tree)).number) (is_among other (numbers_in (children_of_first (part_from key tree))))
      ∙ sym (ap (λ (l : List ℕ). was && not (is_among other l)) numbers_alone)

  -- then what is after it
  pub disarmed_list : (hooks : List Hook) → all_disarmed (numbers_in (later_siblings (part_from key tree))) (all_disarmed (numbers_in (first_tree (part_from key tree))) hooks)
      ≡ all_disarmed (numbers_in (part_from key tree)) hooks
  disarmed_list hooks =
      sym (ap (λ (l : List ℕ). all_disarmed l hooks) numbers_list ∙ all_disarmed-append (numbers_in (first_tree (part_from key tree))) (numbers_in (later_siblings (part_from key tree))) hooks)

  pub closed_list : (gesture : PlainGesture) → all_closed (numbers_in (later_siblings (part_from key tree))) (all_closed (numbers_in (first_tree (part_from key tree))) gesture)
      ≡ all_closed (numbers_in (part_from key tree)) gesture
  closed_list gesture =
      sym (ap (λ (l : List ℕ). all_closed l gesture) numbers_list ∙ all_closed-append (numbers_in (first_tree (part_from key tree))) (numbers_in (later_siblings (part_from key tree))) gesture)

  pub open_list : (other : ℕ) (was : Bool) → ((was && not (is_among other (numbers_in (first_tree (part_from key tree))))) && not (is_among other (numbers_in (later_siblings (part_from key tree)))))
      ≡ (was && not (is_among other (numbers_in (part_from key tree))))
  open_list other was =
      none_of-both was (is_among other (numbers_in (first_tree (part_from key tree)))) (is_among other (numbers_in (later_siblings (part_from key tree))))
      ∙ ap (λ (b : Bool). was && not b) (sym (list_any-append (λ (n : ℕ). other == n) (numbers_in (first_tree (part_from key tree))) (numbers_in (later_siblings (part_from key tree)))))
      ∙ sym (ap (λ (l : List ℕ). was && not (is_among other l)) numbers_list)
