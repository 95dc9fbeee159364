-- Which views are children is determined by the numbers of the views and the shape of their tree.
use Rattle.std.proofs.Common.{◌≡◌, ℕ, Bool, false, refl, sym, ◌∙◌, ap, inl, inr}
use Rattle.std.proofs.lemmas.Bool.{cases_Bool}
use Rattle.std.specs.Prelude.{if◌then◌else◌, ◌==◌, ◌||◌}
use Rattle.touch_dispatch.specs.gesture.Gestures.{PlainGesture}
use Rattle.touch_dispatch.specs.reaching.TreeEvents.{AreChildren, below_first, is_root}
use Rattle.view_model.specs.Forest.{Forest, Nothing, Branch, map_rows, or_else}
use Rattle.view_model.specs.PlainTree.{PlainView, part_of}
use Rattle.view_tree.specs.Rows.{Row, views_of}
use Rattle.view_tree.specs.Views.{Held, plain_rows}
use Rattle.view_tree.proofs.forest.ForestLaws.{map_rows-or_else}

-- the numbers of the views, in their places
abbrev pub shape_of : Forest PlainView → Forest ℕ
shape_of tree = map_rows (λ (view : PlainView). view.number) tree

abbrev part_in : ℕ → Forest ℕ → Forest ℕ
part_in number Nothing = Nothing
part_in number (Branch own below after) = if own == number then Branch own below Nothing else or_else (part_in number below) (part_in number after)

abbrev below_in : Forest ℕ → Forest ℕ
below_in Nothing = Nothing
below_in (Branch own below after) = below

abbrev root_in : ℕ → Forest ℕ → Bool
root_in number Nothing = false
root_in number (Branch own below after) = (own == number) || root_in number after

shape-part : (number : ℕ) (tree : Forest PlainView) → shape_of (part_of number tree) ≡ part_in number (shape_of tree)
shape-part number Nothing = refl
shape-part number (Branch view below after) =
    elim (cases_Bool (view.number == number)) [
      | inl e ↦ rw e refl
      | inr e ↦ rw e (
          map_rows-or_else (λ (view : PlainView). view.number) (part_of number below) (part_of number after)
          ∙ ap (λ t. or_else t (shape_of (part_of number after))) (shape-part number below)
          ∙ ap (λ t. or_else (part_in number (shape_of below)) t) (shape-part number after)
          )
    ]

shape-below : (tree : Forest PlainView) → shape_of (below_first tree) ≡ below_in (shape_of tree)
shape-below Nothing = refl
shape-below (Branch view below after) = refl

shape-root : (child : ℕ) (tree : Forest PlainView) → is_root child tree ≡ root_in child (shape_of tree)
shape-root child Nothing = refl
shape-root child (Branch view below after) = ap (λ b. (view.number == child) || b) (shape-root child after)

shape-child : (child group : ℕ) (tree : Forest PlainView) → is_root child (below_first (part_of group tree)) ≡ root_in child (below_in (part_in group (shape_of tree)))
shape-child child group tree =
    shape-root child (below_first (part_of group tree))
    ∙ ap (root_in child) (shape-below (part_of group tree))
    ∙ ap (λ t. root_in child (below_in t)) (shape-part group tree)

pub children_alike : (old new : Forest PlainView) (gesture : PlainGesture) → shape_of new ≡ shape_of old → AreChildren old gesture → AreChildren new gesture
children_alike old new gesture same caught group child there =
    shape-child child group new ∙ ap (λ t. root_in child (below_in (part_in group t))) same ∙ sym (shape-child child group old) ∙ caught group child there

-- changes that keep the numbers
pub shape-map : (change : PlainView → PlainView) (tree : Forest PlainView) → ((view : PlainView) → (change view).number ≡ view.number) → shape_of (map_rows change tree) ≡ shape_of tree
shape-map change Nothing same = refl
shape-map change (Branch view below after) same = rw (same view, shape-map change below same, shape-map change after same) refl

-- the offsets of views are independent of their numbers
pub shape-views : (held : ℕ → Held) (tree : Forest Row) → shape_of (views_of tree) ≡ shape_of (plain_rows held tree)
shape-views held Nothing = refl
shape-views held (Branch row kids siblings) = rw (shape-views held kids, shape-views held siblings) refl
