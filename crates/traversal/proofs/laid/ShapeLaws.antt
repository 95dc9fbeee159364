-- What trees of the same shape have in common.
use Rattle.std.proofs.Common.{◌≡◌, ℕ, List, [], ◌∷◌, refl, sym, ◌∙◌, ap, inl, inr}
use Rattle.std.proofs.lemmas.Bool.{cases_Bool}
use Rattle.std.specs.Prelude.{◌==◌, if◌then◌else◌, pos}
use Rattle.kept_views.specs.Pressing.{path_of}
use Rattle.view_model.specs.Facts.{new_facts}
use Rattle.view_model.specs.Forest.{Forest, Nothing, Branch, count_of, map_rows, or_else, sum_of}
use Rattle.view_model.specs.PlainTree.{PlainView}
use Rattle.view_tree.specs.Rows.{Row, ancestors, around, count_of_key, head_view, part_from, views_of}
use Rattle.view_tree.specs.Views.{Views, number_of}
use Rattle.traversal.specs.Changing.{SameShape, bare}

sum-bare : (f : Row → ℕ) → ((row : Row) → f (bare row) ≡ f row) → (tree : Forest Row) → sum_of f (map_rows bare tree) ≡ sum_of f tree
sum-bare f same Nothing = refl
sum-bare f same (Branch row kids siblings) = rw (same row, sum-bare f same kids, sum-bare f same siblings) refl

-- sums that do not depend on facts
pub sum-same : {old new : Views} (f : Row → ℕ) → ((row : Row) → f (bare row) ≡ f row) → SameShape old new → sum_of f new.tree ≡ sum_of f old.tree
sum-same {old = old} {new = new} f same shape = sym (sum-bare f same new.tree) ∙ ap (sum_of f) shape.rows ∙ sum-bare f same old.tree

pub count_of-same : {old new : Views} → SameShape old new → count_of new.tree ≡ count_of old.tree
count_of-same shape = sum-same (λ row. 1) (λ row. refl) shape

pub count_of_key-same : {old new : Views} (key : ℕ) → SameShape old new → count_of_key key new.tree ≡ count_of_key key old.tree
count_of_key-same key shape = sum-same _ (λ row. refl) shape

-- the views around one, whose keys do not depend on facts
around-bare : (outer : List ℕ) (view : ℕ) (tree : Forest Row) → around outer view (map_rows bare tree) ≡ around outer view tree
around-bare outer view Nothing = refl
around-bare outer view (Branch row kids siblings) = elim (cases_Bool (row.key == view)) [
  | inl e ↦ rw e refl
  | inr e ↦ rw (e, sum-bare (λ (row : Row). if row.key == view then 1 else 0) (λ row. refl) kids, around-bare (row.key ∷ outer) view kids, around-bare outer view siblings) refl
]

pub path_of-same : {old new : Views} (view : ℕ) → SameShape old new → path_of view new.tree ≡ path_of view old.tree
path_of-same {old = old} {new = new} view shape =
    ap (λ list. view ∷ list) (sym (around-bare [] view new.tree) ∙ ap (ancestors view) shape.rows ∙ around-bare [] view old.tree)

or_else-bare : (first second : Forest Row) → or_else (map_rows bare first) (map_rows bare second) ≡ map_rows bare (or_else first second)
or_else-bare Nothing second = refl
or_else-bare (Branch row kids siblings) second = refl

part_from-bare : (key : ℕ) (tree : Forest Row) → part_from key (map_rows bare tree) ≡ map_rows bare (part_from key tree)
part_from-bare key Nothing = refl
part_from-bare key (Branch row kids siblings) = elim (cases_Bool (row.key == key)) [
  | inl e ↦ rw e refl
  | inr e ↦ rw (e, part_from-bare key kids, part_from-bare key siblings) (or_else-bare (part_from key kids) (part_from key siblings))
]

number-bare : (list : Forest Row) → (head_view (map_rows bare list)).number ≡ (head_view list).number
number-bare Nothing = refl
number-bare (Branch row kids siblings) = refl

-- the number under a key
pub number_of-same : {old new : Views} (key : ℕ) → SameShape old new → number_of new key ≡ number_of old key
number_of-same {old = old} {new = new} key shape =
    sym (number_at new.tree) ∙ ap (λ (tree : Forest Row). (head_view (part_from key tree)).number) shape.rows ∙ number_at old.tree
  where
    number_at : (tree : Forest Row) → (head_view (part_from key (map_rows bare tree))).number ≡ (head_view (part_from key tree)).number
    number_at tree = ap (λ (part : Forest Row). (head_view part).number) (part_from-bare key tree) ∙ number-bare (part_from key tree)

-- a view without its facts
abbrev pub bare_view : PlainView → PlainView
bare_view view = record view { facts = new_facts (pos 0) (pos 0) }

views-bare : (tree : Forest Row) → views_of (map_rows bare tree) ≡ map_rows bare_view (views_of tree)
views-bare Nothing = refl
views-bare (Branch row kids siblings) = ap (λ (below : Forest PlainView). Branch (bare_view row.view) below (views_of (map_rows bare siblings))) (views-bare kids)
    ∙ ap (λ (after : Forest PlainView). Branch (bare_view row.view) (map_rows bare_view (views_of kids)) after) (views-bare siblings)

-- the views without their keys and facts
pub views_of-same : {old new : Views} → SameShape old new → map_rows bare_view (views_of new.tree) ≡ map_rows bare_view (views_of old.tree)
views_of-same {old = old} {new = new} shape = sym (views-bare new.tree) ∙ ap views_of shape.rows ∙ views-bare old.tree
