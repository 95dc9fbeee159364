-- Whether views have children, by their keys and by their numbers, and how new views affect that.
use Rattle.std.proofs.Common.{◌≡◌, ◌≢◌, ℕ, ◌<◌, true, false, refl, sym, ◌∙◌, ap, arith, eqb-true, inl, inr}
use Rattle.std.proofs.lemmas.Bool.{cases_Bool, eq-eqb}
use Rattle.std.specs.Prelude.{◌==◌}
use Rattle.std.specs.Option.{is_some}
use Rattle.view_model.specs.Forest.{Forest, Nothing, Branch, has_below, has_row, joined, map_rows}
use Rattle.view_model.specs.PlainTree.{PlainView, has_child}
use Rattle.view_tree.specs.Rows.{Row, children_of_first, count_of_key, first_key, grown_at_key, has_kids, leaf, part_from}
use Rattle.view_tree.specs.Views.{IsLive, IsTree, Views, held_of, number_of, plain_of, scrolled}
use Rattle.view_tree.proofs.forest.GrownParts.{count_of_key-grown_more, part_from-new, read-grown}
use Rattle.view_tree.proofs.forest.KeyLaws.{absent, located, or_else_live, zero_or_more}
use Rattle.view_tree.proofs.forest.NumberLaws.{count_of_key-leaf_own, grown_absent}
use Rattle.view_tree.proofs.forest.PlainLaws.{agree_live, plain-part}

has_row-map : {R S : Type 0} (f : R → S) (list : Forest R) → has_row (map_rows f list) ≡ has_row list
has_row-map f Nothing = refl
has_row-map f (Branch row kids siblings) = refl

has_row-joined : (list more : Forest Row) → has_row more ≡ true → has_row (joined list more) ≡ true
has_row-joined Nothing more some = some
has_row-joined (Branch row kids siblings) more some = refl

has_row-grown : (parent : ℕ) (new tree : Forest Row) → has_row (grown_at_key parent new tree) ≡ has_row tree
has_row-grown parent new Nothing = refl
has_row-grown parent new (Branch row kids siblings) =
    elim (cases_Bool (row.key == parent)) [
      | inl e ↦ rw e
      | inr e ↦ rw e
    ]

-- the view of a live key has a child exactly if the view of its number has
pub has_child_live : (views : Views) (key : ℕ) → IsTree views → IsLive views key → has_child (number_of views key) (plain_of views) ≡ has_kids key views.tree
has_child_live views key is live =
    let f = located key views.tree live in
    ap has_below (plain-part (held_of views) key (number_of views key) views.tree (agree_live views key is live))
    ∙ rw f.is (has_row-map (scrolled (held_of views)) f.kids)

-- there is a first child exactly if there is a child
pub first-has_below : (part : Forest Row) → is_some (first_key (children_of_first part)) ≡ has_below part
first-has_below Nothing = refl
first-has_below (Branch row Nothing siblings) = refl
first-has_below (Branch row (Branch kid below after) siblings) = refl

-- if another view gets children, a view has some exactly if it had
pub has_kids-grown : (key parent : ℕ) (new tree : Forest Row) → key ≢ parent → count_of_key key new ≡ 0 → has_kids key (grown_at_key parent new tree) ≡ has_kids key tree
has_kids-grown key parent new tree apart none =
    read-grown has_below key new none (λ row kids siblings. refl) parent (λ row kids siblings. has_row-grown parent new kids)
    (λ row kids siblings f e. absurd (apart (sym (eqb-true row.key key f) ∙ eqb-true row.key parent e))) tree

-- the view that gets children has some
pub has_kids-parent : (parent : ℕ) (new tree : Forest Row) → 0 < count_of_key parent tree → has_row new ≡ true → has_kids parent (grown_at_key parent new tree) ≡ true
has_kids-parent parent new Nothing live some = absurd (omega arith)
has_kids-parent parent new (Branch row kids siblings) live some =
    elim (cases_Bool (row.key == parent)) [
      | inl e ↦ rw (e, e) (has_row-joined kids new some)
      | inr e ↦
          let live = rw e at live in
          elim (zero_or_more (count_of_key parent kids)) [
            | inl z ↦ rw (e, e, grown_absent parent new kids z, absent parent kids z) (has_kids-parent parent new siblings (omega arith) some)
            | inr l ↦
                let m : 0 < count_of_key parent (grown_at_key parent new kids) = let g = count_of_key-grown_more parent parent new kids in omega arith in
                rw (e, e) (ap has_below (or_else_live parent (grown_at_key parent new kids) (part_from parent (grown_at_key parent new siblings)) m)
                ∙ has_kids-parent parent new kids l some)
          ]
    ]

-- a view that is added alone has no child
pub has_kids-leaf : (key : ℕ) (view : PlainView) → has_kids key (leaf key view) ≡ false
has_kids-leaf key view = rw (eq-eqb key key refl)

pub has_kids-new : (key parent : ℕ) (view : PlainView) (tree : Forest Row) → 0 < count_of_key parent tree → count_of_key key tree ≡ 0
    → has_kids key (grown_at_key parent (leaf key view) tree) ≡ false
has_kids-new key parent view tree live none =
    let own = count_of_key-leaf_own key view in
    ap has_below (part_from-new key parent (leaf key view) tree live none (omega arith)) ∙ has_kids-leaf key view
