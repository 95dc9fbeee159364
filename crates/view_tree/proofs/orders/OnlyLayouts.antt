-- Nothing is kept under a number that no relative layout of the tree has.
use Rattle.std.proofs.Common.{◌≡◌, ◌≢◌, ℕ, ◌<◌, ◌≤◌, true, Option, Some, None, refl, sym, ◌∙◌, ap, arith, inl, inr}
use Rattle.std.proofs.lemmas.Bool.{cases_Bool, cases_eq, eq-eqb, ne_eqb}
use Rattle.std.specs.Prelude.{IfSome, if◌then◌else◌}
use Rattle.view_model.specs.Classes.{is_relative}
use Rattle.view_model.specs.Forest.{Forest, Nothing, sum_of}
use Rattle.view_model.specs.Layout.{unscrolled}
use Rattle.view_model.specs.PlainTree.{PlainView}
use Rattle.view_tree.specs.tree.Groups.{HasNoOther, is_layout}
use Rattle.sibling_orders.specs.Ordering.{IsTakenAt}
use Rattle.view_tree.specs.Rows.{Row, changed_at_key, children_of_first, count_of_key, count_where, first_tree, head_view, leaf, part_from, pruned_at_key, with_child}
use Rattle.view_tree.proofs.forest.IdLaws.{one_of, sum-leaf}
use Rattle.view_tree.proofs.forest.KeyLaws.{located}
use Rattle.view_tree.proofs.forest.NumberLaws.{sum-pruned_at_key, sum-put, sum-with_child}
use Rattle.view_tree.proofs.orders.TreeLaws.{Groups, cases_some}

-- the tree is the same, and so is what is kept
pub only-same : (at now : Groups) (old new : Forest Row) → new ≡ old → ((k : ℕ) → now k ≡ at k) → HasNoOther at old → HasNoOther now new
only-same at now old new tree same only = λ k none. same k ∙ only k (ap (count_where (is_layout k)) (sym tree) ∙ none)

-- a view is changed, and keeps its number and its class
pub only-put : (at now : Groups) (old new : Forest Row) (key : ℕ) (change : PlainView → PlainView) → ((w : PlainView) → (change w).number ≡ w.number)
    → ((w : PlainView) → (change w).class ≡ w.class) → new ≡ changed_at_key key change old → ((k : ℕ) → at k ≡ None → now k ≡ None) → HasNoOther at old → HasNoOther now new
only-put at now old new key change numbers classes tree same only = λ k none.
    let layouts : count_where (is_layout k) (changed_at_key key change old) ≡ count_where (is_layout k) old =
    sum-put (one_of (is_layout k)) key change old (λ row. rw (numbers row.view, classes row.view)) in
    same k (only k (sym layouts ∙ ap (count_where (is_layout k)) (sym tree) ∙ none))

-- views are added
pub only-added : (at now : Groups) (old new : Forest Row) (parent : Option ℕ) (added : Forest Row) → IfSome parent (λ parent. 0 < count_of_key parent old) → (parent ≡ None → old ≡ Nothing)
    → ((key : ℕ) → count_of_key key old ≤ 1) → new ≡ with_child parent added old → ((k : ℕ) → count_where (is_layout k) added ≡ 0 → at k ≡ None → now k ≡ None)
    → HasNoOther at old → HasNoOther now new
only-added at now old new parent added live root once tree same only = λ k none.
    let all = sum-with_child (one_of (is_layout k)) parent added old live root once in
    let zero : count_where (is_layout k) (with_child parent added old) ≡ 0 = ap (count_where (is_layout k)) (sym tree) ∙ none in
    same k (omega arith) (only k (omega arith))

-- whether a view counts as the relative layout of a number
abbrev pub counted : ℕ → PlainView → ℕ
counted number view = if is_layout number view then 1 else 0

layout_no : (number : ℕ) (view : PlainView) → (is_relative view.class ≡ true → number ≢ view.number) → counted number view ≡ 0
layout_no number view other = elim (cases_eq view.number number) [
  | inl is ↦ elim (cases_Bool (is_relative view.class)) [
    | inl relative ↦ absurd (other relative (sym is))
    | inr plain ↦ rw (eq-eqb view.number number is, plain)
  ]
  | inr ne ↦ rw (ne_eqb view.number number ne)
]

pub layout_is : (number : ℕ) (view : PlainView) → counted number view ≡ 0 → is_relative view.class ≡ true → number ≢ view.number
layout_is number view none relative same =
    let one : counted number view ≡ 1 = rw (eq-eqb view.number number (sym same), relative) refl in
    absurd (omega arith)

-- a view without children is removed
pub only-pruned : (at now : Groups) (old new : Forest Row) (key : ℕ) → 0 < count_of_key key old → count_of_key key old ≤ 1 → children_of_first (part_from key old) ≡ Nothing
    → new ≡ pruned_at_key key old → now (head_view (part_from key old)).number ≡ None → ((k : ℕ) → k ≢ (head_view (part_from key old)).number → at k ≡ None → now k ≡ None)
    → HasNoOther at old → HasNoOther now new
only-pruned at now old new key live once bare tree own others only = λ k none. elim (cases_eq k (head_view (part_from key old)).number) [
  | inl is ↦ ap now is ∙ own
  | inr ne ↦
      let f = located key old live in
      let both = sum-pruned_at_key (one_of (is_layout k)) key old once in
      let mine : sum_of (one_of (is_layout k)) (first_tree (part_from key old)) ≡ 0 =
      sum-leaf (one_of (is_layout k)) (part_from key old) bare
      ∙ rw f.is (layout_no k f.row.view (λ relative. rw f.is at ne)) in
      let zero : count_where (is_layout k) (pruned_at_key key old) ≡ 0 = ap (count_where (is_layout k)) (sym tree) ∙ none in
      others k ne (only k (omega arith))
]

-- what a table has under a number of which it had nothing, once a child has left its group
pub none_taken : (number k : ℕ) (parent : Option ℕ) (at now : Groups) → (parent ≡ Some k → IsTakenAt number (at k) (now k)) → (parent ≢ Some k → now k ≡ at k)
    → at k ≡ None → now k ≡ None
none_taken number k parent at now own others none = elim (cases_some parent k) [
  | inl is ↦ let taken : IsTakenAt number None (now k) = rw none at (own is) in taken
  | inr ne ↦ others ne ∙ none
]

-- a leaf is added
pub layouts-leaf : (k key : ℕ) (view : PlainView) → count_where (is_layout k) (leaf key view) ≡ 0 → is_relative view.class ≡ true → k ≢ view.number
layouts-leaf k key view none relative = layout_is k (unscrolled view) (omega arith) relative
