-- How often keys and numbers occur after edits of a tree, as linear facts.
use Rattle.std.proofs.Common.{◌≡◌, ◌≢◌, ℕ, ◌+◌, ◌<◌, ◌≤◌, Option, Some, None, refl, sym, ap, subst, arith, inl, inr}
use Rattle.std.proofs.lemmas.Bool.{eq-eqb, ne_eqb, cases_Bool}
use Rattle.std.specs.Prelude.{◌==◌, if◌then◌else◌, ◌↔◌, IfSome}
use Rattle.view_model.specs.Forest.{Forest, Nothing, Branch, count_of, edited_where, joined, or_else, sum_of}
use Rattle.view_model.specs.PlainTree.{PlainView}
use Rattle.view_tree.specs.Rows.{Row, first_tree, later_siblings, pruned_at_key, part_from, grown_at_key, leaf, changed_at_key, count_of_key, count_of_number, with_child}
use Rattle.view_tree.proofs.forest.ForestLaws.{every-edited}
use Rattle.view_tree.proofs.forest.KeyLaws.{Agree, absent, located, times_self, zero_or_more}

abbrev pub has_key : ℕ → Row → ℕ
has_key key row = if row.key == key then 1 else 0

abbrev pub has_number : ℕ → Row → ℕ
has_number number row = if row.view.number == number then 1 else 0

-- an edit at a key that does not occur changes nothing
pub edited_absent : (key : ℕ) (edit : Row → Forest Row → Forest Row → Forest Row) (tree : Forest Row) → count_of_key key tree ≡ 0
    → edited_where (λ (row : Row). row.key == key) edit tree ≡ tree
edited_absent key edit Nothing none = refl
edited_absent key edit (Branch row kids siblings) none =
    elim (cases_Bool (row.key == key)) [
      | inl e ↦ absurd (let none = rw e at none in omega arith)
      | inr e ↦ rw (e, edited_absent key edit kids (omega arith), edited_absent key edit siblings (omega arith))
    ]

pub cut_absent : (key : ℕ) (tree : Forest Row) → count_of_key key tree ≡ 0 → pruned_at_key key tree ≡ tree
cut_absent key tree none = edited_absent key _ tree none

pub grown_absent : (parent : ℕ) (new tree : Forest Row) → count_of_key parent tree ≡ 0 → grown_at_key parent new tree ≡ tree
grown_absent parent new tree none = edited_absent parent _ tree none

pub put_absent : (key : ℕ) (change : PlainView → PlainView) (tree : Forest Row) → count_of_key key tree ≡ 0 → changed_at_key key change tree ≡ tree
put_absent key change tree none = edited_absent key _ tree none

-- the count of a tree is that of what is cut off and what stays
pub sum-pruned_at_key : (f : Row → ℕ) (key : ℕ) (tree : Forest Row) → count_of_key key tree ≤ 1 → sum_of f (pruned_at_key key tree) + sum_of f (first_tree (part_from key tree)) ≡ sum_of f tree
sum-pruned_at_key f key Nothing once = refl
sum-pruned_at_key f key (Branch row kids siblings) once =
    elim (cases_Bool (row.key == key)) [
      | inl e ↦ rw e (omega arith)
      | inr e ↦
          let once = rw e at once in
          elim (zero_or_more (count_of_key key kids)) [
            | inl z ↦ rw (e, cut_absent key kids z, absent key kids z) (let i = sum-pruned_at_key f key siblings (omega arith) in omega arith)
            | inr l ↦
                let s = located key kids l in
                let i : sum_of f (pruned_at_key key kids) + sum_of f (first_tree (Branch s.row s.kids s.siblings)) ≡ sum_of f kids = rw s.is at (sum-pruned_at_key f key kids (omega arith)) in
                rw (e, s.is, cut_absent key siblings (omega arith)) (omega arith)
          ]
    ]

pub sum-joined : (f : Row → ℕ) (list more : Forest Row) → sum_of f (joined list more) ≡ sum_of f list + sum_of f more
sum-joined f Nothing more = omega arith
sum-joined f (Branch row kids siblings) more = let i = sum-joined f siblings more in omega arith

pub sum-grown : (f : Row → ℕ) (parent : ℕ) (new tree : Forest Row) → 0 < count_of_key parent tree → count_of_key parent tree ≤ 1
    → sum_of f (grown_at_key parent new tree) ≡ sum_of f tree + sum_of f new
sum-grown f parent new Nothing live once = absurd (omega arith)
sum-grown f parent new (Branch row kids siblings) live once =
    elim (cases_Bool (row.key == parent)) [
      | inl e ↦ rw e (let i = sum-joined f kids new in omega arith)
      | inr e ↦
          let live = rw e at live in
          let once = rw e at once in
          elim (zero_or_more (count_of_key parent kids)) [
            | inl z ↦ rw (e, grown_absent parent new kids z) (let i = sum-grown f parent new siblings (omega arith) (omega arith) in omega arith)
            | inr l ↦ rw (e, grown_absent parent new siblings (omega arith)) (let i = sum-grown f parent new kids l (omega arith) in omega arith)
          ]
    ]

-- a change that keeps how much a view counts
pub sum-put : (f : Row → ℕ) (key : ℕ) (change : PlainView → PlainView) (tree : Forest Row) → ((row : Row) → f (record row { view = change row.view }) ≡ f row)
    → sum_of f (changed_at_key key change tree) ≡ sum_of f tree
sum-put f key change Nothing same = refl
sum-put f key change (Branch row kids siblings) same =
    elim (cases_Bool (row.key == key)) [
      | inl e ↦ rw (e, same row)
      | inr e ↦ rw (e, sum-put f key change kids same, sum-put f key change siblings same)
    ]

pub sum-first_tree : (f : Row → ℕ) (tree : Forest Row) → sum_of f (first_tree tree) + sum_of f (later_siblings tree) ≡ sum_of f tree
sum-first_tree f Nothing = refl
sum-first_tree f (Branch row kids siblings) = omega arith

pub sum-or_else : (f : Row → ℕ) (first second : Forest Row) → sum_of f (or_else first second) ≤ sum_of f first + sum_of f second
sum-or_else f Nothing second = omega arith
sum-or_else f (Branch row kids siblings) second = omega arith

pub sum-part_from : (f : Row → ℕ) (key : ℕ) (tree : Forest Row) → sum_of f (part_from key tree) ≤ sum_of f tree
sum-part_from f key Nothing = omega arith
sum-part_from f key (Branch row kids siblings) =
    elim (cases_Bool (row.key == key)) [
      | inl e ↦ rw e (omega arith)
      | inr e ↦ rw e (
          let o = sum-or_else f (part_from key kids) (part_from key siblings) in
          let b = sum-part_from f key kids in
          let a = sum-part_from f key siblings in
          omega arith
          )
    ]

pub sum-cut_le : (f : Row → ℕ) (key : ℕ) (tree : Forest Row) → sum_of f (pruned_at_key key tree) ≤ sum_of f tree
sum-cut_le f key Nothing = omega arith
sum-cut_le f key (Branch row kids siblings) =
    elim (cases_Bool (row.key == key)) [
      | inl e ↦ rw e (omega arith)
      | inr e ↦ rw e (let b = sum-cut_le f key kids in let a = sum-cut_le f key siblings in omega arith)
    ]

pub sum-with_child : (f : Row → ℕ) (parent : Option ℕ) (new tree : Forest Row) → IfSome parent (λ parent. 0 < count_of_key parent tree)
    → (parent ≡ None → tree ≡ Nothing) → ((key : ℕ) → count_of_key key tree ≤ 1) → sum_of f (with_child parent new tree) ≡ sum_of f tree + sum_of f new
sum-with_child f None new tree live root once = rw (root refl) (omega arith)
sum-with_child f (Some parent) new tree live root once = sum-grown f parent new tree live (once parent)

-- how often a key and a number occur if a view is cut off, and how many views there are
pub count_of_key-pruned_at_key : (other key : ℕ) (tree : Forest Row) → count_of_key key tree ≤ 1 → count_of_key other (pruned_at_key key tree) + count_of_key other (first_tree (part_from key tree)) ≡ count_of_key other tree
count_of_key-pruned_at_key other key tree once = sum-pruned_at_key (has_key other) key tree once

pub count_of_key-cut_le : (other key : ℕ) (tree : Forest Row) → count_of_key other (pruned_at_key key tree) ≤ count_of_key other tree
count_of_key-cut_le other key tree = sum-cut_le (has_key other) key tree

pub number-cut_le : (number key : ℕ) (tree : Forest Row) → count_of_number number (pruned_at_key key tree) ≤ count_of_number number tree
number-cut_le number key tree = sum-cut_le (has_number number) key tree

pub count-cut_le : (key : ℕ) (tree : Forest Row) → count_of (pruned_at_key key tree) ≤ count_of tree
count-cut_le key tree = sum-cut_le (λ _. 1) key tree

-- a live view is in its own part, and after a cut it is no longer there
pub count_of_key-own_part : (key : ℕ) (tree : Forest Row) → 0 < count_of_key key tree → 0 < count_of_key key (first_tree (part_from key tree))
count_of_key-own_part key tree live =
    let f = located key tree live in
    rw f.is (subst (λ k. 0 < count_of_key k (Branch f.row f.kids Nothing)) f.key_is (times_self f.row f.kids Nothing))

pub count_of_key-own_cut : (key : ℕ) (tree : Forest Row) → count_of_key key tree ≤ 1 → count_of_key key (pruned_at_key key tree) ≡ 0
count_of_key-own_cut key tree once =
    let both = count_of_key-pruned_at_key key key tree once in
    elim (zero_or_more (count_of_key key tree)) [
      | inl z ↦ omega arith
      | inr l ↦ let own = count_of_key-own_part key tree l in omega arith
    ]

-- a view stays exactly if it was there and is not in the part that is cut off
pub live-pruned_at_key : (other key : ℕ) (tree : Forest Row) → count_of_key key tree ≤ 1 → count_of_key other tree ≤ 1
    → (0 < count_of_key other (pruned_at_key key tree)) ↔ ((0 < count_of_key other tree) × (count_of_key other (first_tree (part_from key tree)) ≡ 0))
live-pruned_at_key other key tree once single =
    let both = count_of_key-pruned_at_key other key tree once in
    (λ stays. (omega arith, omega arith), λ was. let there = was.0 in let apart = was.1 in omega arith)

-- how often a key and a number occur if a view has got more children
pub count_of_key-grown : (other parent : ℕ) (new tree : Forest Row) → 0 < count_of_key parent tree → count_of_key parent tree ≤ 1
    → count_of_key other (grown_at_key parent new tree) ≡ count_of_key other tree + count_of_key other new
count_of_key-grown other parent new tree live once = sum-grown (has_key other) parent new tree live once

pub number-grown : (number parent : ℕ) (new tree : Forest Row) → 0 < count_of_key parent tree → count_of_key parent tree ≤ 1
    → count_of_number number (grown_at_key parent new tree) ≡ count_of_number number tree + count_of_number number new
number-grown number parent new tree live once = sum-grown (has_number number) parent new tree live once

pub count-grown : (parent : ℕ) (new tree : Forest Row) → 0 < count_of_key parent tree → count_of_key parent tree ≤ 1
    → count_of (grown_at_key parent new tree) ≡ count_of tree + count_of new
count-grown parent new tree live once = sum-grown (λ _. 1) parent new tree live once

-- the same for a view that is attached, at a parent or as the root
pub count_of_key-with_child : (other : ℕ) (parent : Option ℕ) (new tree : Forest Row) → IfSome parent (λ parent. 0 < count_of_key parent tree)
    → (parent ≡ None → tree ≡ Nothing) → ((key : ℕ) → count_of_key key tree ≤ 1) → count_of_key other (with_child parent new tree) ≡ count_of_key other tree + count_of_key other new
count_of_key-with_child other parent new tree live root once = sum-with_child (has_key other) parent new tree live root once

pub count-with_child : (parent : Option ℕ) (new tree : Forest Row) → IfSome parent (λ parent. 0 < count_of_key parent tree)
    → (parent ≡ None → tree ≡ Nothing) → ((key : ℕ) → count_of_key key tree ≤ 1) → count_of (with_child parent new tree) ≡ count_of tree + count_of new
count-with_child parent new tree live root once = sum-with_child (λ _. 1) parent new tree live root once

pub count-leaf : (key : ℕ) (view : PlainView) → count_of (leaf key view) ≡ 1
count-leaf key view = omega arith

pub count_of_key-leaf_own : (key : ℕ) (view : PlainView) → count_of_key key (leaf key view) ≡ 1
count_of_key-leaf_own key view = rw (eq-eqb key key refl)

pub number-leaf_own : (key : ℕ) (view : PlainView) → count_of_number view.number (leaf key view) ≡ 1
number-leaf_own key view = rw (eq-eqb view.number view.number refl)

pub count_of_key-leaf_other : (other key : ℕ) (view : PlainView) → other ≢ key → count_of_key other (leaf key view) ≡ 0
count_of_key-leaf_other other key view ne = rw (ne_eqb key other (λ e. ne (sym e)))

pub number-leaf_other : (number key : ℕ) (view : PlainView) → number ≢ view.number → count_of_number number (leaf key view) ≡ 0
number-leaf_other number key view ne = rw (ne_eqb view.number number (λ e. ne (sym e)))

-- a change that keeps the number
pub count_of_key-put : (other key : ℕ) (change : PlainView → PlainView) (tree : Forest Row) → count_of_key other (changed_at_key key change tree) ≡ count_of_key other tree
count_of_key-put other key change tree = sum-put (has_key other) key change tree (λ row. refl)

pub number-put : (number key : ℕ) (change : PlainView → PlainView) (tree : Forest Row) → ((view : PlainView) → (change view).number ≡ view.number)
    → count_of_number number (changed_at_key key change tree) ≡ count_of_number number tree
number-put number key change tree same = sum-put (has_number number) key change tree (λ row. ap (λ n. if n == number then 1 else 0) (same row.view))

pub count-put : (key : ℕ) (change : PlainView → PlainView) (tree : Forest Row) → count_of (changed_at_key key change tree) ≡ count_of tree
count-put key change tree = sum-put (λ _. 1) key change tree (λ row. refl)

-- a part has no more of a number than the whole
pub number-part_from : (number key : ℕ) (tree : Forest Row) → count_of_number number (part_from key tree) ≤ count_of_number number tree
number-part_from number key tree = sum-part_from (has_number number) key tree

pub number-first_tree : (number : ℕ) (tree : Forest Row) → count_of_number number (first_tree tree) + count_of_number number (later_siblings tree) ≡ count_of_number number tree
number-first_tree number tree = sum-first_tree (has_number number) tree

pub number-part : (number key : ℕ) (tree : Forest Row) → count_of_number number (first_tree (part_from key tree)) ≤ count_of_number number tree
number-part number key tree = let a = number-first_tree number (part_from key tree) in let b = number-part_from number key tree in omega arith

-- an agreement holds of what is left or made of a tree
pub agree_times : (key number : ℕ) (tree : Forest Row) → Agree key number tree → count_of_number number tree ≡ count_of_key key tree
agree_times key number Nothing agree = refl
agree_times key number (Branch row kids siblings) agree = rw (agree.0, agree_times key number kids agree.1, agree_times key number siblings agree.2)

pub agree-pruned_at_key : (other number key : ℕ) (tree : Forest Row) → Agree other number tree → Agree other number (pruned_at_key key tree)
agree-pruned_at_key other number key tree agree =
    every-edited (λ row. (row.view.number == number) ≡ (row.key == other)) (λ row. row.key == key) _ (λ row kids siblings own below after. after) tree agree

-- a list of children with more after it, and a tree that gets views without the key
pub count_of_key-joined : (other : ℕ) (list more : Forest Row) → count_of_key other (joined list more) ≡ count_of_key other list + count_of_key other more
count_of_key-joined other list more = sum-joined (has_key other) list more

pub count_of_key-grown_none : (other parent : ℕ) (new tree : Forest Row) → count_of_key other new ≡ 0 → count_of_key other (grown_at_key parent new tree) ≡ count_of_key other tree
count_of_key-grown_none other parent new Nothing none = refl
count_of_key-grown_none other parent new (Branch row kids siblings) none =
    elim (cases_Bool (row.key == parent)) [
      | inl e ↦ rw e (let j = count_of_key-joined other kids new in omega arith)
      | inr e ↦ rw e (let b = count_of_key-grown_none other parent new kids none in let a = count_of_key-grown_none other parent new siblings none in omega arith)
    ]

pub count_of_key-grown_some : (other parent : ℕ) (new tree : Forest Row) → 0 < count_of_key parent tree → 0 < count_of_key other new → 0 < count_of_key other (grown_at_key parent new tree)
count_of_key-grown_some other parent new Nothing live some = absurd (omega arith)
count_of_key-grown_some other parent new (Branch row kids siblings) live some =
    elim (cases_Bool (row.key == parent)) [
      | inl e ↦ rw e (let j = count_of_key-joined other kids new in omega arith)
      | inr e ↦
          let live = rw e at live in
          elim (zero_or_more (count_of_key parent kids)) [
            | inl z ↦ rw e (let a = count_of_key-grown_some other parent new siblings (omega arith) some in omega arith)
            | inr l ↦ rw e (let b = count_of_key-grown_some other parent new kids l some in omega arith)
          ]
    ]
