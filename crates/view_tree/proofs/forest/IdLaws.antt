-- The views that have an id, in a tree that has changed.
use Rattle.std.proofs.Common.{◌≡◌, ◌≢◌, ℕ, ◌+◌, ◌^◌, ◌<◌, ◌≤◌, Bool, Option, Some, None, refl, sym, ◌∙◌, ap, arith, inl, inr}
use Rattle.std.proofs.lemmas.Bool.{cases_Bool}
use Rattle.std.specs.Prelude.{◌==◌, if◌then◌else◌, IfSome}
use Rattle.view_model.specs.Numbers.{max_views}
use Rattle.view_model.specs.Forest.{Forest, Nothing, Branch, count_of, sum_of}
use Rattle.view_model.specs.PlainTree.{PlainView}
use Rattle.view_tree.specs.declared.table.ids.Holders.{Holders}
use Rattle.view_tree.specs.table.Holders.{dropped, noted, renamed}
use Rattle.view_tree.specs.node.Nodes.{has_id, holders_of}
use Rattle.view_tree.specs.Rows.{Row, first_tree, children_of_first, count_where, pruned_at_key, part_from, head_view, key_where, keys_where, leaf, changed_at_key, count_of_key, with_child}
use Rattle.view_tree.proofs.nodes.HolderLaws.{dropped_is, held_few, held_none, held_one, noted_is, own, renamed_is}
use Rattle.view_tree.proofs.forest.KeyLaws.{absent, located, or_else_live, zero_or_more}
use Rattle.view_tree.proofs.forest.NumberLaws.{put_absent, sum-pruned_at_key, sum-with_child}
use Rattle.view_tree.proofs.forest.PlainLaws.{key_where_live}
use Rattle.view_tree.proofs.forest.SearchLaws.{search}

-- how much the first view of a list counts
abbrev pub at_head : (Row → ℕ) → Forest Row → ℕ
at_head f Nothing = 0
at_head f (Branch row kids siblings) = f row

abbrev put_row : (PlainView → PlainView) → Row → Row
put_row change row = record row { view = change row.view }

-- a change of one view
pub sum-put_at : (f : Row → ℕ) (key : ℕ) (change : PlainView → PlainView) (tree : Forest Row) → count_of_key key tree ≤ 1
    → sum_of f (changed_at_key key change tree) + at_head f (part_from key tree) ≡ sum_of f tree + at_head (λ row. f (put_row change row)) (part_from key tree)
sum-put_at f key change Nothing once = refl
sum-put_at f key change (Branch row kids siblings) once =
    elim (cases_Bool (row.key == key)) [
      | inl e ↦ rw e (omega arith)
      | inr e ↦
          let once = rw e at once in
          elim (zero_or_more (count_of_key key kids)) [
            | inl z ↦ rw (e, put_absent key change kids z, absent key kids z) (let i = sum-put_at f key change siblings (omega arith) in omega arith)
            | inr l ↦
                rw (e, or_else_live key kids (part_from key siblings) l, put_absent key change siblings (omega arith))
                (let i = sum-put_at f key change kids (omega arith) in omega arith)
          ]
    ]

-- a view without children is all there is in its part
pub sum-leaf : (f : Row → ℕ) (list : Forest Row) → children_of_first list ≡ Nothing → sum_of f (first_tree list) ≡ at_head f list
sum-leaf f Nothing none = refl
sum-leaf f (Branch row kids siblings) none = rw none (omega arith)

-- how many views pass a test, and the sum of their keys
module _ (passes : PlainView → Bool) where
  abbrev pub one_of : Row → ℕ
  one_of row = if passes row.view then 1 else 0

  abbrev pub key_of : Row → ℕ
  key_of row = if passes row.view then row.key else 0

  pub count_where-few : (tree : Forest Row) → count_where passes tree ≤ count_of tree
  count_where-few Nothing = omega arith
  count_where-few (Branch row kids siblings) =
      let b = count_where-few kids in
      let a = count_where-few siblings in
      elim (cases_Bool (passes row.view)) [ inl e ↦ rw e (omega arith) | inr e ↦ rw e (omega arith) ]

  pub keys_where-none : (tree : Forest Row) → count_where passes tree ≡ 0 → keys_where passes tree ≡ 0
  keys_where-none Nothing none = refl
  keys_where-none (Branch row kids siblings) none =
      elim (cases_Bool (passes row.view)) [
        | inl e ↦ absurd (let none = rw e at none in omega arith)
        | inr e ↦
            let b = keys_where-none kids (omega arith) in
            let a = keys_where-none siblings (omega arith) in
            rw e (omega arith)
      ]

  pub key_where-none : (tree : Forest Row) → count_where passes tree ≡ 0 → key_where passes tree ≡ None
  key_where-none Nothing none = refl
  key_where-none (Branch row kids siblings) none =
      elim (cases_Bool (passes row.view)) [
        | inl e ↦ absurd (let none = rw e at none in omega arith)
        | inr e ↦ rw (search passes row kids siblings, e, key_where-none kids (omega arith), key_where-none siblings (omega arith))
      ]

  -- the sum of one key is this key
  pub key_where-one : (tree : Forest Row) → count_where passes tree ≡ 1 → key_where passes tree ≡ Some (keys_where passes tree)
  key_where-one Nothing one = absurd (omega arith)
  key_where-one (Branch row kids siblings) one =
      elim (cases_Bool (passes row.view)) [
        | inl e ↦
            let one = rw e at one in
            let b = keys_where-none kids (omega arith) in
            let a = keys_where-none siblings (omega arith) in
            let sum : row.key + (keys_where passes kids + keys_where passes siblings) ≡ row.key = omega arith in
            rw (search passes row kids siblings, e, sum)
        | inr e ↦
            let one = rw e at one in
            elim (zero_or_more (count_where passes kids)) [
              | inl z ↦
                  let b = keys_where-none kids z in
                  let sum : 0 + (keys_where passes kids + keys_where passes siblings) ≡ keys_where passes siblings = omega arith in
                  rw (search passes row kids siblings, e, key_where-none kids z, sum) (key_where-one siblings (omega arith))
              | inr l ↦
                  let a = keys_where-none siblings (omega arith) in
                  let sum : 0 + (keys_where passes kids + keys_where passes siblings) ≡ keys_where passes kids = omega arith in
                  rw (search passes row kids siblings, e, key_where-one kids (omega arith), sum)
            ]
      ]

-- what a table has for an id, after edits of the tree
pub holders_of-with_child : (id : ℕ) (parent : Option ℕ) (key : ℕ) (view : PlainView) (tree : Forest Row) → IfSome parent (λ parent. 0 < count_of_key parent tree)
    → (parent ≡ None → tree ≡ Nothing) → ((key : ℕ) → count_of_key key tree ≤ 1) → key < 2 ^ 64
    → holders_of id (with_child parent (leaf key view) tree) ≡ noted (holders_of id tree) view.facts.id key id
holders_of-with_child id parent key view tree live root once small =
    let count = sum-with_child (one_of (has_id id)) parent (leaf key view) tree live root once in
    let keys = sum-with_child (key_of (has_id id)) parent (leaf key view) tree live root once in
    noted_is view.facts.id id key (count_where (has_id id) tree) (keys_where (has_id id) tree)
    (count_where (has_id id) (with_child parent (leaf key view) tree)) (keys_where (has_id id) (with_child parent (leaf key view) tree))
    (omega arith) (omega arith) (keys_where-none (has_id id) tree) small

pub holders_of-pruned_at_key : (id key : ℕ) (tree : Forest Row) → 0 < count_of_key key tree → count_of_key key tree ≤ 1 → children_of_first (part_from key tree) ≡ Nothing → key < 2 ^ 64
    → holders_of id (pruned_at_key key tree) ≡ dropped (holders_of id tree) (head_view (part_from key tree)).facts.id key id
holders_of-pruned_at_key id key tree live once leaf small =
    let f = located key tree live in
    let count = sum-pruned_at_key (one_of (has_id id)) key tree once in
    let keys = sum-pruned_at_key (key_of (has_id id)) key tree once in
    let one : sum_of (one_of (has_id id)) (first_tree (part_from key tree)) ≡ own (head_view (part_from key tree)).facts.id id 1 =
    sum-leaf (one_of (has_id id)) (part_from key tree) leaf ∙ rw f.is refl in
    let key_one : sum_of (key_of (has_id id)) (first_tree (part_from key tree)) ≡ own (head_view (part_from key tree)).facts.id id key =
    sum-leaf (key_of (has_id id)) (part_from key tree) leaf ∙ rw (f.is, f.key_is) refl in
    dropped_is (head_view (part_from key tree)).facts.id id key (count_where (has_id id) tree) (keys_where (has_id id) tree)
    (count_where (has_id id) (pruned_at_key key tree)) (keys_where (has_id id) (pruned_at_key key tree)) (omega arith) (omega arith) small

pub holders_of-put : (id key : ℕ) (change : PlainView → PlainView) (tree : Forest Row) → 0 < count_of_key key tree → count_of_key key tree ≤ 1 → key < 2 ^ 64
    → holders_of id (changed_at_key key change tree)
    ≡ renamed (holders_of id tree) (head_view (part_from key tree)).facts.id (change (head_view (part_from key tree))).facts.id key id
holders_of-put id key change tree live once small =
    let f = located key tree live in
    let old = (head_view (part_from key tree)).facts.id in
    let new = (change (head_view (part_from key tree))).facts.id in
    let count : count_where (has_id id) (changed_at_key key change tree) + own old id 1 ≡ count_where (has_id id) tree + own new id 1 =
    rw f.is (rw f.is at (sum-put_at (one_of (has_id id)) key change tree once)) in
    let keys : keys_where (has_id id) (changed_at_key key change tree) + own old id key ≡ keys_where (has_id id) tree + own new id key =
    rw f.is (rw (f.is, f.key_is) at (sum-put_at (key_of (has_id id)) key change tree once)) in
    renamed_is old new id key (count_where (has_id id) tree) (keys_where (has_id id) tree)
    (count_where (has_id id) (changed_at_key key change tree)) (keys_where (has_id id) (changed_at_key key change tree))
    count keys (keys_where-none (has_id id) tree) small

-- how a look-up relates to a search
pub holders_of-few : (id : ℕ) (tree : Forest Row) → count_of tree ≤ max_views → IfSome (holders_of id tree) (λ held. held.count ≤ max_views)
holders_of-few id tree few =
    let less = count_where-few (has_id id) tree in
    held_few id (count_where (has_id id) tree) (keys_where (has_id id) tree) (omega arith)

pub search_none : (id : ℕ) (tree : Forest Row) → id ≢ 0 → holders_of id tree ≡ None → key_where (has_id id) tree ≡ None
search_none id tree ne is = key_where-none (has_id id) tree (held_none id (count_where (has_id id) tree) (keys_where (has_id id) tree) ne is)

pub search_one : (id : ℕ) (tree : Forest Row) (held : Holders) → id ≢ 0 → holders_of id tree ≡ Some held → held.count ≡ 1
    → ((key : ℕ) → 0 < count_of_key key tree → key < 2 ^ 64) → key_where (has_id id) tree ≡ Some held.sum
search_one id tree held ne is one small =
    let all = held_one id (count_where (has_id id) tree) (keys_where (has_id id) tree) held ne is one in
    let sum = keys_where (has_id id) tree in
    let there : key_where (has_id id) tree ≡ Some sum = key_where-one (has_id id) tree all.0 in
    let fits : sum < 2 ^ 64 = small sum (key_where_live (has_id id) tree sum there) in
    let same : held.sum ≡ sum = all.1 ∙ omega arith in
    there ∙ ap (λ (key : ℕ). Some key) (sym same)
