-- Walks over the views of a tree in preorder.
use Rattle.std.proofs.Common.{◌≡◌, ℕ, ◌+◌, ◌<◌, ◌≤◌, Option, Some, None, refl, sym, ◌∙◌, ap, arith, ◌⊎◌, inl, inr, List, [], ◌∷◌, ◌++◌, drop, length, map, append_assoc}
use Rattle.std.proofs.lemmas.Bool.{eq-eqb, ne_eqb, cases_eq}
use Rattle.std.proofs.lemmas.List.{append-nil}
use Rattle.std.specs.Prelude.{◌==◌, if◌then◌else◌, MatchOption}
use Rattle.view_model.specs.Forest.{Forest, Nothing, Branch, rows}
use Rattle.view_tree.specs.tree.Preorder.{first_row_key, from_key, rows_following, rows_from, views_from}
use Rattle.view_model.specs.PlainTree.{PlainView}
use Rattle.view_tree.specs.Views.{IsLive, Views, held_of, offset_of, plain_of, scrolled, view_at}
use Rattle.view_tree.specs.Rows.{Row, ancestors, around, children_of_first, count_of_key, first_key, first_tree, head_view, later_siblings, part_from}
use Rattle.view_tree.proofs.forest.AncestorLaws.{around_after, around_below, around_here, left}
use Rattle.view_tree.proofs.forest.KeyLaws.{located, or_else_live, absent, times_self, own_more}
use Rattle.view_tree.proofs.forest.PlainLaws.{plain-rows}

-- how often a key occurs in a list
abbrev pub key_count : ℕ → List Row → ℕ
key_count key [] = 0
key_count key (row ∷ list) = (if row.key == key then 1 else 0) + key_count key list

pub key_count-append : (key : ℕ) (list more : List Row) → key_count key (list ++ more) ≡ key_count key list + key_count key more
key_count-append key [] more = omega arith
key_count-append key (row ∷ list) more = let h = key_count-append key list more in omega arith

pub key_count-rows : (key : ℕ) (tree : Forest Row) → key_count key (rows tree) ≡ count_of_key key tree
key_count-rows key Nothing = refl
key_count-rows key (Branch row kids siblings) =
    let a = key_count-append key (rows kids) (rows siblings) in
    let b = key_count-rows key kids in
    let d = key_count-rows key siblings in
    omega arith

-- a list from a key on has no more of any key
key_count-from : (key other : ℕ) (list : List Row) → key_count other (from_key key list) ≤ key_count other list
key_count-from key other [] = omega arith
key_count-from key other (row ∷ list) = elim (cases_eq row.key key) [
  | inl e ↦ rw (eq-eqb row.key key e) (omega arith)
  | inr ne ↦ let h = key_count-from key other list in rw (ne_eqb row.key key ne) (omega arith)
]

key_count-drop : (other : ℕ) (list : List Row) → key_count other (drop 1 list) ≤ key_count other list
key_count-drop other [] = omega arith
key_count-drop other (row ∷ list) = omega arith

-- the list from the key of its first row on
from_first : (row : Row) (list : List Row) → from_key row.key (row ∷ list) ≡ row ∷ list
from_first row list = rw (eq-eqb row.key row.key refl) refl

-- the rows from a key on, or none
abbrev from_option : Option ℕ → List Row → List Row
from_option None list = []
from_option (Some key) list = from_key key list

from_head : (list : List Row) → from_option (first_row_key list) list ≡ list
from_head [] = refl
from_head (row ∷ list) = from_first row list

-- rows that are not there are skipped
from_other : (first : Row) (list later : List Row) → ((key : ℕ) → key_count key (first ∷ list) ≤ 1) → ((key : ℕ) → key_count key later ≤ key_count key list)
    → from_option (first_row_key later) (first ∷ list) ≡ from_option (first_row_key later) list
from_other first list [] once fewer = refl
from_other first list (row ∷ later) once fewer =
    let own : 0 < key_count row.key (row ∷ later) = rw (eq-eqb row.key row.key refl) (omega arith) in
    let there = fewer row.key in
    elim (cases_eq first.key row.key) [
      | inl e ↦ let twice : 1 + key_count row.key list ≤ 1 = rw (eq-eqb first.key row.key e) at (once row.key) in absurd (omega arith)
      | inr ne ↦ rw (ne_eqb first.key row.key ne) refl
    ]

-- the list from the key after another on
from_after : (key : ℕ) (list : List Row) → ((other : ℕ) → key_count other list ≤ 1)
    → from_option (first_row_key (drop 1 (from_key key list))) list ≡ drop 1 (from_key key list)
from_after key [] once = refl
from_after key (row ∷ list) once = elim (cases_eq row.key key) [
  | inl e ↦ rw (eq-eqb row.key key e) (from_other row list list once (λ other. omega arith) ∙ from_head list)
  | inr ne ↦
      rw (ne_eqb row.key key ne)
      (from_other row list (drop 1 (from_key key list)) once
      (λ other. let a = key_count-drop other (from_key key list) in let b = key_count-from key other list in omega arith)
      ∙ from_after key list (λ other. let o = once other in omega arith))
]

pub rows_following_first : (key : ℕ) (next : Option ℕ) (tree : Forest Row) → ((other : ℕ) → count_of_key other tree ≤ 1)
    → next ≡ first_row_key (drop 1 (rows_from (Some key) tree)) → rows_from next tree ≡ drop 1 (rows_from (Some key) tree)
rows_following_first key next tree once is =
    ap (λ (next : Option ℕ). rows_from next tree) is
    ∙ as_option (first_row_key (drop 1 (rows_from (Some key) tree)))
    ∙ from_after key (rows tree) (λ other. let a = key_count-rows other tree in let o = once other in omega arith)
  where
    as_option : (o : Option ℕ) → rows_from o tree ≡ from_option o (rows tree)
    as_option None = refl
    as_option (Some k) = refl

-- a key that is not among these rows is after them
from_absent : (key : ℕ) (tree : Forest Row) (more : List Row) → count_of_key key tree ≡ 0 → from_key key (rows tree ++ more) ≡ from_key key more
from_absent key tree more none = passed (rows tree) (key_count-rows key tree ∙ none)
  where
    passed : (list : List Row) → key_count key list ≡ 0 → from_key key (list ++ more) ≡ from_key key more
    passed [] none = refl
    passed (row ∷ list) none = elim (cases_eq row.key key) [
      | inl e ↦ absurd (let none = rw (eq-eqb row.key key e) at none in omega arith)
      | inr ne ↦ rw (ne_eqb row.key key ne) (passed list (omega arith))
    ]

-- from a view on, there are it, all below it, and what is after these
pub from_parts : (key : ℕ) (tree : Forest Row) (later : List Row) → 0 < count_of_key key tree
    → from_key key (rows tree ++ later) ≡ rows (first_tree (part_from key tree)) ++ rows_following later key tree
from_parts key Nothing later live = absurd (omega arith)
from_parts key (Branch row kids siblings) later live =
    elim (cases_eq row.key key) [
      | inl e ↦
          rw (eq-eqb row.key key e)
          (ap (λ (list : List Row). row ∷ list) (append_assoc (rows kids) (rows siblings) later ∙ ap (λ (list : List Row). list ++ (rows siblings ++ later)) (sym (append-nil (rows kids)))))
      | inr ne ↦ elim (cases_eq (count_of_key key kids) 0) [
        | inl none ↦
            let there = left key row kids siblings ne live in
            rw (ne_eqb row.key key ne, eq-eqb (count_of_key key kids) 0 none, absent key kids none)
            (ap (from_key key) (append_assoc (rows kids) (rows siblings) later) ∙ from_absent key kids (rows siblings ++ later) none ∙ from_parts key siblings later (omega arith))
        | inr some ↦
            rw (ne_eqb row.key key ne, ne_eqb (count_of_key key kids) 0 some, or_else_live key kids (part_from key siblings) (omega arith))
            (ap (from_key key) (append_assoc (rows kids) (rows siblings) later) ∙ from_parts key kids (rows siblings ++ later) (omega arith))
      ]
    ]

pub rows_from_parts : (key : ℕ) (tree : Forest Row) → 0 < count_of_key key tree → rows_from (Some key) tree ≡ rows (first_tree (part_from key tree)) ++ rows_following [] key tree
rows_from_parts key tree live = ap (from_key key) (sym (append-nil (rows tree))) ∙ from_parts key tree [] live

-- what is after a view and all below it: its later siblings, and what is after its parent
pub record Outside (acc : List ℕ) (later : List Row) (key : ℕ) (tree : Forest Row) : Type 0 where
  pub parent : ℕ
  pub live : 0 < count_of_key parent tree
  pub path : around acc key tree ≡ parent ∷ around acc parent tree
  pub following : rows_following later key tree ≡ rows (later_siblings (part_from key tree)) ++ rows_following later parent tree

-- the same of a view that has no parent
pub record Outermost (acc : List ℕ) (later : List Row) (key : ℕ) (tree : Forest Row) : Type 0 where
  pub path : around acc key tree ≡ acc
  pub following : rows_following later key tree ≡ rows (later_siblings (part_from key tree)) ++ later

after_here : (later : List Row) (key : ℕ) (row : Row) (kids siblings : Forest Row) → row.key ≡ key → rows_following later key (Branch row kids siblings) ≡ rows siblings ++ later
after_here later key row kids siblings e = rw (eq-eqb row.key key e) refl

after_later : (later : List Row) (key : ℕ) (row : Row) (kids siblings : Forest Row) → (row.key ≡ key → ⊥) → count_of_key key kids ≡ 0
    → rows_following later key (Branch row kids siblings) ≡ rows_following later key siblings
after_later later key row kids siblings ne none = rw (ne_eqb row.key key ne, eq-eqb (count_of_key key kids) 0 none) refl

after_below : (later : List Row) (key : ℕ) (row : Row) (kids siblings : Forest Row) → (row.key ≡ key → ⊥) → (count_of_key key kids ≡ 0 → ⊥)
    → rows_following later key (Branch row kids siblings) ≡ rows_following (rows siblings ++ later) key kids
after_below later key row kids siblings ne some = rw (ne_eqb row.key key ne, ne_eqb (count_of_key key kids) 0 some) refl

part_here : (key : ℕ) (row : Row) (kids siblings : Forest Row) → row.key ≡ key → part_from key (Branch row kids siblings) ≡ Branch row kids siblings
part_here key row kids siblings e = rw (eq-eqb row.key key e) refl

part_after : (key : ℕ) (row : Row) (kids siblings : Forest Row) → (row.key ≡ key → ⊥) → count_of_key key kids ≡ 0 → part_from key (Branch row kids siblings) ≡ part_from key siblings
part_after key row kids siblings ne none = rw (ne_eqb row.key key ne, absent key kids none) refl

part_below : (key : ℕ) (row : Row) (kids siblings : Forest Row) → (row.key ≡ key → ⊥) → 0 < count_of_key key kids → part_from key (Branch row kids siblings) ≡ part_from key kids
part_below key row kids siblings ne some = rw (ne_eqb row.key key ne) (or_else_live key kids (part_from key siblings) some)

module _ (acc : List ℕ) (later : List Row) (key : ℕ) (row : Row) (kids siblings : Forest Row) (once : (other : ℕ) → count_of_key other (Branch row kids siblings) ≤ 1) where
  -- outside of a view among the later siblings
  outside_after : (row.key ≡ key → ⊥) → count_of_key key kids ≡ 0 → 0 < count_of_key key siblings → Outermost acc later key siblings ⊎ Outside acc later key siblings
      → Outermost acc later key (Branch row kids siblings) ⊎ Outside acc later key (Branch row kids siblings)
  outside_after ne none live (inl o) = inl (record {
    path = around_after acc key row kids siblings ne none ∙ o.path;
    following = after_later later key row kids siblings ne none ∙ o.following ∙ ap (λ (part : Forest Row). rows (later_siblings part) ++ later) (sym (part_after key row kids siblings ne none));
  })
  outside_after ne none live (inr o) =
      let there : 0 < count_of_key o.parent siblings = o.live in
      let ne' : row.key ≡ o.parent → ⊥ = λ e. let one = once o.parent in let more = own_more row kids siblings o.parent e in absurd (omega arith) in
      let none' : count_of_key o.parent kids ≡ 0 = let one = once o.parent in omega arith in
      inr (record {
        parent = o.parent;
        live = omega arith;
        path = around_after acc key row kids siblings ne none ∙ o.path ∙ ap (λ l. o.parent ∷ l) (sym (around_after acc o.parent row kids siblings ne' none'));
        following =
            after_later later key row kids siblings ne none ∙ o.following
            ∙ ap (λ (part : Forest Row). rows (later_siblings part) ++ rows_following later o.parent siblings) (sym (part_after key row kids siblings ne none))
            ∙ ap (λ (list : List Row). rows (later_siblings (part_from key (Branch row kids siblings))) ++ list) (sym (after_later later o.parent row kids siblings ne' none'));
      })

  -- outside of a view below
  outside_below : (row.key ≡ key → ⊥) → 0 < count_of_key key kids → Outermost (row.key ∷ acc) (rows siblings ++ later) key kids ⊎ Outside (row.key ∷ acc) (rows siblings ++ later) key kids
      → Outside acc later key (Branch row kids siblings)
  outside_below ne live (inl o) =
      let some : count_of_key key kids ≡ 0 → ⊥ = λ none. absurd (omega arith) in
      record {
        parent = row.key;
        live = times_self row kids siblings;
        path = around_below acc key row kids siblings ne some ∙ o.path ∙ ap (λ l. row.key ∷ l) (sym (around_here acc row.key row kids siblings refl));
        following =
            after_below later key row kids siblings ne some ∙ o.following
            ∙ ap (λ (part : Forest Row). rows (later_siblings part) ++ (rows siblings ++ later)) (sym (part_below key row kids siblings ne live))
            ∙ ap (λ (list : List Row). rows (later_siblings (part_from key (Branch row kids siblings))) ++ list) (sym (after_here later row.key row kids siblings refl));
      }
  outside_below ne live (inr o) =
      let some : count_of_key key kids ≡ 0 → ⊥ = λ none. absurd (omega arith) in
      let there : 0 < count_of_key o.parent kids = o.live in
      let ne' : row.key ≡ o.parent → ⊥ = λ e. let one = once o.parent in let more = own_more row kids siblings o.parent e in absurd (omega arith) in
      let some' : count_of_key o.parent kids ≡ 0 → ⊥ = λ none. absurd (omega arith) in
      record {
        parent = o.parent;
        live = omega arith;
        path = around_below acc key row kids siblings ne some ∙ o.path ∙ ap (λ l. o.parent ∷ l) (sym (around_below acc o.parent row kids siblings ne' some'));
        following =
            after_below later key row kids siblings ne some ∙ o.following
            ∙ ap (λ (part : Forest Row). rows (later_siblings part) ++ rows_following (rows siblings ++ later) o.parent kids) (sym (part_below key row kids siblings ne live))
            ∙ ap (λ (list : List Row). rows (later_siblings (part_from key (Branch row kids siblings))) ++ list) (sym (after_below later o.parent row kids siblings ne' some'));
      }

pub outside : (acc : List ℕ) (later : List Row) (key : ℕ) (tree : Forest Row) → ((other : ℕ) → count_of_key other tree ≤ 1) → 0 < count_of_key key tree
    → Outermost acc later key tree ⊎ Outside acc later key tree
outside acc later key Nothing once live = absurd (omega arith)
outside acc later key (Branch row kids siblings) once live = elim (cases_eq row.key key) [
  | inl e ↦ inl (record {
    path = around_here acc key row kids siblings e;
    following = after_here later key row kids siblings e ∙ ap (λ (part : Forest Row). rows (later_siblings part) ++ later) (sym (part_here key row kids siblings e));
  })
  | inr ne ↦ elim (cases_eq (count_of_key key kids) 0) [
    | inl none ↦
        let there = left key row kids siblings ne live in
        outside_after acc later key row kids siblings once ne none (omega arith) (outside acc later key siblings (λ other. let o = once other in omega arith) (omega arith))
    | inr some ↦ inr (outside_below acc later key row kids siblings once ne (omega arith) (outside (row.key ∷ acc) (rows siblings ++ later) key kids (λ other. let o = once other in omega arith) (omega arith)))
  ]
]

same_parent : {x y : ℕ} {xs ys : List ℕ} → (x ∷ xs) ≡ (y ∷ ys) → x ≡ y
same_parent e = cc

none_first : (list : Forest Row) → None ≡ first_key list → list ≡ Nothing
none_first Nothing is = refl
none_first (Branch row kids siblings) is = absurd (cc)

-- what is after a view without a later sibling is what is after its parent
pub after_last : (key : ℕ) (parent : Option ℕ) (tree : Forest Row) → ((other : ℕ) → count_of_key other tree ≤ 1) → 0 < count_of_key key tree
    → None ≡ first_key (later_siblings (part_from key tree))
    → MatchOption parent (ancestors key tree ≡ []) (λ parent. ancestors key tree ≡ parent ∷ ancestors parent tree)
    → MatchOption parent (rows_following [] key tree ≡ []) (λ parent. rows_following [] key tree ≡ rows_following [] parent tree)
after_last key None tree once live last path = elim (outside [] [] key tree once live) [
  | inl o ↦ o.following ∙ rw (none_first (later_siblings (part_from key tree)) last) refl
  | inr o ↦ absurd (let e = sym path ∙ o.path in cc)
]
after_last key (Some parent) tree once live last path = elim (outside [] [] key tree once live) [
  | inl o ↦ absurd (let e = sym path ∙ o.path in cc)
  | inr o ↦ o.following ∙ rw (none_first (later_siblings (part_from key tree)) last) (ap (λ k. rows_following [] k tree) (same_parent (sym o.path ∙ path)))
]

-- the first view after one that has a later sibling
pub after_sibling : (key : ℕ) (sibling : ℕ) (tree : Forest Row) → ((other : ℕ) → count_of_key other tree ≤ 1) → 0 < count_of_key key tree
    → Some sibling ≡ first_key (later_siblings (part_from key tree)) → Some sibling ≡ first_row_key (rows_following [] key tree)
after_sibling key sibling tree once live is = elim (outside [] [] key tree once live) [
  | inl o ↦ is ∙ first_of (later_siblings (part_from key tree)) [] (sym is) ∙ ap first_row_key (sym o.following)
  | inr o ↦ is ∙ first_of (later_siblings (part_from key tree)) (rows_following [] o.parent tree) (sym is) ∙ ap first_row_key (sym o.following)
]
  where
    first_of : (list : Forest Row) (more : List Row) → first_key list ≡ Some sibling → first_key list ≡ first_row_key (rows list ++ more)
    first_of Nothing more is = absurd (cc)
    first_of (Branch row kids siblings) more is = refl

-- the first view after one that has children, and after one that has none
pub after_kid : (key kid : ℕ) (tree : Forest Row) → 0 < count_of_key key tree → Some kid ≡ first_key (children_of_first (part_from key tree))
    → Some kid ≡ first_row_key (drop 1 (rows_from (Some key) tree))
after_kid key kid tree live is =
    let f = located key tree live in
    let parts : rows_from (Some key) tree ≡ f.row ∷ ((rows f.kids ++ []) ++ rows_following [] key tree) = rows_from_parts key tree live ∙ rw f.is refl in
    let from : Some kid ≡ first_key f.kids = rw f.is at is in
    from ∙ first_of f.kids (sym from) ∙ ap (λ (list : List Row). first_row_key (drop 1 list)) (sym parts)
  where
    first_of : (list : Forest Row) → first_key list ≡ Some kid → first_key list ≡ first_row_key ((rows list ++ []) ++ rows_following [] key tree)
    first_of Nothing is = absurd (cc)
    first_of (Branch row kids siblings) is = refl

pub after_leaf : (key : ℕ) (tree : Forest Row) → 0 < count_of_key key tree → None ≡ first_key (children_of_first (part_from key tree))
    → drop 1 (rows_from (Some key) tree) ≡ rows_following [] key tree
after_leaf key tree live is =
    let f = located key tree live in
    let parts : rows_from (Some key) tree ≡ f.row ∷ ((rows f.kids ++ []) ++ rows_following [] key tree) = rows_from_parts key tree live ∙ rw f.is refl in
    let from : None ≡ first_key f.kids = rw f.is at is in
    ap (drop 1) parts ∙ none_of f.kids (sym from)
  where
    none_of : (list : Forest Row) → first_key list ≡ None → (rows list ++ []) ++ rows_following [] key tree ≡ rows_following [] key tree
    none_of Nothing is = refl
    none_of (Branch row kids siblings) is = absurd (cc)

-- a walk in preorder begins with all views
pub rows_from_root : (tree : Forest Row) → rows_from (first_key tree) tree ≡ rows tree
rows_from_root Nothing = refl
rows_from_root (Branch row kids siblings) = from_first row (rows kids ++ rows siblings)

-- the view at which a walk is, and those that are left
pub record Status (key : ℕ) (tree : Forest Row) : Type 0 where
  pub row : Row
  pub is : rows_from (Some key) tree ≡ row ∷ drop 1 (rows_from (Some key) tree)
  pub key_is : row.key ≡ key
  pub view_is : head_view (part_from key tree) ≡ row.view

pub status : (key : ℕ) (tree : Forest Row) → 0 < count_of_key key tree → Status key tree
status key tree live =
    let f = located key tree live in
    let parts : rows_from (Some key) tree ≡ f.row ∷ ((rows f.kids ++ []) ++ rows_following [] key tree) = rows_from_parts key tree live ∙ rw f.is refl in
    record {
      row = f.row;
      is = parts ∙ ap (λ (list : List Row). f.row ∷ list) (ap (drop 1) (sym parts));
      key_is = f.key_is;
      view_is = ap head_view f.is;
    }

-- one more view has been visited
pub views_on : (views : Views) (key : ℕ) (next : Option ℕ) → IsLive views key → rows_from next views.tree ≡ drop 1 (rows_from (Some key) views.tree)
    → views_from views (Some key) ≡ view_at views key ∷ views_from views next
views_on views key next live is =
    let f = status key views.tree live in
    let row : scrolled (held_of views) f.row ≡ view_at views key =
    ap (λ (k : ℕ). record f.row.view { facts = record f.row.view.facts { offset = offset_of views k } }) f.key_is
    ∙ ap (λ (view : PlainView). record view { facts = record view.facts { offset = offset_of views key } }) (sym f.view_is) in
    ap (map (scrolled (held_of views))) (f.is ∙ ap (λ (list : List Row). f.row ∷ list) (sym is))
    ∙ ap (λ (view : PlainView). view ∷ views_from views next) row

pub rows_fewer : (key : ℕ) (next : Option ℕ) (tree : Forest Row) → 0 < count_of_key key tree → rows_from next tree ≡ drop 1 (rows_from (Some key) tree)
    → length (rows_from next tree) < length (rows_from (Some key) tree)
rows_fewer key next tree live is =
    let a = ap length (status key tree live).is in
    let b = ap length is in
    omega arith

-- a walk in preorder begins with the plain tree
pub views_from_root : (views : Views) (root : Option ℕ) → root ≡ first_key views.tree → views_from views root ≡ rows (plain_of views)
views_from_root views root is = rw is (ap (map (scrolled (held_of views))) (rows_from_root views.tree) ∙ sym (plain-rows (held_of views) views.tree))
