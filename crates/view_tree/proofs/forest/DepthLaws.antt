-- How deep views are, by their keys and by their numbers, and how edits affect that.
use Rattle.std.proofs.Common.{◌≡◌, ℕ, suc, ◌+◌, ◌<◌, ◌≤◌, false, List, [], ◌∷◌, length, refl, ◌∙◌, ap, arith, eqb-true, inl, inr}
use Rattle.std.proofs.lemmas.Bool.{eq-eqb, ne_eqb, cases_Bool}
use Rattle.std.specs.Prelude.{◌==◌}
use Rattle.view_model.specs.Forest.{Forest, Nothing, Branch, joined}
use Rattle.view_model.specs.PlainTree.{PlainView, depth_of}
use Rattle.view_tree.specs.Rows.{Row, ancestors, around, pruned_at_key, grown_at_key, leaf, count_of_key}
use Rattle.view_tree.specs.Views.{Held, IsLive, IsTree, Views, number_of, plain_of, plain_rows, held_of}
use Rattle.view_tree.proofs.forest.KeyLaws.{Agree, zero_or_more}
use Rattle.view_tree.proofs.forest.NumberLaws.{count_of_key-cut_le, count_of_key-grown_none, count_of_key-grown_some, count_of_key-joined, count_of_key-leaf_own, grown_absent}
use Rattle.view_tree.proofs.forest.PlainLaws.{agree_live}

pub depth_unkeyed : (held : ℕ → Held) (key number : ℕ) (tree : Forest Row) → count_of_key key tree ≡ 0 → Agree key number tree → depth_of number (plain_rows held tree) ≡ 0
depth_unkeyed held key number Nothing none agree = refl
depth_unkeyed held key number (Branch row kids siblings) none agree =
    elim (cases_Bool (row.key == key)) [
      | inl e ↦ absurd (let none = rw e at none in omega arith)
      | inr e ↦ rw (agree.0, e, depth_unkeyed held key number kids (omega arith) agree.1, depth_unkeyed held key number siblings (omega arith) agree.2)
    ]

pub positive : (n : ℕ) → 0 < n → (n == 0) ≡ false
positive n more = ne_eqb n 0 (λ e. absurd (omega arith))

-- the number of a live key has a depth
pub depth_keyed : (held : ℕ → Held) (key number : ℕ) (tree : Forest Row) → 0 < count_of_key key tree → Agree key number tree → 0 < depth_of number (plain_rows held tree)
depth_keyed held key number Nothing live agree = absurd (omega arith)
depth_keyed held key number (Branch row kids siblings) live agree =
    elim (cases_Bool (row.key == key)) [
      | inl e ↦ rw (agree.0, e) (omega arith)
      | inr e ↦
          let live = rw e at live in
          elim (zero_or_more (count_of_key key kids)) [
            | inl z ↦ rw (agree.0, e, depth_unkeyed held key number kids z agree.1) (depth_keyed held key number siblings (omega arith) agree.2)
            | inr l ↦
                let deep = depth_keyed held key number kids l agree.1 in
                rw (agree.0, e, positive (depth_of number (plain_rows held kids)) deep) (omega arith)
          ]
    ]

-- if a key is not there, nothing more is around it
pub around_absent : (outer : List ℕ) (key : ℕ) (tree : Forest Row) → count_of_key key tree ≡ 0 → around outer key tree ≡ outer
around_absent outer key Nothing none = refl
around_absent outer key (Branch row kids siblings) none =
    elim (cases_Bool (row.key == key)) [
      | inl e ↦ absurd (let none = rw e at none in omega arith)
      | inr e ↦ let z : count_of_key key kids ≡ 0 = omega arith in rw (e, z) (around_absent outer key siblings (omega arith))
    ]

-- a depth is one more than the number of ancestors, not counting those around the list
pub depth_around : (held : ℕ → Held) (outer : List ℕ) (key number : ℕ) (tree : Forest Row) → 0 < count_of_key key tree → Agree key number tree
    → depth_of number (plain_rows held tree) + length outer ≡ suc (length (around outer key tree))
depth_around held outer key number Nothing live agree = absurd (omega arith)
depth_around held outer key number (Branch row kids siblings) live agree =
    elim (cases_Bool (row.key == key)) [
      | inl e ↦ rw (agree.0, e) (omega arith)
      | inr e ↦
          let live = rw e at live in
          elim (zero_or_more (count_of_key key kids)) [
            | inl z ↦ rw (agree.0, e, depth_unkeyed held key number kids z agree.1, z) (depth_around held outer key number siblings (omega arith) agree.2)
            | inr l ↦
                let deep = depth_keyed held key number kids l agree.1 in
                let i = depth_around held (row.key ∷ outer) key number kids l agree.1 in
                rw (agree.0, e, positive (depth_of number (plain_rows held kids)) deep, positive (count_of_key key kids) l) (omega arith)
          ]
    ]

-- the depth of a live view is one more than the number of its ancestors
pub depth_is : (held : ℕ → Held) (key number : ℕ) (tree : Forest Row) → 0 < count_of_key key tree → Agree key number tree
    → depth_of number (plain_rows held tree) ≡ suc (length (ancestors key tree))
depth_is held key number tree live agree = let i = depth_around held [] key number tree live agree in omega arith

pub depth_live : (views : Views) (key : ℕ) → IsTree views → IsLive views key → depth_of (number_of views key) (plain_of views) ≡ suc (length (ancestors key views.tree))
depth_live views key is live = depth_is (held_of views) key (number_of views key) views.tree live (agree_live views key is live)

-- a view that stays after a cut keeps its ancestors
pub around-pruned_at_key : (outer : List ℕ) (other key : ℕ) (tree : Forest Row) → 0 < count_of_key other (pruned_at_key key tree) → count_of_key other tree ≤ 1
    → around outer other (pruned_at_key key tree) ≡ around outer other tree
around-pruned_at_key outer other key Nothing stays once = refl
around-pruned_at_key outer other key (Branch row kids siblings) stays once =
    elim (cases_Bool (row.key == key)) [
      | inl e ↦
          let stays : 0 < count_of_key other siblings = rw e at stays in
          elim (cases_Bool (row.key == other)) [
            | inl f ↦ absurd (let once = rw f at once in omega arith)
            | inr f ↦ let z : count_of_key other kids ≡ 0 = omega arith in rw (e, f, z)
          ]
      | inr e ↦
          let stays : 0 < count_of_key other (Branch row (pruned_at_key key kids) (pruned_at_key key siblings)) = rw e at stays in
          elim (cases_Bool (row.key == other)) [
            | inl f ↦ rw (e, f)
            | inr f ↦
                let stays = rw f at stays in
                let once = rw f at once in
                let less = count_of_key-cut_le other key kids in
                let fewer = count_of_key-cut_le other key siblings in
                elim (zero_or_more (count_of_key other (pruned_at_key key kids))) [
                  | inl z ↦
                      let y : count_of_key other kids ≡ 0 = omega arith in
                      rw (e, f, z, y) (around-pruned_at_key outer other key siblings (omega arith) (omega arith))
                  | inr l ↦
                      let there : 0 < count_of_key other kids = omega arith in
                      rw (e, f, positive (count_of_key other (pruned_at_key key kids)) l, positive (count_of_key other kids) there) (around-pruned_at_key (row.key ∷ outer) other key kids l (omega arith))
                ]
          ]
    ]

pub ancestors-pruned_at_key : (other key : ℕ) (tree : Forest Row) → 0 < count_of_key other (pruned_at_key key tree) → count_of_key other tree ≤ 1
    → ancestors other (pruned_at_key key tree) ≡ ancestors other tree
ancestors-pruned_at_key other key tree stays once = around-pruned_at_key [] other key tree stays once

-- views appended to a list have no descendant in it, and have around them what it has
pub around-joined : (outer : List ℕ) (other : ℕ) (list more : Forest Row) → count_of_key other more ≡ 0 → around outer other (joined list more) ≡ around outer other list
around-joined outer other Nothing more none = around_absent outer other more none
around-joined outer other (Branch row kids siblings) more none = rw (around-joined outer other siblings more none)

pub around-following : (outer : List ℕ) (other : ℕ) (list more : Forest Row) → count_of_key other list ≡ 0 → around outer other (joined list more) ≡ around outer other more
around-following outer other Nothing more none = refl
around-following outer other (Branch row kids siblings) more none =
    elim (cases_Bool (row.key == other)) [
      | inl e ↦ absurd (let none = rw e at none in omega arith)
      | inr e ↦ let z : count_of_key other kids ≡ 0 = omega arith in rw (e, z) (around-following outer other siblings more (omega arith))
    ]

-- a view keeps its ancestors if another gets children that it is not among
pub around-grown : (outer : List ℕ) (other parent : ℕ) (new tree : Forest Row) → count_of_key other new ≡ 0 → around outer other (grown_at_key parent new tree) ≡ around outer other tree
around-grown outer other parent new Nothing none = refl
around-grown outer other parent new (Branch row kids siblings) none =
    elim (cases_Bool (row.key == parent)) [
      | inl e ↦
          let same : count_of_key other (joined kids new) ≡ count_of_key other kids = let j = count_of_key-joined other kids new in omega arith in
          rw (e, same, around-joined (row.key ∷ outer) other kids new none)
      | inr e ↦ rw (
        e,
        count_of_key-grown_none other parent new kids none,
        around-grown (row.key ∷ outer) other parent new kids none,
        around-grown outer other parent new siblings none,
      )
    ]

pub ancestors-grown : (other parent : ℕ) (new tree : Forest Row) → count_of_key other new ≡ 0 → ancestors other (grown_at_key parent new tree) ≡ ancestors other tree
ancestors-grown other parent new tree none = around-grown [] other parent new tree none

-- new views have the parent around them, and then what is around it
pub around-new : (outer : List ℕ) (other parent : ℕ) (new tree : Forest Row) → 0 < count_of_key parent tree → count_of_key other tree ≡ 0 → 0 < count_of_key other new
    → around outer other (grown_at_key parent new tree) ≡ around (parent ∷ around outer parent tree) other new
around-new outer other parent new Nothing live none there = absurd (omega arith)
around-new outer other parent new (Branch row kids siblings) live none there =
    elim (cases_Bool (row.key == other)) [
      | inl f ↦ absurd (let none = rw f at none in omega arith)
      | inr f ↦
          let none = rw f at none in
          let z : count_of_key other kids ≡ 0 = omega arith in
          elim (cases_Bool (row.key == parent)) [
            | inl e ↦
                let here : row.key ≡ parent = eqb-true _ _ e in
                let some : 0 < count_of_key other (joined kids new) = let j = count_of_key-joined other kids new in omega arith in
                rw (e, f, positive (count_of_key other (joined kids new)) some, around-following (row.key ∷ outer) other kids new z)
                (ap (λ k. around (k ∷ outer) other new) here)
            | inr e ↦
                let live = rw e at live in
                elim (zero_or_more (count_of_key parent kids)) [
                  | inl y ↦ rw (e, f, grown_absent parent new kids y, z, y) (around-new outer other parent new siblings (omega arith) (omega arith) there)
                  | inr l ↦
                      let some : 0 < count_of_key other (grown_at_key parent new kids) = count_of_key-grown_some other parent new kids l there in
                      rw (e, f, positive (count_of_key other (grown_at_key parent new kids)) some, positive (count_of_key parent kids) l)
                      (around-new (row.key ∷ outer) other parent new kids l z there)
                ]
          ]
    ]

-- a new leaf has its parent and the ancestors of that
pub ancestors-leaf : (key parent : ℕ) (view : PlainView) (tree : Forest Row) → 0 < count_of_key parent tree → count_of_key key tree ≡ 0
    → ancestors key (grown_at_key parent (leaf key view) tree) ≡ parent ∷ ancestors parent tree
ancestors-leaf key parent view tree live none =
    let own = count_of_key-leaf_own key view in
    around-new [] key parent (leaf key view) tree live none (omega arith) ∙ rw (eq-eqb key key refl)
