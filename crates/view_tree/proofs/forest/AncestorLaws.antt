-- The ancestors of a view.
use Rattle.std.proofs.Common.{◌≡◌, ℕ, ◌+◌, ◌<◌, ◌≤◌, Option, Some, None, refl, sym, ◌∙◌, ap, arith, ◌⊎◌, inl, inr, List, [], ◌∷◌}
use Rattle.std.proofs.lemmas.Bool.{eq-eqb, ne_eqb, cases_eq}
use Rattle.std.specs.Prelude.{◌==◌, if◌then◌else◌, MatchOption}
use Rattle.view_model.specs.Forest.{Forest, Nothing, Branch}
use Rattle.view_tree.specs.Rows.{Row, count_of_key, around, ancestors}
use Rattle.view_tree.specs.node.Nodes.{PlainNode, RepresentsPart, RepresentsTree}
use Rattle.view_tree.proofs.forest.KeyLaws.{own_more, times_self}
use Rattle.view_tree.proofs.forest.Forests.{some_is}

-- the nearest, if they are listed with the nearest first
abbrev pub head : List ℕ → Option ℕ
head [] = None
head (x ∷ xs) = Some x

pub around_here : (acc : List ℕ) (k : ℕ) (row : Row) (kids siblings : Forest Row) → row.key ≡ k → around acc k (Branch row kids siblings) ≡ acc
around_here acc k row kids siblings e = rw (eq-eqb row.key k e)

pub around_after : (acc : List ℕ) (k : ℕ) (row : Row) (kids siblings : Forest Row) → (row.key ≡ k → ⊥) → count_of_key k kids ≡ 0
    → around acc k (Branch row kids siblings) ≡ around acc k siblings
around_after acc k row kids siblings ne z = rw (ne_eqb row.key k ne, eq-eqb (count_of_key k kids) 0 z)

pub around_below : (acc : List ℕ) (k : ℕ) (row : Row) (kids siblings : Forest Row) → (row.key ≡ k → ⊥) → (count_of_key k kids ≡ 0 → ⊥)
    → around acc k (Branch row kids siblings) ≡ around (row.key ∷ acc) k kids
around_below acc k row kids siblings ne nz = rw (ne_eqb row.key k ne, ne_eqb (count_of_key k kids) 0 nz)

pub left : (k : ℕ) (row : Row) (kids siblings : Forest Row) → (row.key ≡ k → ⊥) → 0 < count_of_key k (Branch row kids siblings) → 0 < count_of_key k kids + count_of_key k siblings
left k row kids siblings ne h = let h' : 0 < (if row.key == k then 1 else 0) + (count_of_key k kids + count_of_key k siblings) = h in let g = rw (ne_eqb row.key k ne) at h' in omega arith

-- a node's parent is the nearest view around it
pub parent_is : (at : ℕ → Option PlainNode) (k : ℕ) (n : PlainNode) → at k ≡ Some n → (t : Forest Row) (acc : List ℕ) (q : Option ℕ) → RepresentsPart at (head acc) q t
    → 0 < count_of_key k t → n.parent ≡ head (around acc k t)
parent_is at k n says Nothing acc q s h = absurd (omega arith)
parent_is at k n says (Branch row kids siblings) acc q s h = elim (cases_eq row.key k) [
  | inl e ↦ rw (around_here acc k row kids siblings e) (ap (λ (n : PlainNode). n.parent) (some_is (sym says ∙ ap at (sym e) ∙ s.0)))
  | inr ne ↦ elim (cases_eq (count_of_key k kids) 0) [
    | inl z ↦ let p = left k row kids siblings ne h in rw (around_after acc k row kids siblings ne z) (parent_is at k n says siblings acc (Some row.key) s.2 (omega arith))
    | inr nz ↦ rw (around_below acc k row kids siblings ne nz) (parent_is at k n says kids (row.key ∷ acc) None s.1 (omega arith))
  ]
]

-- a view is among the outermost, or the views around it are the nearest of them and those around that one
pub record Nearest (acc : List ℕ) (k : ℕ) (t : Forest Row) : Type 0 where
  pub x : ℕ
  pub live : 0 < count_of_key x t
  pub is : around acc k t ≡ x ∷ around acc x t

pub nearest : (k : ℕ) (t : Forest Row) (acc : List ℕ) → ((x : ℕ) → count_of_key x t ≤ 1) → 0 < count_of_key k t → (around acc k t ≡ acc) ⊎ Nearest acc k t
nearest k Nothing acc once h = absurd (omega arith)
nearest k (Branch row kids siblings) acc once h = elim (cases_eq row.key k) [
  | inl e ↦ inl (around_here acc k row kids siblings e)
  | inr ne ↦ elim (cases_eq (count_of_key k kids) 0) [
    | inl z ↦ let p = left k row kids siblings ne h in
        elim (nearest k siblings acc (λ x. let o = once x in omega arith) (omega arith)) [
          | inl e ↦ inl (around_after acc k row kids siblings ne z ∙ e)
          | inr g ↦ let l = g.live in
              let ne' : row.key ≡ g.x → ⊥ = λ i. let o = once g.x in let w = own_more row kids siblings g.x i in absurd (omega arith) in
              let z' : count_of_key g.x kids ≡ 0 = let o = once g.x in omega arith in
              inr (record { x = g.x; live = omega arith; is = around_after acc k row kids siblings ne z ∙ g.is ∙ ap (λ l. g.x ∷ l) (sym (around_after acc g.x row kids siblings ne' z')) })
        ]
    | inr nz ↦
        elim (nearest k kids (row.key ∷ acc) (λ x. let o = once x in omega arith) (omega arith)) [
          | inl e ↦ inr (record { x = row.key; live = times_self row kids siblings; is = around_below acc k row kids siblings ne nz ∙ e ∙ ap (λ l. row.key ∷ l) (sym (around_here acc row.key row kids siblings refl)) })
          | inr g ↦ let l = g.live in
              let ne' : row.key ≡ g.x → ⊥ = λ i. let o = once g.x in let w = own_more row kids siblings g.x i in absurd (omega arith) in
              let nz' : count_of_key g.x kids ≡ 0 → ⊥ = λ z. absurd (omega arith) in
              inr (record { x = g.x; live = omega arith; is = around_below acc k row kids siblings ne nz ∙ g.is ∙ ap (λ l. g.x ∷ l) (sym (around_below acc g.x row kids siblings ne' nz')) })
        ]
  ]
]

-- what a parent is said to be
pub record Up (o : Option ℕ) (k : ℕ) (t : Forest Row) : Type 0 where
  pub path : MatchOption o (ancestors k t ≡ []) (λ p. ancestors k t ≡ p ∷ ancestors p t)
  pub live : MatchOption o (Unit {0}) (λ p. 0 < count_of_key p t)

pub up_is : (at : ℕ → Option PlainNode) (root : Option ℕ) (next : ℕ) (t : Forest Row) (k : ℕ) (n : PlainNode) → RepresentsTree at root next t → 0 < count_of_key k t → at k ≡ Some n
    → Up n.parent k t
up_is at root next t k n represents live says =
    let e : n.parent ≡ head (ancestors k t) = parent_is at k n says t [] None represents.represented live in
    elim (nearest k t [] represents.distinct live) [
      | inl outermost ↦ rw (e, outermost) (record { path = outermost; live = tt })
      | inr g ↦ let h : n.parent ≡ Some g.x = e ∙ ap head g.is in rw h (record { path = g.is; live = g.live })
    ]
