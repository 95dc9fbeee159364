-- The sibling before a view, and the last child of a view.
use Rattle.std.proofs.Common.{◌≡◌, ℕ, ◌<◌, Option, Some, None, refl, sym, ◌∙◌, ap, subst, arith, inl, inr}
use Rattle.std.proofs.lemmas.Bool.{eq-eqb, ne_eqb, cases_eq}
use Rattle.std.specs.Prelude.{IfSome}
use Rattle.view_model.specs.Forest.{Forest, Nothing, Branch}
use Rattle.view_tree.specs.Rows.{Row, count_of_key, last_key, last_key_or, previous_key}
use Rattle.view_tree.specs.node.Nodes.{PlainNode, RepresentsPart, RepresentsTree}
use Rattle.view_tree.proofs.forest.KeyLaws.{times_self, count_of_key-within}
use Rattle.view_tree.proofs.forest.Forests.{seen, some_is}
use Rattle.view_tree.proofs.forest.AncestorLaws.{left}
use Rattle.view_tree.proofs.nodes.PrunedTree.{gone_around}

-- a node names the sibling before it
pub previous_is : (at : ℕ → Option PlainNode) (k : ℕ) (n : PlainNode) → at k ≡ Some n → (t : Forest Row) (p q : Option ℕ) → RepresentsPart at p q t → 0 < count_of_key k t
    → n.previous ≡ previous_key q k t
previous_is at k n says Nothing p q s h = absurd (omega arith)
previous_is at k n says (Branch row kids siblings) p q s h = elim (cases_eq row.key k) [
  | inl e ↦ rw (eq-eqb row.key k e) (ap (λ (n : PlainNode). n.previous) (some_is (sym says ∙ ap at (sym e) ∙ s.0)))
  | inr ne ↦ elim (cases_eq (count_of_key k kids) 0) [
    | inl z ↦ let l = left k row kids siblings ne h in rw (ne_eqb row.key k ne, eq-eqb (count_of_key k kids) 0 z) (previous_is at k n says siblings p (Some row.key) s.2 (omega arith))
    | inr nz ↦ rw (ne_eqb row.key k ne, ne_eqb (count_of_key k kids) 0 nz) (previous_is at k n says kids (Some row.key) None s.1 (omega arith))
  ]
]

if_some : (o : Option ℕ) (P : ℕ → Type 0) → ((x : ℕ) → o ≡ Some x → P x) → IfSome o P
if_some None P h = tt
if_some (Some x) P h = h x refl

pub previous_live : (at : ℕ → Option PlainNode) (root : Option ℕ) (next : ℕ) (t : Forest Row) (k : ℕ) (n : PlainNode) → RepresentsTree at root next t → 0 < count_of_key k t
    → at k ≡ Some n → IfSome n.previous (λ x. 0 < count_of_key x t)
previous_live at root next t k n represents live says =
    if_some n.previous (λ x. 0 < count_of_key x t) (λ x e. (gone_around at root next t k n represents live says).live x (inr (inl e)))

pub last_in : (q : Option ℕ) (row : Row) (kids siblings : Forest Row) (x : ℕ) → last_key_or q (Branch row kids siblings) ≡ Some x
    → 0 < count_of_key x (Branch row kids siblings)
last_in q row kids Nothing x h = let e : row.key ≡ x = some_is h in subst (λ x. 0 < count_of_key x (Branch row kids Nothing)) e (times_self row kids Nothing)
last_in q row kids (Branch row' kids' siblings') x h = let p = last_in (Some row.key) row' kids' siblings' x h in omega arith

pub last_there : (list : Forest Row) (x : ℕ) → last_key list ≡ Some x → 0 < count_of_key x list
last_there Nothing x e = absurd (cc)
last_there (Branch row kids siblings) x e = last_in None row kids siblings x e

pub last_live : (at : ℕ → Option PlainNode) (root : Option ℕ) (next : ℕ) (t : Forest Row) (k : ℕ) (n : PlainNode) → RepresentsTree at root next t → 0 < count_of_key k t → at k ≡ Some n
    → IfSome n.last (λ x. 0 < count_of_key x t)
last_live at root next t k n represents live says =
    let there = seen at k None None t represents.represented live in
    let f = there.found in
    let last : n.last ≡ last_key f.kids = ap (λ (n : PlainNode). n.last) (some_is (sym says ∙ there.is)) in
    if_some n.last (λ x. 0 < count_of_key x t) (λ x e. let p = last_there f.kids x (sym last ∙ e) in let w = count_of_key-within x f.within in omega arith)
