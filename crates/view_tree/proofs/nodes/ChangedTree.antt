-- A tree with one view changed.
use Rattle.std.proofs.Common.{◌≡◌, ◌≢◌, ℕ, ◌+◌, ◌<◌, ◌≤◌, Option, Some, None, refl, sym, ◌∙◌, ap, arith, inl, inr}
use Rattle.std.proofs.lemmas.Bool.{eq-eqb, ne_eqb, cases_eq}
use Rattle.view_model.specs.PlainTree.{PlainView}
use Rattle.view_model.specs.Forest.{Forest, Nothing, Branch}
use Rattle.view_tree.proofs.forest.KeyLaws.{own_more}
use Rattle.view_tree.specs.Rows.{Row, count_of_key, first_key, last_key_or, changed_at_key}
use Rattle.view_tree.specs.node.Nodes.{PlainNode, RepresentsPart, RepresentsTree, plain_node_for}
use Rattle.view_tree.proofs.values.KeptLaws.{later_siblings-put}
use Rattle.view_tree.proofs.forest.NumberLaws.{count_of_key-put, count-put}
use Rattle.view_tree.proofs.nodes.ChildEdits.{RepresentsPart-along}

module _ (k : ℕ) (f : PlainView → PlainView) where
  pub put_here : (row : Row) (kids siblings : Forest Row) → row.key ≡ k
      → changed_at_key k f (Branch row kids siblings) ≡ Branch (record row { view = f row.view }) kids siblings
  put_here row kids siblings e = rw (eq-eqb row.key k e)

  pub put_there : (row : Row) (kids siblings : Forest Row) → (row.key ≡ k → ⊥)
      → changed_at_key k f (Branch row kids siblings) ≡ Branch row (changed_at_key k f kids) (changed_at_key k f siblings)
  put_there row kids siblings ne = rw (ne_eqb row.key k ne)

  pub first_key-put : (t : Forest Row) → first_key (changed_at_key k f t) ≡ first_key t
  first_key-put Nothing = refl
  first_key-put (Branch row kids siblings) = elim (cases_eq row.key k) [ inl e ↦ rw (put_here row kids siblings e) | inr ne ↦ rw (put_there row kids siblings ne) ]

  pub last_key-put : (q : Option ℕ) (t : Forest Row) → last_key_or q (changed_at_key k f t) ≡ last_key_or q t
  last_key-put q Nothing = refl
  last_key-put q (Branch row kids siblings) = elim (cases_eq row.key k) [
    | inl e ↦ rw (put_here row kids siblings e)
    | inr ne ↦ rw (put_there row kids siblings ne) (last_key-put (Some row.key) siblings)
  ]

  module _ (at new : ℕ → Option PlainNode) (own : (s : PlainNode) → at k ≡ Some s → new k ≡ Some (record s { view = f s.view })) (others : (x : ℕ) → x ≢ k → new x ≡ at x) where
    pub RepresentsPart-put : (t : Forest Row) (p q : Option ℕ) → ((x : ℕ) → count_of_key x t ≤ 1) → RepresentsPart at p q t → RepresentsPart new p q (changed_at_key k f t)
    RepresentsPart-put Nothing p q once s = tt
    RepresentsPart-put (Branch row kids siblings) p q once s = elim (cases_eq row.key k) [
      | inl e ↦
          let out : (x : ℕ) → 0 < count_of_key x kids + count_of_key x siblings → x ≢ k = λ x h i. let o = once x in let w = own_more row kids siblings x (e ∙ sym i) in absurd (omega arith) in
          rw (put_here row kids siblings e) (
            ap new e ∙ own (plain_node_for row p q kids siblings) (ap at (sym e) ∙ s.0),
            RepresentsPart-along at new (Some row.key) None kids (λ x h. others x (out x (omega arith))) s.1,
            RepresentsPart-along at new p (Some row.key) siblings (λ x h. others x (out x (omega arith))) s.2,
          )
      | inr ne ↦
          rw (put_there row kids siblings ne) (
            others row.key ne ∙ s.0 ∙ rw (first_key-put kids, last_key-put None kids, first_key-put siblings),
            RepresentsPart-put kids (Some row.key) None (λ x. let o = once x in omega arith) s.1,
            RepresentsPart-put siblings p (Some row.key) (λ x. let o = once x in omega arith) s.2,
          )
    ]

    pub put_represents : (root : Option ℕ) (next : ℕ) (t : Forest Row) → RepresentsTree at root next t → RepresentsTree new root next (changed_at_key k f t)
    put_represents root next t s = record {
      outer = first_key-put t ∙ s.outer;
      single = later_siblings-put k f t s.single;
      represented = RepresentsPart-put t None None s.distinct s.represented;
      distinct = λ x. rw (count_of_key-put x k f t) (s.distinct x);
      few = rw (count-put k f t) s.few;
    }
