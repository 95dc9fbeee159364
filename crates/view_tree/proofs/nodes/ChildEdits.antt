-- What an edit of the children of one view does.
use Rattle.std.proofs.Common.{◌≡◌, ℕ, ◌+◌, ◌<◌, ◌≤◌, true, false, Option, Some, None, refl, sym, ◌∙◌, ap, subst, arith}
use Rattle.std.proofs.lemmas.Bool.{eq-eqb, ne_eqb}
use Rattle.std.specs.Prelude.{◌==◌, if◌then◌else◌}
use Rattle.view_model.specs.Forest.{Forest, Nothing, Branch, edited_where, joined}
use Rattle.view_tree.specs.Rows.{Row, count_of_key, first_key, last_key_or, grown_at_key, later_siblings}
use Rattle.view_tree.specs.node.Nodes.{PlainNode, RepresentsPart, plain_node_for}
use Rattle.view_tree.proofs.values.KeptLaws.{later_siblings-edited}
use Rattle.view_tree.proofs.forest.KeyLaws.{Within, here, in_below, in_after, count_of_key-within, times_self, own_more, other_key}
use Rattle.view_tree.proofs.forest.NumberLaws.{edited_absent}

-- the tree with other children of the view of this key
abbrev pub edit_kids : ℕ → (Forest Row → Forest Row) → Forest Row → Forest Row
edit_kids k g tree = edited_where (λ (row : Row). row.key == k) (λ row kids siblings. Branch row (g kids) siblings) tree

-- only what nodes hold at the keys of the views matters
pub RepresentsPart-along : (at new : ℕ → Option PlainNode) (p q : Option ℕ) (t : Forest Row) → ((x : ℕ) → 0 < count_of_key x t → new x ≡ at x) → RepresentsPart at p q t → RepresentsPart new p q t
RepresentsPart-along at new p q Nothing same s = tt
RepresentsPart-along at new p q (Branch row kids siblings) same s = (
  same row.key (times_self row kids siblings) ∙ s.0,
  RepresentsPart-along at new (Some row.key) None kids (λ x h. same x (omega arith)) s.1,
  RepresentsPart-along at new p (Some row.key) siblings (λ x h. same x (omega arith)) s.2,
)

pub edit_absent : (k : ℕ) (g : Forest Row → Forest Row) (t : Forest Row) → count_of_key k t ≡ 0 → edit_kids k g t ≡ t
edit_absent k g t none = edited_absent k _ t none

pub first_key-edit : (k : ℕ) (g : Forest Row → Forest Row) (t : Forest Row) → first_key (edit_kids k g t) ≡ first_key t
first_key-edit k g Nothing = refl
first_key-edit k g (Branch row kids siblings) = elim (row.key == k) as (λ v. first_key (if v then Branch row (g kids) siblings else Branch row (edit_kids k g kids) (edit_kids k g siblings)) ≡ Some row.key) [ true ↦ refl | false ↦ refl ]

pub last_key-edit : (k : ℕ) (g : Forest Row → Forest Row) (q : Option ℕ) (t : Forest Row) → last_key_or q (edit_kids k g t) ≡ last_key_or q t
last_key-edit k g q Nothing = refl
last_key-edit k g q (Branch row kids siblings) =
    elim (row.key == k) as (λ v. last_key_or q (if v then Branch row (g kids) siblings else Branch row (edit_kids k g kids) (edit_kids k g siblings)) ≡ last_key_or (Some row.key) siblings) [
      | true ↦ refl
      | false ↦ last_key-edit k g (Some row.key) siblings
    ]

-- the edit at a view that is there
pub edit_here : (k : ℕ) (g : Forest Row → Forest Row) (row : Row) (kids siblings : Forest Row) → row.key ≡ k
    → edit_kids k g (Branch row kids siblings) ≡ Branch row (g kids) siblings
edit_here k g row kids siblings e = rw (eq-eqb row.key k e)

pub edit_there : (k : ℕ) (g : Forest Row → Forest Row) (row : Row) (kids siblings : Forest Row) → (row.key ≡ k → ⊥)
    → edit_kids k g (Branch row kids siblings) ≡ Branch row (edit_kids k g kids) (edit_kids k g siblings)
edit_there k g row kids siblings ne = rw (ne_eqb row.key k ne)

node-children_of_first : (k : ℕ) (g : Forest Row → Forest Row) (row : Row) (p q : Option ℕ) (kids siblings : Forest Row)
    → plain_node_for row p q kids siblings ≡ plain_node_for row p q (edit_kids k g kids) siblings
node-children_of_first k g row p q kids siblings = rw (first_key-edit k g kids, last_key-edit k g None kids)

node-later_siblings : (k : ℕ) (g : Forest Row → Forest Row) (row : Row) (p q : Option ℕ) (kids siblings : Forest Row)
    → plain_node_for row p q kids siblings ≡ plain_node_for row p q kids (edit_kids k g siblings)
node-later_siblings k g row p q kids siblings = rw (first_key-edit k g siblings)

module _ (at new : ℕ → Option PlainNode) (k : ℕ) (g : Forest Row → Forest Row) (row : Row) (kids siblings : Forest Row) (is : row.key ≡ k)
    (own : (p q : Option ℕ) → at k ≡ Some (plain_node_for row p q kids siblings) → new k ≡ Some (plain_node_for row p q (g kids) siblings))
    (inner : RepresentsPart at (Some k) None kids → RepresentsPart new (Some k) None (g kids)) where
  here-count_of_key : 0 < count_of_key k (Branch row kids siblings)
  here-count_of_key = subst (λ k. 0 < count_of_key k (Branch row kids siblings)) is (times_self row kids siblings)

  pub RepresentsPart-edit : (t : Forest Row) (p q : Option ℕ) → Within (Branch row kids siblings) t → ((x : ℕ) → count_of_key x t ≤ 1)
      → ((x : ℕ) → 0 < count_of_key x t → count_of_key x (Branch row kids Nothing) ≡ 0 → new x ≡ at x)
      → RepresentsPart at p q t → RepresentsPart new p q (edit_kids k g t)
  RepresentsPart-edit _ p q here once others s =
      rw (edit_here k g row kids siblings is) (
        ap new is ∙ own p q (ap at (sym is) ∙ s.0),
        subst (λ x. RepresentsPart new (Some x) None (g kids)) (sym is) (inner (subst (λ x. RepresentsPart at (Some x) None kids) is s.1)),
        RepresentsPart-along at new p (Some row.key) siblings (λ x h. others x (omega arith) (let o = once x in omega arith)) s.2,
      )
  RepresentsPart-edit _ p q (in_below {row = row'} {kids = kids'} {siblings = siblings'} w) once others s =
      let tb = count_of_key-within k w in
      let ne = other_key k row' kids' siblings' (once k) (omega (arith, here-count_of_key)) in
      let z : count_of_key k siblings' ≡ 0 = let o = once k in omega (arith, here-count_of_key) in
      let out : count_of_key row'.key (Branch row kids Nothing) ≡ 0 = let o = once row'.key in let t = count_of_key-within row'.key w in omega (arith, own_more row' kids' siblings' row'.key refl) in
      rw (edit_there k g row' kids' siblings' ne, edit_absent k g siblings' z) (
        others row'.key (times_self row' kids' siblings') out ∙ s.0 ∙ ap (λ n. Some n) (node-children_of_first k g row' p q kids' siblings'),
        RepresentsPart-edit kids' (Some row'.key) None w (λ x. let o = once x in omega arith) (λ x h o. others x (omega arith) o) s.1,
        RepresentsPart-along at new p (Some row'.key) siblings' (λ x h. others x (omega arith) (let o = once x in let t = count_of_key-within x w in omega arith)) s.2,
      )
  RepresentsPart-edit _ p q (in_after {row = row'} {kids = kids'} {siblings = siblings'} w) once others s =
      let tb = count_of_key-within k w in
      let ne = other_key k row' kids' siblings' (once k) (omega (arith, here-count_of_key)) in
      let z : count_of_key k kids' ≡ 0 = let o = once k in omega (arith, here-count_of_key) in
      let out : count_of_key row'.key (Branch row kids Nothing) ≡ 0 = let o = once row'.key in let t = count_of_key-within row'.key w in omega (arith, own_more row' kids' siblings' row'.key refl) in
      rw (edit_there k g row' kids' siblings' ne, edit_absent k g kids' z) (
        others row'.key (times_self row' kids' siblings') out ∙ s.0 ∙ ap (λ n. Some n) (node-later_siblings k g row' p q kids' siblings'),
        RepresentsPart-along at new (Some row'.key) None kids' (λ x h. others x (omega arith) (let o = once x in let t = count_of_key-within x w in omega arith)) s.1,
        RepresentsPart-edit siblings' p (Some row'.key) w (λ x. let o = once x in omega arith) (λ x h o. others x (omega arith) o) s.2,
      )

-- how often a key occurs after an edit
pub count_of_key-edit : (x k : ℕ) (g : Forest Row → Forest Row) (row : Row) (kids siblings : Forest Row) {t : Forest Row} → row.key ≡ k
    → Within (Branch row kids siblings) t → count_of_key k t ≤ 1 → count_of_key x (edit_kids k g t) + count_of_key x kids ≡ count_of_key x t + count_of_key x (g kids)
count_of_key-edit x k g row kids siblings e here once = rw (edit_here k g row kids siblings e) (omega arith)
count_of_key-edit x k g row kids siblings e (in_below {row = row'} {kids = kids'} {siblings = siblings'} w) once =
    let own = subst (λ k. 0 < count_of_key k (Branch row kids siblings)) e (times_self row kids siblings) in
    let tb = count_of_key-within k w in
    let ne = other_key k row' kids' siblings' once (omega arith) in
    let z : count_of_key k siblings' ≡ 0 = omega arith in
    let h = count_of_key-edit x k g row kids siblings e w (omega arith) in
    rw (edit_there k g row' kids' siblings' ne, edit_absent k g siblings' z) (omega arith)
count_of_key-edit x k g row kids siblings e (in_after {row = row'} {kids = kids'} {siblings = siblings'} w) once =
    let own = subst (λ k. 0 < count_of_key k (Branch row kids siblings)) e (times_self row kids siblings) in
    let tb = count_of_key-within k w in
    let ne = other_key k row' kids' siblings' once (omega arith) in
    let z : count_of_key k kids' ≡ 0 = omega arith in
    let h = count_of_key-edit x k g row kids siblings e w (omega arith) in
    rw (edit_there k g row' kids' siblings' ne, edit_absent k g kids' z) (omega arith)

pub later_siblings-edit : (k : ℕ) (g : Forest Row → Forest Row) (t : Forest Row) → later_siblings t ≡ Nothing → later_siblings (edit_kids k g t) ≡ Nothing
later_siblings-edit k g t root = later_siblings-edited (λ row. row.key == k) _ (λ row kids. refl) t root

-- a tree grows by an edit
pub grown_edit : (k : ℕ) (new t : Forest Row) → grown_at_key k new t ≡ edit_kids k (λ kids. joined kids new) t
grown_edit k new t = refl

pub grown_here : (k : ℕ) (new : Forest Row) (row : Row) (kids siblings : Forest Row) → row.key ≡ k
    → grown_at_key k new (Branch row kids siblings) ≡ Branch row (joined kids new) siblings
grown_here k new row kids siblings e = rw (eq-eqb row.key k e)

pub grown_there : (k : ℕ) (new : Forest Row) (row : Row) (kids siblings : Forest Row) → (row.key ≡ k → ⊥)
    → grown_at_key k new (Branch row kids siblings) ≡ Branch row (grown_at_key k new kids) (grown_at_key k new siblings)
grown_there k new row kids siblings ne = rw (ne_eqb row.key k ne)
