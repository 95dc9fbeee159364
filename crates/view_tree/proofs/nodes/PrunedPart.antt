-- The tree after a view was taken out.
use Rattle.std.proofs.Common.{◌≡◌, ◌≢◌, ℕ, ◌+◌, ◌<◌, ◌≤◌, Option, Some, None, refl, sym, ◌∙◌, ap, subst, arith, ◌⊎◌, inl, inr}
use Rattle.std.proofs.lemmas.Bool.{eq-eqb, ne_eqb, cases_eq}
use Rattle.std.specs.Prelude.{◌==◌, if◌then◌else◌}
use Rattle.view_model.specs.Forest.{Forest, Nothing, Branch, count_of, or_else}
use Rattle.view_tree.specs.Rows.{Row, count_of_key, first_key, last_key_or, pruned_at_key, part_from, children_of_first, At_first, Later, Later_on}
use Rattle.view_tree.specs.node.Nodes.{PlainNode, RepresentsPart, plain_node_for, replaced_if_none}
use Rattle.view_tree.proofs.forest.KeyLaws.{Within, here, in_below, in_after, count_of_key-within, times_self, located, absent, own_more}
use Rattle.view_tree.proofs.nodes.ChildEdits.{edit_kids, RepresentsPart-along, edit_absent, edit_here, edit_there}
use Rattle.view_tree.proofs.forest.Forests.{some_is}
use Rattle.view_tree.proofs.forest.NumberLaws.{cut_absent}

-- u is among the children of a view
pub record Home (u t : Forest Row) : Type 0 where
  pub row : Row
  pub kids : Forest Row
  pub siblings : Forest Row
  pub within : Within (Branch row kids siblings) t
  pub later : Later u kids

pub up : {u t : Forest Row} → Within u t → Later u t ⊎ Home u t
up here = inl At_first
up (in_below {row = row} {kids = kids} {siblings = siblings} w) = elim (up w) [
  | inl l ↦ inr (record { row = row; kids = kids; siblings = siblings; within = here; later = l })
  | inr h ↦ inr (record { row = h.row; kids = h.kids; siblings = h.siblings; within = in_below h.within; later = h.later })
]
up (in_after w) = elim (up w) [
  | inl l ↦ inl (Later_on l)
  | inr h ↦ inr (record { row = h.row; kids = h.kids; siblings = h.siblings; within = in_after h.within; later = h.later })
]

pub count_of_key-later : {u t : Forest Row} (x : ℕ) → Later u t → count_of_key x u ≤ count_of_key x t
count_of_key-later x At_first = omega arith
count_of_key-later x (Later_on l) = let h = count_of_key-later x l in omega arith

pub record Beside (at : ℕ → Option PlainNode) (p : Option ℕ) (u : Forest Row) : Type 0 where
  pub before : Option ℕ
  pub represented : RepresentsPart at p before u

pub RepresentsPart-later : {u t : Forest Row} (at : ℕ → Option PlainNode) (p q : Option ℕ) → Later u t → RepresentsPart at p q t → Beside at p u
RepresentsPart-later at p q At_first s = record { before = q; represented = s }
RepresentsPart-later at p q (Later_on {row = row} l) s = RepresentsPart-later at p (Some row.key) l s.2

pub cut_here : (k : ℕ) (row : Row) (kids siblings : Forest Row) → row.key ≡ k → pruned_at_key k (Branch row kids siblings) ≡ siblings
cut_here k row kids siblings e = rw (eq-eqb row.key k e)

pub cut_there : (k : ℕ) (row : Row) (kids siblings : Forest Row) → (row.key ≡ k → ⊥) → pruned_at_key k (Branch row kids siblings) ≡ Branch row (pruned_at_key k kids) (pruned_at_key k siblings)
cut_there k row kids siblings ne = rw (ne_eqb row.key k ne)

first_in : (t : Forest Row) (x : ℕ) → first_key t ≡ Some x → 0 < count_of_key x t
first_in Nothing x e = absurd (cc)
first_in (Branch row kids siblings) x e = let h : row.key ≡ x = some_is e in subst (λ x. 0 < count_of_key x (Branch row kids siblings)) h (times_self row kids siblings)

-- the siblings after it, which now come after what was before it
tail_ok : (at new : ℕ → Option PlainNode) (p q q0 : Option ℕ) (n : PlainNode) (siblings : Forest Row) → n.next ≡ first_key siblings → n.previous ≡ q
    → ((x : ℕ) (m : PlainNode) → n.next ≡ Some x → at x ≡ Some m → new x ≡ Some (record m { previous = n.previous }))
    → ((x : ℕ) → 0 < count_of_key x siblings → n.next ≢ Some x → new x ≡ at x)
    → ((x : ℕ) → count_of_key x siblings ≤ 1) → RepresentsPart at p q0 siblings → RepresentsPart new p q siblings
tail_ok at new p q q0 n Nothing next before after_new others_same once s = tt
tail_ok at new p q q0 n (Branch row kids siblings) next before after_new others_same once s =
    let apart : (x : ℕ) → 0 < count_of_key x kids + count_of_key x siblings → n.next ≢ Some x = λ x h e. let o = once x in
    let w = own_more row kids siblings x (some_is (sym next ∙ e)) in absurd (omega arith) in (
      after_new row.key (plain_node_for row p q0 kids siblings) next s.0 ∙ ap (λ (o : Option ℕ). Some (plain_node_for row p o kids siblings)) before,
      RepresentsPart-along at new (Some row.key) None kids (λ x h. others_same x (omega arith) (apart x (omega arith))) s.1,
      RepresentsPart-along at new p (Some row.key) siblings (λ x h. others_same x (omega arith) (apart x (omega arith))) s.2,
    )

last_instead : (q o : Option ℕ) (siblings : Forest Row) → last_key_or q siblings ≡ replaced_if_none (first_key siblings) q (last_key_or o siblings)
last_instead q o Nothing = refl
last_instead q o (Branch row kids siblings) = refl

module _ (at : ℕ → Option PlainNode) (p : Option ℕ) (k : ℕ) (row : Row) (c siblings : Forest Row) (n : PlainNode) (is : row.key ≡ k) (says : at k ≡ Some n) where
  abbrev u : Forest Row
  u = Branch row c siblings

  k_in : 0 < count_of_key k u
  k_in = subst (λ k. 0 < count_of_key k (Branch row c siblings)) is (times_self row c siblings)

  pub node_is : (q : Option ℕ) → RepresentsPart at p q u → n ≡ plain_node_for row p q c siblings
  node_is q s = some_is (sym says ∙ ap at (sym is) ∙ s.0)

  -- the node before it is among these
  before_in : (q : Option ℕ) (row1 : Row) (kids1 siblings1 : Forest Row) (x : ℕ) → Later u siblings1 → RepresentsPart at p q (Branch row1 kids1 siblings1)
      → n.previous ≡ Some x → 0 < count_of_key x (Branch row1 Nothing siblings1)
  before_in q row1 kids1 _ x At_first s e =
      let h : row1.key ≡ x = some_is (ap (λ (n : PlainNode). n.previous) (sym (node_is (Some row1.key) s.2)) ∙ e) in
      subst (λ x. 0 < count_of_key x (Branch row1 Nothing u)) h (times_self row1 Nothing u)
  before_in q row1 kids1 _ x (Later_on {row = row2} {kids = kids2} {siblings = siblings2} l) s e = let h = before_in (Some row1.key) row2 kids2 siblings2 x l s.2 e in omega arith

  next_in : (q : Option ℕ) (kids : Forest Row) (x : ℕ) → Later u kids → RepresentsPart at p q kids → n.next ≡ Some x → 0 < count_of_key x siblings
  next_in q kids x l s e =
      let t = RepresentsPart-later at p q l s in
      first_in siblings x (ap (λ (n : PlainNode). n.next) (sym (node_is t.before t.represented)) ∙ e)

  pub a_in : (x : ℕ) (kids : Forest Row) → Later u kids → count_of_key x siblings ≤ count_of_key x kids
  a_in x kids l = let h = count_of_key-later x l in omega arith

  -- what was before it is not among these
  pub before_out : (kids : Forest Row) (q : Option ℕ) (x : ℕ) → Later u kids → ((x : ℕ) → count_of_key x kids ≤ 1) → ((x : ℕ) → q ≡ Some x → count_of_key x kids ≡ 0)
      → RepresentsPart at p q kids → n.previous ≡ Some x → count_of_key x u ≡ 0
  before_out _ q x At_first once apart s e = apart x (ap (λ (n : PlainNode). n.previous) (sym (node_is q s)) ∙ e)
  before_out _ q x (Later_on {row = row1} {kids = kids1} {siblings = siblings1} l) once apart s e =
      before_out siblings1 (Some row1.key) x l (λ x. let o = once x in omega arith) (λ x i. let o = once x in
      let w = own_more row1 kids1 siblings1 x (some_is i) in omega arith) s.2 e

  pub before_there : (kids : Forest Row) (x : ℕ) → Later u kids → RepresentsPart at p None kids → n.previous ≡ Some x → 0 < count_of_key x kids
  before_there _ x At_first s e = let f : None ≡ Some x = ap (λ (n : PlainNode). n.previous) (sym (node_is None s)) ∙ e in absurd (cc)
  before_there _ x (Later_on {row = row1} {kids = kids1} {siblings = siblings1} l) s e = let h = before_in None row1 kids1 siblings1 x l s e in omega arith

  pub next_there : (kids : Forest Row) (q : Option ℕ) (x : ℕ) → Later u kids → RepresentsPart at p q kids → n.next ≡ Some x → 0 < count_of_key x siblings
  next_there kids q x l s e = next_in q kids x l s e

  kept_first : (q : Option ℕ) (row1 : Row) (kids1 siblings1 : Forest Row) (f : Option ℕ) → Later u siblings1 → RepresentsPart at p q (Branch row1 kids1 siblings1)
      → f ≡ replaced_if_none n.previous n.next f
  kept_first q row1 kids1 _ f At_first s = let e : n.previous ≡ Some row1.key = ap (λ (n : PlainNode). n.previous) (node_is (Some row1.key) s.2) in rw e
  kept_first q row1 kids1 _ f (Later_on {row = row2} {kids = kids2} {siblings = siblings2} l) s = kept_first (Some row1.key) row2 kids2 siblings2 f l s.2

  pub cut_first : (kids : Forest Row) → Later u kids → ((x : ℕ) → count_of_key x kids ≤ 1) → RepresentsPart at p None kids
      → first_key (pruned_at_key k kids) ≡ replaced_if_none n.previous n.next (first_key kids)
  cut_first _ At_first once s =
      let e = node_is None s in
      rw (cut_here k row c siblings is, ap (λ (n : PlainNode). n.previous) e, ap (λ (n : PlainNode). n.next) e)
  cut_first _ (Later_on {row = row1} {kids = kids1} {siblings = siblings1} l) once s =
      let kl = count_of_key-later k l in
      let ne : row1.key ≡ k → ⊥ = λ i. let o = once k in let w = own_more row1 kids1 siblings1 k i in let h = k_in in absurd (omega arith) in
      rw (cut_there k row1 kids1 siblings1 ne) (kept_first None row1 kids1 siblings1 (Some row1.key) l s)

  pub cut_last : (kids : Forest Row) (q : Option ℕ) → Later u kids → ((x : ℕ) → count_of_key x kids ≤ 1) → RepresentsPart at p q kids
      → last_key_or q (pruned_at_key k kids) ≡ replaced_if_none n.next n.previous (last_key_or q kids)
  cut_last _ q At_first once s =
      let e = node_is q s in
      rw (cut_here k row c siblings is, ap (λ (n : PlainNode). n.previous) e, ap (λ (n : PlainNode). n.next) e) (last_instead q (Some row.key) siblings)
  cut_last _ q (Later_on {row = row1} {kids = kids1} {siblings = siblings1} l) once s =
      let kl = count_of_key-later k l in
      let ne : row1.key ≡ k → ⊥ = λ i. let o = once k in let w = own_more row1 kids1 siblings1 k i in let h = k_in in absurd (omega arith) in
      rw (cut_there k row1 kids1 siblings1 ne) (cut_last siblings1 (Some row1.key) l (λ x. let o = once x in omega arith) s.2)

  module _ (new : ℕ → Option PlainNode)
      (before_new : (x : ℕ) (m : PlainNode) → n.previous ≡ Some x → at x ≡ Some m → new x ≡ Some (record m { next = n.next }))
      (after_new : (x : ℕ) (m : PlainNode) → n.next ≡ Some x → at x ≡ Some m → new x ≡ Some (record m { previous = n.previous })) where
    pub RepresentsPart-pruned_at_key : (kids : Forest Row) (q : Option ℕ) → Later u kids → ((x : ℕ) → count_of_key x kids ≤ 1) → ((x : ℕ) → q ≡ Some x → count_of_key x kids ≡ 0)
        → ((x : ℕ) → 0 < count_of_key x kids → x ≢ k → n.previous ≢ Some x → n.next ≢ Some x → new x ≡ at x)
        → RepresentsPart at p q kids → RepresentsPart new p q (pruned_at_key k kids)
    RepresentsPart-pruned_at_key _ q At_first once apart others_same s =
        let e = node_is q s in
        rw (cut_here k row c siblings is) (
        tail_ok at new p q (Some row.key) n siblings (ap (λ (n : PlainNode). n.next) e) (ap (λ (n : PlainNode). n.previous) e) after_new
        (λ x h ne. others_same x (omega arith)
        (λ i. let o = once x in let w = own_more row c siblings x (is ∙ sym i) in absurd (omega arith))
        (λ i. let z = apart x (ap (λ (n : PlainNode). n.previous) (sym e) ∙ i) in absurd (omega arith))
        ne)
        (λ x. let o = once x in omega arith)
        s.2
        )
    RepresentsPart-pruned_at_key _ q (Later_on {row = row1} {kids = kids1} At_first) once apart others_same s =
        let e = node_is (Some row1.key) s.2 in
        let ne : row1.key ≡ k → ⊥ = λ i. let o = once k in let w = own_more row1 kids1 u k i in let h = k_in in absurd (omega arith) in
        let z : count_of_key k kids1 ≡ 0 = let o = once k in let h = k_in in omega arith in
        let before : n.previous ≡ Some row1.key = ap (λ (n : PlainNode). n.previous) e in
        let next : n.next ≡ first_key siblings = ap (λ (n : PlainNode). n.next) e in
        rw (cut_there k row1 kids1 u ne, cut_absent k kids1 z, cut_here k row c siblings is) (
          before_new row1.key (plain_node_for row1 p q kids1 u) before s.0 ∙ ap (λ (o : Option ℕ). Some (record (plain_node_for row1 p q kids1 u) { next = o })) next,
          RepresentsPart-along at new (Some row1.key) None kids1
              (λ x h. others_same x (omega arith)
              (λ i. let h' : 0 < count_of_key k kids1 = rw i at h in absurd (omega arith))
              (λ i. let o = once x in let w = own_more row1 kids1 u x (some_is (sym before ∙ i)) in absurd (omega arith))
              (λ i. let o = once x in let f = first_in siblings x (sym next ∙ i) in absurd (omega arith)))
              s.1,
          tail_ok at new p (Some row1.key) (Some row.key) n siblings next before after_new
              (λ x h ne. others_same x (omega arith)
              (λ i. let o = once x in let w = own_more row c siblings x (is ∙ sym i) in absurd (omega arith))
              (λ i. let o = once x in let w = own_more row1 kids1 u x (some_is (sym before ∙ i)) in absurd (omega arith))
              ne)
              (λ x. let o = once x in omega arith)
              s.2.2,
        )
    RepresentsPart-pruned_at_key _ q (Later_on {row = row1} {kids = kids1} (Later_on {row = row2} {kids = kids2} {siblings = siblings2} l)) once apart others_same s =
        let kl = count_of_key-later k l in
        let ne : row1.key ≡ k → ⊥ = λ i. let o = once k in let w = own_more row1 kids1 (Branch row2 kids2 siblings2) k i in let h = k_in in absurd (omega arith) in
        let ne2 : row2.key ≡ k → ⊥ = λ i. let o = once k in let w = own_more row2 kids2 siblings2 k i in let h = k_in in absurd (omega arith) in
        let z : count_of_key k kids1 ≡ 0 = let o = once k in let h = k_in in omega arith in
        let same : first_key (pruned_at_key k (Branch row2 kids2 siblings2)) ≡ Some row2.key = rw (cut_there k row2 kids2 siblings2 ne2) in
        rw (cut_there k row1 kids1 (Branch row2 kids2 siblings2) ne, cut_absent k kids1 z) (
          others_same row1.key (times_self row1 kids1 (Branch row2 kids2 siblings2)) ne
              (λ i. let o = once row1.key in let w = own_more row1 kids1 (Branch row2 kids2 siblings2) row1.key refl in
              let h = before_in (Some row1.key) row2 kids2 siblings2 row1.key l s.2 i in absurd (omega arith))
              (λ i. let o = once row1.key in let w = own_more row1 kids1 (Branch row2 kids2 siblings2) row1.key refl in
              let h = next_in (Some row1.key) (Branch row2 kids2 siblings2) row1.key (Later_on l) s.2 i in
              let m = a_in row1.key (Branch row2 kids2 siblings2) (Later_on l) in absurd (omega arith))
              ∙ s.0 ∙ ap (λ (o : Option ℕ). Some (record (plain_node_for row1 p q kids1 (Branch row2 kids2 siblings2)) { next = o })) (sym same),
          RepresentsPart-along at new (Some row1.key) None kids1
              (λ x h. others_same x (omega arith)
              (λ i. let h' : 0 < count_of_key k kids1 = rw i at h in absurd (omega arith))
              (λ i. let o = once x in let h' = before_in (Some row1.key) row2 kids2 siblings2 x l s.2 i in absurd (omega arith))
              (λ i. let o = once x in let h' = next_in (Some row1.key) (Branch row2 kids2 siblings2) x (Later_on l) s.2 i in
              let m = a_in x (Branch row2 kids2 siblings2) (Later_on l) in absurd (omega arith)))
              s.1,
          RepresentsPart-pruned_at_key (Branch row2 kids2 siblings2) (Some row1.key) (Later_on l) (λ x. let o = once x in omega arith)
              (λ x i. let o = once x in let w = own_more row1 kids1 (Branch row2 kids2 siblings2) x (some_is i) in omega arith)
              (λ x h. others_same x (omega arith))
              s.2,
        )

-- taking a view out is an edit of its parent's children
pub cut_edit : (k above : ℕ) (row : Row) (kids siblings : Forest Row) {t : Forest Row} → row.key ≡ above → 0 < count_of_key k kids
    → Within (Branch row kids siblings) t → ((x : ℕ) → count_of_key x t ≤ 1) → pruned_at_key k t ≡ edit_kids above (pruned_at_key k) t
cut_edit k above row kids siblings e h here once =
    let ne : row.key ≡ k → ⊥ = λ i. let o = once k in let w = own_more row kids siblings k i in absurd (omega arith) in
    let z : count_of_key k siblings ≡ 0 = let o = once k in omega arith in
    rw (edit_here above (pruned_at_key k) row kids siblings e, cut_there k row kids siblings ne, cut_absent k siblings z)
cut_edit k above row kids siblings e h (in_below {row = row2} {kids = kids2} {siblings = siblings2} w) once =
    let kt = count_of_key-within k w in
    let at = count_of_key-within above w in
    let own = own_more row kids siblings above e in
    let ne : row2.key ≡ k → ⊥ = λ i. let o = once k in let w = own_more row2 kids2 siblings2 k i in absurd (omega arith) in
    let ne' : row2.key ≡ above → ⊥ = λ i. let o = once above in let w = own_more row2 kids2 siblings2 above i in absurd (omega arith) in
    let z : count_of_key k siblings2 ≡ 0 = let o = once k in omega arith in
    let z' : count_of_key above siblings2 ≡ 0 = let o = once above in omega arith in
    rw (cut_there k row2 kids2 siblings2 ne, edit_there above (pruned_at_key k) row2 kids2 siblings2 ne', cut_absent k siblings2 z, edit_absent above (pruned_at_key k) siblings2 z')
    (ap (λ t. Branch row2 t siblings2) (cut_edit k above row kids siblings e h w (λ x. let o = once x in omega arith)))
cut_edit k above row kids siblings e h (in_after {row = row2} {kids = kids2} {siblings = siblings2} w) once =
    let kt = count_of_key-within k w in
    let at = count_of_key-within above w in
    let own = own_more row kids siblings above e in
    let ne : row2.key ≡ k → ⊥ = λ i. let o = once k in let w = own_more row2 kids2 siblings2 k i in absurd (omega arith) in
    let ne' : row2.key ≡ above → ⊥ = λ i. let o = once above in let w = own_more row2 kids2 siblings2 above i in absurd (omega arith) in
    let z : count_of_key k kids2 ≡ 0 = let o = once k in omega arith in
    let z' : count_of_key above kids2 ≡ 0 = let o = once above in omega arith in
    rw (cut_there k row2 kids2 siblings2 ne, edit_there above (pruned_at_key k) row2 kids2 siblings2 ne', cut_absent k kids2 z, edit_absent above (pruned_at_key k) kids2 z')
    (ap (λ t. Branch row2 kids2 t) (cut_edit k above row kids siblings e h w (λ x. let o = once x in omega arith)))

-- what is below a view does not matter once it is taken out
pub pruned_at_key-edit_same : (k : ℕ) (g : Forest Row → Forest Row) (t : Forest Row) → pruned_at_key k (edit_kids k g t) ≡ pruned_at_key k t
pruned_at_key-edit_same k g Nothing = refl
pruned_at_key-edit_same k g (Branch row kids siblings) = elim (cases_eq row.key k) [
  | inl e ↦ rw (edit_here k g row kids siblings e, cut_here k row (g kids) siblings e, cut_here k row kids siblings e)
  | inr ne ↦ rw (edit_there k g row kids siblings ne, cut_there k row (edit_kids k g kids) (edit_kids k g siblings) ne, cut_there k row kids siblings ne, pruned_at_key-edit_same k g kids, pruned_at_key-edit_same k g siblings)
]

-- without a view that has no children there is one less
pub count-cut_leaf : (k : ℕ) (t : Forest Row) → 0 < count_of_key k t → count_of_key k t ≤ 1 → children_of_first (part_from k t) ≡ Nothing → count_of (pruned_at_key k t) + 1 ≡ count_of t
count-cut_leaf k Nothing h once leaf = absurd (omega arith)
count-cut_leaf k (Branch row kids siblings) h once leaf = elim (cases_eq row.key k) [
  | inl e ↦
      let z : kids ≡ Nothing = (rw (eq-eqb row.key k e) at leaf) in
      rw (cut_here k row kids siblings e, z) (omega arith)
  | inr ne ↦
      let h' : 0 < (if row.key == k then 1 else 0) + (count_of_key k kids + count_of_key k siblings) = h in
      let g : 0 < 0 + (count_of_key k kids + count_of_key k siblings) = rw (ne_eqb row.key k ne) at h' in
      elim (cases_eq (count_of_key k kids) 0) [
        | inl z ↦
            let leaf' : children_of_first (part_from k siblings) ≡ Nothing = rw (ne_eqb row.key k ne, absent k kids z) at leaf in
            let i = count-cut_leaf k siblings (omega arith) (omega arith) leaf' in
            rw (cut_there k row kids siblings ne, cut_absent k kids z) (omega arith)
        | inr nz ↦
            let p : 0 < count_of_key k kids = omega arith in
            let f = located k kids p in
            let leaf0 : children_of_first (or_else (part_from k kids) (part_from k siblings)) ≡ Nothing = rw (ne_eqb row.key k ne) at leaf in
            let leaf1 : f.kids ≡ Nothing = rw f.is at leaf0 in
            let i = count-cut_leaf k kids p (omega arith) (rw f.is leaf1) in
            let z : count_of_key k siblings ≡ 0 = omega arith in
            rw (cut_there k row kids siblings ne, cut_absent k siblings z) (omega arith)
      ]
]
