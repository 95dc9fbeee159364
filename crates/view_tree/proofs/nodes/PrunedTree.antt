-- The tree after a view was taken out: all of it.
use Rattle.std.proofs.Common.{◌≡◌, ◌≢◌, ℕ, ◌<◌, ◌≤◌, Option, Some, None, refl, sym, ◌∙◌, ap, subst, arith, inl, inr}
use Rattle.view_model.specs.Forest.{Forest, Nothing, Branch}
use Rattle.view_tree.specs.Rows.{Row, count_of_key, first_key, pruned_at_key, later_siblings, Later_on, At_first, Later}
use Rattle.view_tree.proofs.nodes.ChangedNodes.{changed_not, changed_is, without_not}
use Rattle.view_tree.specs.node.Nodes.{PlainNode, RepresentsPart, RepresentsTree, plain_node_for, replaced_if_none, unlinked, IsAround}
use Rattle.view_tree.proofs.forest.KeyLaws.{count_of_key-within, times_self, located, Located, own_more}
use Rattle.view_tree.proofs.forest.Forests.{RepresentsPart-within, some_is}
use Rattle.view_tree.proofs.nodes.ChildEdits.{edit_kids, RepresentsPart-edit, later_siblings-edit, first_key-edit}
use Rattle.view_tree.proofs.nodes.PrunedPart.{Home, up, count_of_key-later, Beside, RepresentsPart-later, RepresentsPart-pruned_at_key, before_out, before_there, next_there, cut_first, cut_last, cut_edit, cut_here}
use Rattle.view_tree.proofs.forest.NumberLaws.{count_of_key-cut_le, count-cut_le}

-- if the parent and the siblings beside it are apart, what each node holds
pub record Apart (k : ℕ) (n : PlainNode) : Type 0 where
  pub not_k : (x : ℕ) → IsAround n x → x ≢ k
  pub siblings : (x : ℕ) → n.previous ≡ Some x → n.next ≢ Some x
  pub before_parent : (x : ℕ) → n.previous ≡ Some x → n.parent ≢ Some x
  pub next_parent : (x : ℕ) → n.next ≡ Some x → n.parent ≢ Some x

module _ (at new : ℕ → Option PlainNode) (k : ℕ) (n : PlainNode) (eq : (x : ℕ) → new x ≡ unlinked at k n x) (apart : Apart k n) where
  pub before_new : (x : ℕ) (m : PlainNode) → n.previous ≡ Some x → at x ≡ Some m → new x ≡ Some (record m { next = n.next })
  before_new x m e at_x =
      eq x
      ∙ changed_not _ n.parent _ x (apart.before_parent x e)
      ∙ changed_not _ n.next _ x (apart.siblings x e)
      ∙ changed_is _ n.previous _ x m e (without_not at k x (apart.not_k x (inr (inl e))) ∙ at_x)

  pub after_new : (x : ℕ) (m : PlainNode) → n.next ≡ Some x → at x ≡ Some m → new x ≡ Some (record m { previous = n.previous })
  after_new x m e at_x =
      eq x
      ∙ changed_not _ n.parent _ x (apart.next_parent x e)
      ∙ changed_is _ n.next _ x m e (changed_not _ n.previous _ x (λ i. apart.siblings x i e) ∙ without_not at k x (apart.not_k x (inr (inr e))) ∙ at_x)

  pub parent_new : (x : ℕ) (m : PlainNode) → n.parent ≡ Some x → at x ≡ Some m
      → new x ≡ Some (record m { first = replaced_if_none n.previous n.next m.first; last = replaced_if_none n.next n.previous m.last })
  parent_new x m e at_x =
      eq x
      ∙ changed_is _ n.parent _ x m e
      (changed_not _ n.next _ x (λ i. apart.next_parent x i e) ∙ changed_not _ n.previous _ x (λ i. apart.before_parent x i e) ∙ without_not at k x (apart.not_k x (inl e)) ∙ at_x)

  pub others_same : (x : ℕ) → x ≢ k → n.previous ≢ Some x → n.next ≢ Some x → n.parent ≢ Some x → new x ≡ at x
  others_same x ne not_before not_after not_parent =
      eq x
      ∙ changed_not _ n.parent _ x not_parent
      ∙ changed_not _ n.next _ x not_after
      ∙ changed_not _ n.previous _ x not_before
      ∙ without_not at k x ne

-- what is around a view
pub record HasLiveNeighbours (k : ℕ) (n : PlainNode) (t : Forest Row) : Type 0 where
  pub apart : Apart k n
  pub live : (x : ℕ) → IsAround n x → 0 < count_of_key x t

top_only : (row : Row) (kids siblings t : Forest Row) → Later (Branch row kids siblings) t → later_siblings t ≡ Nothing → t ≡ Branch row kids siblings
top_only row kids siblings _ At_first e = refl
top_only row kids siblings _ (Later_on {row = row'} {kids = kids'} {siblings = siblings'} l) e =
    let h = count_of_key-later row.key l in let o = times_self row kids siblings in
    let z : count_of_key row.key siblings' ≡ 0 = ap (count_of_key row.key) e in
    absurd (omega arith)

module _ (at : ℕ → Option PlainNode) (root : Option ℕ) (next : ℕ) (t : Forest Row) (k : ℕ) (n : PlainNode)
    (represents : RepresentsTree at root next t) (live : 0 < count_of_key k t) (says : at k ≡ Some n) where
  abbrev pub f : Located k t
  f = located k t live

  module _ (h : Home (Branch f.row f.kids f.siblings) t) where
    home : RepresentsPart at (Some h.row.key) None h.kids
    home = (RepresentsPart-within at None None h.within represents.represented).represented.1

    once_b : (x : ℕ) → count_of_key x h.kids ≤ 1
    once_b x = let w = count_of_key-within x h.within in let o = represents.distinct x in omega arith

    no_before : (x : ℕ) → None ≡ Some x → count_of_key x h.kids ≡ 0
    no_before x e = absurd (cc)

    pub beside : Beside at (Some h.row.key) (Branch f.row f.kids f.siblings)
    beside = RepresentsPart-later at (Some h.row.key) None h.later home

    pub is_node : n ≡ plain_node_for f.row (Some h.row.key) beside.before f.kids f.siblings
    is_node = some_is (sym says ∙ ap at (sym f.key_is) ∙ beside.represented.0)

    parent_is : n.parent ≡ Some h.row.key
    parent_is = ap (λ (n : PlainNode). n.parent) is_node

    row_out : (x : ℕ) → h.row.key ≡ x → count_of_key x h.kids ≡ 0
    row_out x e = let w = own_more h.row h.kids h.siblings x e in let i = count_of_key-within x h.within in let o = represents.distinct x in omega arith

    k_u : 0 < count_of_key k (Branch f.row f.kids f.siblings)
    k_u = subst (λ k. 0 < count_of_key k (Branch f.row f.kids f.siblings)) f.key_is (times_self f.row f.kids f.siblings)

    pub around : HasLiveNeighbours k n t
    around = record {
      apart = record {
        not_k = λ x i. elim i [
          | inl e ↦ λ j. let z = row_out x (some_is (sym parent_is ∙ e)) in let kh = count_of_key-later k h.later in
              let z' : count_of_key k h.kids ≡ 0 = rw j at z in let ku = k_u in absurd (omega arith)
          | inr i ↦ elim i [
            | inl e ↦ λ j. let z = before_out at (Some h.row.key) k f.row f.kids f.siblings n f.key_is says h.kids None x h.later once_b no_before home e in
                let ku = k_u in
                let z' : count_of_key k (Branch f.row f.kids f.siblings) ≡ 0 = subst (λ x. count_of_key x (Branch f.row f.kids f.siblings) ≡ 0) j z in
                absurd (omega arith)
            | inr e ↦ λ j. let z = next_there at (Some h.row.key) k f.row f.kids f.siblings n f.key_is says h.kids None x h.later home e in
                let w = own_more f.row f.kids f.siblings x (f.key_is ∙ sym j) in let o = once_b x in let l = count_of_key-later x h.later in
                absurd (omega arith)
          ]
        ];
        siblings = λ x e e'.
            let z = before_out at (Some h.row.key) k f.row f.kids f.siblings n f.key_is says h.kids None x h.later once_b no_before home e in
            let y = next_there at (Some h.row.key) k f.row f.kids f.siblings n f.key_is says h.kids None x h.later home e' in
            absurd (omega arith);
        before_parent = λ x e e'.
            let z = row_out x (some_is (sym parent_is ∙ e')) in
            let y = before_there at (Some h.row.key) k f.row f.kids f.siblings n f.key_is says h.kids x h.later home e in
            absurd (omega arith);
        next_parent = λ x e e'.
            let z = row_out x (some_is (sym parent_is ∙ e')) in
            let y = next_there at (Some h.row.key) k f.row f.kids f.siblings n f.key_is says h.kids None x h.later home e in
            let l = count_of_key-later x h.later in
            absurd (omega arith);
      };
      live = λ x i.
          let w = count_of_key-within x h.within in
          elim i [
            | inl e ↦ let o = own_more h.row h.kids h.siblings x (some_is (sym parent_is ∙ e)) in omega arith
            | inr i ↦ elim i [
              | inl e ↦ let y = before_there at (Some h.row.key) k f.row f.kids f.siblings n f.key_is says h.kids x h.later home e in omega arith
              | inr e ↦ let y = next_there at (Some h.row.key) k f.row f.kids f.siblings n f.key_is says h.kids None x h.later home e in
                  let l = count_of_key-later x h.later in omega arith
            ]
          ];
    }

    module _ (new : ℕ → Option PlainNode) (eq : (x : ℕ) → new x ≡ unlinked at k n x) where
      inner : RepresentsPart at (Some h.row.key) None h.kids → RepresentsPart new (Some h.row.key) None (pruned_at_key k h.kids)
      inner s =
          RepresentsPart-pruned_at_key at (Some h.row.key) k f.row f.kids f.siblings n f.key_is says new (before_new at new k n eq around.apart) (after_new at new k n eq around.apart) h.kids None h.later once_b no_before
          (λ x p ne kids siblings. others_same at new k n eq around.apart x ne kids siblings (λ e. let z = row_out x (some_is (sym parent_is ∙ e)) in absurd (omega arith)))
          s

      own : (p q : Option ℕ) → at h.row.key ≡ Some (plain_node_for h.row p q h.kids h.siblings) → new h.row.key ≡ Some (plain_node_for h.row p q (pruned_at_key k h.kids) h.siblings)
      own p q e =
          parent_new at new k n eq around.apart h.row.key (plain_node_for h.row p q h.kids h.siblings) parent_is e
          ∙ rw (cut_first at (Some h.row.key) k f.row f.kids f.siblings n f.key_is says h.kids h.later once_b home, cut_last at (Some h.row.key) k f.row f.kids f.siblings n f.key_is says h.kids None h.later once_b home)

      others : (x : ℕ) → 0 < count_of_key x t → count_of_key x (Branch h.row h.kids Nothing) ≡ 0 → new x ≡ at x
      others x p z =
          others_same at new k n eq around.apart x
          (λ j. let kh = count_of_key-later k h.later in let ku = k_u in
          let z' : count_of_key k (Branch h.row h.kids Nothing) ≡ 0 = subst (λ x. count_of_key x (Branch h.row h.kids Nothing) ≡ 0) j z in absurd (omega arith))
          (λ e. let y = before_there at (Some h.row.key) k f.row f.kids f.siblings n f.key_is says h.kids x h.later home e in absurd (omega arith))
          (λ e. let y = next_there at (Some h.row.key) k f.row f.kids f.siblings n f.key_is says h.kids None x h.later home e in
          let l = count_of_key-later x h.later in absurd (omega arith))
          (λ e. let w = own_more h.row h.kids Nothing x (some_is (sym parent_is ∙ e)) in absurd (omega arith))

      pub home_represents : RepresentsTree new (replaced_if_none n.parent None root) next (pruned_at_key k t)
      home_represents =
          let kh = count_of_key-later k h.later in let ku = k_u in
          let edit : pruned_at_key k t ≡ edit_kids h.row.key (pruned_at_key k) t = cut_edit k h.row.key h.row h.kids h.siblings refl (omega arith) h.within represents.distinct in
          rw parent_is (record {
            outer = ap first_key edit ∙ first_key-edit h.row.key (pruned_at_key k) t ∙ represents.outer;
            single = ap later_siblings edit ∙ later_siblings-edit h.row.key (pruned_at_key k) t represents.single;
            represented = rw edit (RepresentsPart-edit at new h.row.key (pruned_at_key k) h.row h.kids h.siblings refl own inner t None None h.within represents.distinct others represents.represented);
            distinct = λ x. let o = represents.distinct x in omega (arith, count_of_key-cut_le x k t);
            few = let o = represents.few in omega (arith, count-cut_le k t);
          })

  module _ (l : Later (Branch f.row f.kids f.siblings) t) where
    whole : t ≡ Branch f.row f.kids f.siblings
    whole = top_only f.row f.kids f.siblings t l represents.single

    no_more : f.siblings ≡ Nothing
    no_more = ap later_siblings (sym whole) ∙ represents.single

    is_root : n ≡ plain_node_for f.row None None f.kids Nothing
    is_root =
        let s : RepresentsPart at None None (Branch f.row f.kids f.siblings) = subst (λ t. RepresentsPart at None None t) whole represents.represented in
        some_is (sym says ∙ ap at (sym f.key_is) ∙ s.0) ∙ ap (λ siblings. plain_node_for f.row None None f.kids siblings) no_more

    pub around_top : HasLiveNeighbours k n t
    around_top =
        let none_around : (x : ℕ) → IsAround n x → ⊥ = λ x i.
        elim i [
          | inl e ↦ let z : None ≡ Some x = ap (λ (n : PlainNode). n.parent) (sym is_root) ∙ e in cc
          | inr i ↦ elim i [
            | inl e ↦ let z : None ≡ Some x = ap (λ (n : PlainNode). n.previous) (sym is_root) ∙ e in cc
            | inr e ↦ let z : None ≡ Some x = ap (λ (n : PlainNode). n.next) (sym is_root) ∙ e in cc
          ]
        ]
        in
        record {
          apart = record {
            not_k = λ x i. absurd (none_around x i);
            siblings = λ x e. absurd (none_around x (inr (inl e)));
            before_parent = λ x e. absurd (none_around x (inr (inl e)));
            next_parent = λ x e. absurd (none_around x (inr (inr e)));
          };
          live = λ x i. absurd (none_around x i);
        }

    pub top_represents : (new : ℕ → Option PlainNode) → RepresentsTree new (replaced_if_none n.parent None root) next (pruned_at_key k t)
    top_represents new =
        let parent : n.parent ≡ None = ap (λ (n : PlainNode). n.parent) is_root in
        let gone : pruned_at_key k t ≡ Nothing = ap (pruned_at_key k) whole ∙ cut_here k f.row f.kids f.siblings f.key_is ∙ no_more in
        let few = represents.few in
        rw (parent, gone) (record { outer = refl; single = refl; represented = tt; distinct = λ x. omega arith; few = omega arith })

  pub gone_around : HasLiveNeighbours k n t
  gone_around = elim (up f.within) [ inl l ↦ around_top l | inr h ↦ around h ]

  pub gone_represents : (new : ℕ → Option PlainNode) → ((x : ℕ) → new x ≡ unlinked at k n x) → RepresentsTree new (replaced_if_none n.parent None root) next (pruned_at_key k t)
  gone_represents new eq = elim (up f.within) [ inl l ↦ top_represents l new | inr h ↦ home_represents h new eq ]
