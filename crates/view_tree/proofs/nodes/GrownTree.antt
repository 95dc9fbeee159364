-- The tree after a view was added as the last child of another.
use Rattle.std.proofs.Common.{◌≡◌, ◌≢◌, ℕ, ◌+◌, ◌<◌, ◌≤◌, true, false, Option, Some, None, refl, sym, ◌∙◌, ap, subst, arith, inl, inr}
use Rattle.std.proofs.lemmas.Bool.{ne_eqb, cases_eq}
use Rattle.std.specs.Prelude.{◌==◌, if◌then◌else◌}
use Rattle.view_model.specs.Forest.{Forest, Nothing, Branch, joined}
use Rattle.view_model.specs.Layout.{unscrolled}
use Rattle.view_model.specs.PlainTree.{PlainView}
use Rattle.view_tree.specs.Rows.{Row, count_of_key, first_key, last_key_or, last_key, grown_at_key, leaf, later_siblings}
use Rattle.view_tree.specs.node.Nodes.{PlainNode, RepresentsPart, RepresentsTree, plain_node_for, linked, key_or, last_child, last_named, changed_at, with_node}
use Rattle.view_tree.proofs.forest.KeyLaws.{count_of_key-within, own_more, times_self, zero_or_more}
use Rattle.view_tree.proofs.forest.NumberLaws.{count_of_key-grown, count-grown}
use Rattle.view_tree.proofs.forest.Forests.{Seen, seen, some_is}
use Rattle.view_tree.proofs.nodes.ChildEdits.{edit_kids, RepresentsPart-along, RepresentsPart-edit, first_key-edit, later_siblings-edit, grown_edit}
use Rattle.view_tree.proofs.forest.SiblingLaws.{last_in, last_there}
use Rattle.view_tree.proofs.nodes.ChangedNodes.{changed_not, changed_is, with_node_not, with_node_is}

first-join : (kids : Forest Row) (key : ℕ) (view : PlainView) → key_or (first_key kids) key ≡ first_key (joined kids (leaf key view))
first-join Nothing key view = refl
first-join (Branch row kids siblings) key view = refl

last-join : (q : Option ℕ) (kids : Forest Row) (key : ℕ) (view : PlainView) → last_key_or q (joined kids (leaf key view)) ≡ Some key
last-join q Nothing key view = refl
last-join q (Branch row kids siblings) key view = last-join (Some row.key) siblings key view

-- a list of siblings with one more at its end
RepresentsPart-join : (at new : ℕ → Option PlainNode) (above key : ℕ) (view : PlainView) (q : Option ℕ) (kids : Forest Row)
    → new key ≡ Some (record { view = unscrolled view; parent = Some above; first = None; last = None; previous = last_key_or q kids; next = None })
    → ((l : ℕ) (m : PlainNode) → last_key_or q kids ≡ Some l → at l ≡ Some m → new l ≡ Some (record m { next = Some key }))
    → ((x : ℕ) → 0 < count_of_key x kids → last_key_or q kids ≢ Some x → new x ≡ at x)
    → ((x : ℕ) → count_of_key x kids ≤ 1)
    → RepresentsPart at (Some above) q kids → RepresentsPart new (Some above) q (joined kids (leaf key view))
RepresentsPart-join at new above key view q Nothing made last others once s = (made, tt, tt)
RepresentsPart-join at new above key view q (Branch row kids Nothing) made last others once s = (
  last row.key _ refl s.0,
  RepresentsPart-along at new (Some row.key) None kids (λ x h. others x (omega arith) (λ e. let o = once x in let n = own_more row kids Nothing x (some_is e) in absurd (omega arith))) s.1,
  (made, tt, tt),
)
RepresentsPart-join at new above key view q (Branch row kids (Branch row' kids' siblings')) made last others once s = (
  others row.key (times_self row kids (Branch row' kids' siblings')) (λ e. let p = last_in (Some row.key) row' kids' siblings' row.key e in
      let o = once row.key in let n = own_more row kids (Branch row' kids' siblings') row.key refl in absurd (omega arith)) ∙ s.0,
  RepresentsPart-along at new (Some row.key) None kids (λ x h. others x (omega arith) (λ e. let p = last_in (Some row.key) row' kids' siblings' x e in
      let o = once x in absurd (omega arith))) s.1,
  RepresentsPart-join at new above key view (Some row.key) (Branch row' kids' siblings') made last (λ x h ne. others x (omega arith) ne) (λ x. let o = once x in omega arith) s.2,
)

leaf_once : (x key : ℕ) (view : PlainView) → count_of_key x (leaf key view) ≤ 1
leaf_once x key view = elim (key == x) as (λ v. (if v then 1 else 0) + 0 ≤ 1) [ true ↦ omega arith | false ↦ omega arith ]

last_out : (row : Row) (kids : Forest Row) (x : ℕ) → last_key kids ≡ Some x → count_of_key x (Branch row kids Nothing) ≡ 0 → ⊥
last_out row Nothing x e z = cc
last_out row (Branch row' kids' siblings') x e z = let p = last_in None row' kids' siblings' x e in omega arith

-- a key without a node is that of no view
pub vacant_unused : (at : ℕ → Option PlainNode) (key : ℕ) (t : Forest Row) (p q : Option ℕ) → RepresentsPart at p q t → at key ≡ None → count_of_key key t ≡ 0
vacant_unused at key t p q represented vacant = elim (zero_or_more (count_of_key key t)) [
  | inl z ↦ z
  | inr live ↦ let s = seen at key p q t represented live in absurd (let e = s.is in cc)
]

module _ (at new : ℕ → Option PlainNode) (root : Option ℕ) (next : ℕ) (t : Forest Row) (above key : ℕ) (view : PlainView)
    (represents : RepresentsTree at root next t) (live : 0 < count_of_key above t) (vacant : at key ≡ None)
    (becomes : (x : ℕ) → new x ≡ linked at (Some above) key view (last_child at (Some above)) x) where
  there : Seen at above t
  there = seen at above None None t represents.represented live

  abbrev kids : Forest Row
  kids = there.found.kids

  abbrev node : PlainNode
  node = plain_node_for there.found.row there.parent there.before there.found.kids there.found.siblings

  -- no view has the new key
  key_unused : count_of_key key t ≡ 0
  key_unused = vacant_unused at key t None None represents.represented vacant

  in_t : (x : ℕ) → count_of_key x (Branch there.found.row kids there.found.siblings) ≤ count_of_key x t
  in_t x = count_of_key-within x there.found.within

  above_not_key : above ≢ key
  above_not_key e = let n : Some node ≡ None = sym there.is ∙ ap at e ∙ vacant in cc

  last_not_key : last_key kids ≢ Some key
  last_not_key e = let p = last_there kids key e in let i = in_t key in let z = key_unused in omega arith

  last_not_above : last_key kids ≢ Some above
  last_not_above e =
      let p = last_there kids above e in let i = in_t above in let o = represents.distinct above in
      let w = own_more there.found.row kids there.found.siblings above there.found.key_is in omega arith

  becomes_hung : (x : ℕ) → new x ≡ linked at (Some above) key view (last_key kids) x
  becomes_hung x = becomes x ∙ ap (λ o. linked at (Some above) key view o x) (ap last_named there.is)

  -- the new node, what comes after the last child, and what the parent becomes
  abbrev own_node : PlainNode
  own_node = record { view = unscrolled view; parent = Some above; first = None; last = None; previous = last_key kids; next = None }

  abbrev following : PlainNode → PlainNode
  following n = record n { next = Some key }

  abbrev ended : PlainNode → PlainNode
  ended n = record n { first = key_or n.first key; last = Some key }

  abbrev one : ℕ → Option PlainNode
  one = with_node at key own_node

  abbrev two : ℕ → Option PlainNode
  two = changed_at one (last_key kids) following

  made : new key ≡ Some own_node
  made =
      becomes_hung key
      ∙ changed_not two (Some above) ended key (λ e. above_not_key (some_is e))
      ∙ changed_not one (last_key kids) following key last_not_key
      ∙ with_node_is at key own_node

  parent : new above ≡ Some (ended node)
  parent =
      becomes_hung above
      ∙ changed_is two (Some above) ended above node refl
      (changed_not one (last_key kids) following above last_not_above ∙ with_node_not at key own_node above above_not_key ∙ there.is)

  last : (l : ℕ) (m : PlainNode) → last_key kids ≡ Some l → at l ≡ Some m → new l ≡ Some (following m)
  last l m e at_l =
      becomes_hung l
      ∙ changed_not two (Some above) ended l (λ i. last_not_above (e ∙ sym i))
      ∙ changed_is one (last_key kids) following l m e (with_node_not at key own_node l (λ i. last_not_key (e ∙ ap (λ k. Some k) i)) ∙ at_l)

  apart : (x : ℕ) → x ≢ key → x ≢ above → last_key kids ≢ Some x → new x ≡ at x
  apart x not_key not_above not_last =
      becomes_hung x
      ∙ changed_not two (Some above) ended x (λ i. not_above (sym (some_is i)))
      ∙ changed_not one (last_key kids) following x not_last
      ∙ with_node_not at key own_node x not_key

  own : (p q : Option ℕ) → at above ≡ Some (plain_node_for there.found.row p q kids there.found.siblings)
      → new above ≡ Some (plain_node_for there.found.row p q (joined kids (leaf key view)) there.found.siblings)
  own p q e =
      let same = some_is (sym there.is ∙ e) in
      parent ∙ rw (first-join kids key view, last-join None kids key view) (ap (λ (n : PlainNode). Some (record n { first = first_key (joined kids (leaf key view)); last = Some key })) same)

  inner : RepresentsPart at (Some above) None kids → RepresentsPart new (Some above) None (joined kids (leaf key view))
  inner s =
      RepresentsPart-join at new above key view None kids made last
      (λ x p ne. apart x
      (λ e. let z = key_unused in let i = in_t key in let p' : 0 < count_of_key key kids = rw e at p in absurd (omega arith))
      (λ e. let o = represents.distinct above in let i = in_t above in let p' : 0 < count_of_key above kids = rw e at p in
      let w = own_more there.found.row kids there.found.siblings above there.found.key_is in absurd (omega arith))
      ne)
      (λ x. let o = represents.distinct x in let i = in_t x in omega arith)
      s

  others : (x : ℕ) → 0 < count_of_key x t → count_of_key x (Branch there.found.row kids Nothing) ≡ 0 → new x ≡ at x
  others x p z =
      apart x
      (λ e. let k = key_unused in let p' : 0 < count_of_key key t = rw e at p in absurd (omega arith))
      (λ e. let w = own_more there.found.row kids Nothing above there.found.key_is in
      let z' : count_of_key above (Branch there.found.row kids Nothing) ≡ 0 = subst (λ x. count_of_key x (Branch there.found.row kids Nothing) ≡ 0) e z in
      absurd (omega arith))
      (λ e. last_out there.found.row kids x e z)

  pub grown_represents : RepresentsTree new root (next + 1) (grown_at_key above (leaf key view) t)
  grown_represents =
      let edit : grown_at_key above (leaf key view) t ≡ edit_kids above (λ kids. joined kids (leaf key view)) t = grown_edit above (leaf key view) t in
      record {
        outer = ap first_key edit ∙ first_key-edit above (λ kids. joined kids (leaf key view)) t ∙ represents.outer;
        single = ap later_siblings edit ∙ later_siblings-edit above (λ kids. joined kids (leaf key view)) t represents.single;
        represented = rw edit (RepresentsPart-edit at new above (λ kids. joined kids (leaf key view)) there.found.row kids there.found.siblings there.found.key_is own inner t None None there.found.within represents.distinct others represents.represented);
        distinct = λ x.
            let e = count_of_key-grown x above (leaf key view) t live (represents.distinct above) in
            let o = represents.distinct x in
            elim (cases_eq key x) [
              | inl same ↦ let z : count_of_key x t ≡ 0 = subst (λ x. count_of_key x t ≡ 0) same key_unused in let one = leaf_once x key view in omega arith
              | inr ne ↦ let other : count_of_key x (leaf key view) ≡ 0 = rw (ne_eqb key x ne) in omega arith
            ];
        few = let e = count-grown above (leaf key view) t live (represents.distinct above) in let f = represents.few in omega arith;
      }

-- the tree after its root was added
pub root_represents : (at new : ℕ → Option PlainNode) (next key : ℕ) (view : PlainView) → 0 < next → ((x : ℕ) → new x ≡ linked at None key view None x)
    → RepresentsTree new (Some key) (next + 1) (leaf key view)
root_represents at new next key view some becomes = record {
  outer = refl;
  single = refl;
  represented = (becomes key ∙ with_node_is at key _, tt, tt);
  distinct = λ x. leaf_once x key view;
  few = omega arith;
}
