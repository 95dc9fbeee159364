-- What the nodes that represent a forest hold about it.
use Rattle.std.proofs.Common.{◌≡◌, ℕ, zero, suc, ◌<◌, ◌≤◌, Option, Some, None, refl, sym, ◌∙◌, ap, arith}
use Rattle.std.specs.Prelude.{IfSome}
use Rattle.view_model.specs.Forest.{Forest, Nothing, Branch, count_of}
use Rattle.view_tree.specs.Rows.{Row, count_of_key, part_from, children_of_first, later_siblings, first_tree, first_key, rest_from}
use Rattle.view_tree.specs.node.Nodes.{PlainNode, RepresentsPart, forest, branch_at, RepresentsTree, plain_node_for}
use Rattle.view_tree.proofs.forest.KeyLaws.{Within, here, in_below, in_after, Located, located, from_within, count_of_key-within, times_self}

pub some_is : {A : Type 0} {x y : A} → Some x ≡ Some y → x ≡ y
some_is e = cc

-- enough fuel gives the forest that the nodes represent
pub forest_is : (n : ℕ) (at : ℕ → Option PlainNode) (p q : Option ℕ) (t : Forest Row) → RepresentsPart at p q t → count_of t < n → forest n at (first_key t) ≡ t
unfolding forest
forest_is zero at p q t s few = absurd (omega arith)
forest_is (suc n) at p q Nothing s few = refl
forest_is (suc n) at p q (Branch row kids siblings) s few =
    ap (λ o. branch_at row.key o (forest n at)) s.0
    ∙ ap (λ t. Branch row t (forest n at (first_key siblings))) (forest_is n at (Some row.key) None kids s.1 (omega arith))
    ∙ ap (λ t. Branch row kids t) (forest_is n at p (Some row.key) siblings s.2 (omega arith))

-- a part is represented too
pub record WasRepresented (at : ℕ → Option PlainNode) (u : Forest Row) : Type 0 where
  pub parent : Option ℕ
  pub before : Option ℕ
  pub represented : RepresentsPart at parent before u

pub RepresentsPart-within : {u t : Forest Row} (at : ℕ → Option PlainNode) (p q : Option ℕ) → Within u t → RepresentsPart at p q t → WasRepresented at u
RepresentsPart-within at p q here s = record { parent = p; before = q; represented = s }
RepresentsPart-within at p q (in_below {row} w) s = RepresentsPart-within at (Some row.key) None w s.1
RepresentsPart-within at p q (in_after {row} w) s = RepresentsPart-within at p (Some row.key) w s.2

pub count-within : {u t : Forest Row} → Within u t → count_of u ≤ count_of t
count-within here = omega arith
count-within (in_below w) = let h = count-within w in omega arith
count-within (in_after w) = let h = count-within w in omega arith

pub Within-children_of_first : {row : Row} {kids siblings t : Forest Row} → Within (Branch row kids siblings) t → Within kids t
Within-children_of_first here = in_below here
Within-children_of_first (in_below w) = in_below (Within-children_of_first w)
Within-children_of_first (in_after w) = in_after (Within-children_of_first w)

pub Within-later_siblings : {row : Row} {kids siblings t : Forest Row} → Within (Branch row kids siblings) t → Within siblings t
Within-later_siblings here = in_after here
Within-later_siblings (in_below w) = in_below (Within-later_siblings w)
Within-later_siblings (in_after w) = in_after (Within-later_siblings w)

-- the forest that the nodes give is the one that they represent
pub tree_is : (at : ℕ → Option PlainNode) (root : Option ℕ) (next : ℕ) (t : Forest Row) → RepresentsTree at root next t → forest next at root ≡ t
tree_is at root next t s = ap (forest next at) (sym s.outer) ∙ forest_is next at None None t s.represented s.few

-- what the node of a view holds
pub record Seen (at : ℕ → Option PlainNode) (k : ℕ) (t : Forest Row) : Type 0 where
  pub found : Located k t
  pub parent : Option ℕ
  pub before : Option ℕ
  pub is : at k ≡ Some (plain_node_for found.row parent before found.kids found.siblings)

pub seen : (at : ℕ → Option PlainNode) (k : ℕ) (p q : Option ℕ) (t : Forest Row) → RepresentsPart at p q t → 0 < count_of_key k t → Seen at k t
seen at k p q t s h =
    let f = located k t h in
    let w = RepresentsPart-within at p q f.within s in
    record { found = f; parent = w.parent; before = w.before; is = ap at (sym f.key_is) ∙ w.represented.0 }

-- the part that begins at the first view of a part
pub record IsRestFrom (o : Option ℕ) (t u : Forest Row) : Type 0 where
  pub is : rest_from o t ≡ u
  pub live : IfSome o (λ k. 0 < count_of_key k t)

pub part : (t : Forest Row) → ((k : ℕ) → count_of_key k t ≤ 1) → (u : Forest Row) → Within u t → IsRestFrom (first_key u) t u
part t once Nothing w = record { is = refl; live = tt }
part t once (Branch row kids siblings) w =
    let n = count_of_key-within row.key w in
    record { is = from_within row kids siblings w (once row.key); live = omega (arith, times_self row kids siblings) }

-- what a view and those below it, or its later siblings, count
pub live_below : (k : ℕ) (t : Forest Row) → 0 < count_of_key k t → count_of (children_of_first (part_from k t)) < count_of (first_tree (part_from k t))
live_below k t h = rw (located k t h).is (omega arith)

pub live_after : (k : ℕ) (t : Forest Row) → 0 < count_of_key k t → count_of (later_siblings (part_from k t)) < count_of (part_from k t)
live_after k t h = rw (located k t h).is (omega arith)

pub count_alone : (t : Forest Row) → count_of (first_tree t) ≤ count_of t
count_alone Nothing = omega arith
count_alone (Branch row kids siblings) = omega arith

pub times_from : (k q : ℕ) (t : Forest Row) → 0 < count_of_key k t → count_of_key q (part_from k t) ≤ count_of_key q t
times_from k q t h = let f = located k t h in rw f.is (count_of_key-within q f.within)
