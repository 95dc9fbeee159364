-- What the node of a live view holds.
use Rattle.std.proofs.Common.{◌≡◌, arith, ℕ, ◌<◌, ◌^◌, zero, suc, Option, Some, None, List, [], ◌∷◌, refl, sym, ◌∙◌, ap, subst, map}
use Rattle.std.specs.Prelude.{slice_index_or, IfSome, nat_eq}
use Rattle.indexmap.specs.IndexMap.{get as get_key}
use Rattle.slab.specs.Slab.{get, ContainsKey}
use Rattle.slab_link.specs.Numbers.{links_end}
use Rattle.view_model.specs.Forest.{Forest}
use Rattle.view_model.specs.PlainTree.{PlainView}
use Rattle.view_tree.specs.Rows.{Row, head_view, part_from, children_of_first, later_siblings, first_key, last_key, previous_key}
use Rattle.view_tree.specs.node.Nodes.{PlainNode, plain_node_in, plain_node_of, plain_node_at, held_by, held_in, view_of_node, RepresentsTree, plain_node_for, value_of, IsPlanted, holders_of}
use Rattle.view_tree.specs.Views.{Views, Held, IsLive, IsTree, held_of, held_or, facts_of, offset_of}
use Rattle.view_tree.specs.declared.node.Node.{Node}
use Rattle.view_tree.specs.declared.tree.ViewTree.TheInside.{Inside}
use Rattle.view_tree.proofs.forest.KeyLaws.{here, Located}
use Rattle.view_tree.proofs.forest.Forests.{part, IsRestFrom, Within-children_of_first, Within-later_siblings, seen, some_is}
use Rattle.view_tree.proofs.forest.AncestorLaws.{Up, up_is}
use Rattle.view_tree.proofs.forest.SiblingLaws.{previous_is, previous_live, last_live}

-- a node that holds this
pub record Says (o : Option Node) (x : PlainNode) : Type 0 where
  pub node : Node
  pub at : o ≡ Some node
  pub all : plain_node_of node ≡ x

pub says : (o : Option Node) (x : PlainNode) → plain_node_in o ≡ Some x → Says o x
says None x h = absurd (cc)
says (Some n) x h = record { node = n; at = refl; all = some_is h }

-- the node of a live view
pub record NodeOf (a : Inside) (k : ℕ) (t : Forest Row) : Type 0 where
  pub found : Located k t
  pub parent : Option ℕ
  pub before : Option ℕ
  pub says : Says (get a.nodes k) (plain_node_for found.row parent before found.kids found.siblings)

pub represents_for : (a : Inside) (v : Views) → IsPlanted a → value_of a ≡ v → RepresentsTree (plain_node_at a.nodes) a.root a.next v.tree
represents_for a v sound e = subst (λ (v : Views). RepresentsTree (plain_node_at a.nodes) a.root a.next v.tree) e sound.represents

pub node_of : (a : Inside) (v : Views) (k : ℕ) → IsPlanted a → value_of a ≡ v → IsLive v k → NodeOf a k v.tree
node_of a v k sound e live =
    let s = seen (plain_node_at a.nodes) k None None v.tree (represents_for a v sound e).represented live in
    record { found = s.found; parent = s.parent; before = s.before; says = says (get a.nodes k) _ s.is }

-- so its key is in the slab
pub contains_live : (a : Inside) (v : Views) (k : ℕ) → IsPlanted a → value_of a ≡ v → IsLive v k → ContainsKey a.nodes k
contains_live a v k sound e live = rw (node_of a v k sound e live).says.at

-- what the node under the key of a live view holds
pub record NodeSays (n : Node) (k : ℕ) (t : Forest Row) : Type 0 where
  pub found : Located k t
  pub parent : Option ℕ
  pub before : Option ℕ
  pub all : plain_node_of n ≡ plain_node_for found.row parent before found.kids found.siblings

pub node_says : (a : Inside) (v : Views) (k : ℕ) → IsPlanted a → value_of a ≡ v → IsLive v k → (n : Node) → get a.nodes k ≡ Some n → NodeSays n k v.tree
node_says a v k sound e live n at =
    let o = node_of a v k sound e live in
    let same : n ≡ o.says.node = some_is (sym at ∙ o.says.at) in
    record { found = o.found; parent = o.parent; before = o.before; all = ap plain_node_of same ∙ o.says.all }

-- what every tree keeps
pub is_tree : (a : Inside) (v : Views) → IsPlanted a → value_of a ≡ v → IsTree v
is_tree a v sound e = subst IsTree e sound.kept

-- the table of ids, and how large keys are
pub named_for : (a : Inside) (v : Views) → IsPlanted a → value_of a ≡ v → (id : ℕ) → get_key nat_eq a.ids id ≡ holders_of id v.tree
named_for a v sound e id = sound.named id ∙ ap (λ (v : Views). holders_of id v.tree) e

pub link_for : (a : Inside) (v : Views) → IsPlanted a → value_of a ≡ v → (key : ℕ) → IsLive v key → key < links_end
link_for a v sound e = subst (λ (v : Views). (key : ℕ) → IsLive v key → key < links_end) e sound.small

pub small_for : (a : Inside) (v : Views) → IsPlanted a → value_of a ≡ v → (key : ℕ) → IsLive v key → key < 2 ^ 64
small_for a v sound e key live = omega (arith, link_for a v sound e key live)

-- what is kept under a key is what its node keeps
pub held_is : (slots : List (Option Node)) (k : ℕ) → slice_index_or (map held_in slots) k None ≡ held_in (slice_index_or slots k None)
held_is [] k = refl
held_is (o ∷ slots) zero = refl
held_is (o ∷ slots) (suc k) = held_is slots k

pub held_view : (a : Inside) (k : ℕ) → held_of (value_of a) k ≡ held_or (held_in (get a.nodes k))
held_view a k = ap held_or (held_is a.nodes.slots k)

pub held_at : (a : Inside) (v : Views) (k : ℕ) (n : Node) → value_of a ≡ v → get a.nodes k ≡ Some n → held_of v k ≡ held_by n
held_at a v k n e at =
    ap (λ (v : Views). held_of v k) (sym e) ∙ held_view a k ∙ ap (λ (o : Option Node). held_or (held_in o)) at

-- the view of a node
pub view_is : (a : Inside) (v : Views) (k : ℕ) → IsPlanted a → value_of a ≡ v → IsLive v k → (n : Node) → get a.nodes k ≡ Some n
    → view_of_node n ≡ head_view (part_from k v.tree)
view_is a v k sound e live n at =
    let o = node_says a v k sound e live n at in
    rw o.found.is (ap (λ (s : PlainNode). s.view) o.all)

pub facts_is : (a : Inside) (v : Views) (k : ℕ) → IsPlanted a → value_of a ≡ v → IsLive v k → (n : Node) → get a.nodes k ≡ Some n → n.facts ≡ facts_of v k
facts_is a v k sound e live n at =
    let off : offset_of v k ≡ n.facts.offset = ap (λ (h : Held). h.offset) (held_at a v k n e at) in
    let one : n.facts ≡ record (head_view (part_from k v.tree)).facts { offset = n.facts.offset } =
    ap (λ (w : PlainView). record w.facts { offset = n.facts.offset }) (view_is a v k sound e live n at) in
    one ∙ ap (λ x. record (head_view (part_from k v.tree)).facts { offset = x }) (sym off)

-- the children of a view
pub first_is : (a : Inside) (v : Views) (k : ℕ) → IsPlanted a → value_of a ≡ v → IsLive v k → (n : Node) → get a.nodes k ≡ Some n
    → (n.links.first ≡ first_key (children_of_first (part_from k v.tree))) × IsRestFrom n.links.first v.tree (children_of_first (part_from k v.tree))
first_is a v k sound e live n at =
    let o = node_says a v k sound e live n at in
    let h : n.links.first ≡ first_key o.found.kids = ap (λ (s : PlainNode). s.first) o.all in
    rw o.found.is (h, subst (λ x. IsRestFrom x v.tree o.found.kids) (sym h) (part v.tree (is_tree a v sound e).keys o.found.kids (Within-children_of_first o.found.within)))

pub last_is : (a : Inside) (v : Views) (k : ℕ) → IsPlanted a → value_of a ≡ v → IsLive v k → (n : Node) → get a.nodes k ≡ Some n
    → n.links.last ≡ last_key (children_of_first (part_from k v.tree))
last_is a v k sound e live n at =
    let o = node_says a v k sound e live n at in
    rw o.found.is (ap (λ (s : PlainNode). s.last) o.all)

-- its later siblings
pub next_is : (a : Inside) (v : Views) (k : ℕ) → IsPlanted a → value_of a ≡ v → IsLive v k → (n : Node) → get a.nodes k ≡ Some n
    → (n.links.next ≡ first_key (later_siblings (part_from k v.tree))) × IsRestFrom n.links.next v.tree (later_siblings (part_from k v.tree))
next_is a v k sound e live n at =
    let o = node_says a v k sound e live n at in
    let h : n.links.next ≡ first_key o.found.siblings = ap (λ (s : PlainNode). s.next) o.all in
    rw o.found.is (h, subst (λ x. IsRestFrom x v.tree o.found.siblings) (sym h) (part v.tree (is_tree a v sound e).keys o.found.siblings (Within-later_siblings o.found.within)))

-- the parent of a view
pub parent_of : (a : Inside) (v : Views) (k : ℕ) → IsPlanted a → value_of a ≡ v → IsLive v k → (n : Node) → get a.nodes k ≡ Some n → Up n.links.parent k v.tree
parent_of a v k sound e live n at = up_is (plain_node_at a.nodes) a.root a.next v.tree k _ (represents_for a v sound e) live (ap plain_node_in at)

-- the root
pub root_is : (a : Inside) (v : Views) → IsPlanted a → value_of a ≡ v → (a.root ≡ first_key v.tree) × IsRestFrom a.root v.tree v.tree
root_is a v sound e =
    let s = represents_for a v sound e in
    (sym s.outer, subst (λ o. IsRestFrom o v.tree v.tree) s.outer (part v.tree s.distinct v.tree here))

-- the sibling before a view
pub previous_of : (a : Inside) (v : Views) (k : ℕ) → IsPlanted a → value_of a ≡ v → IsLive v k → (n : Node) → get a.nodes k ≡ Some n
    → (n.links.previous ≡ previous_key None k v.tree) × IfSome n.links.previous (λ x. IsLive v x)
previous_of a v k sound e live n at =
    let s = represents_for a v sound e in
    (previous_is (plain_node_at a.nodes) k _ (ap plain_node_in at) v.tree None None s.represented live, previous_live (plain_node_at a.nodes) a.root a.next v.tree k _ s live (ap plain_node_in at))

pub last_of : (a : Inside) (v : Views) (k : ℕ) → IsPlanted a → value_of a ≡ v → IsLive v k → (n : Node) → get a.nodes k ≡ Some n → IfSome n.links.last (λ x. IsLive v x)
last_of a v k sound e live n at = last_live (plain_node_at a.nodes) a.root a.next v.tree k _ (represents_for a v sound e) live (ap plain_node_in at)
