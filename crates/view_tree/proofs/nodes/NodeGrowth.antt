-- The fields of a tree after a view was added.
use Rattle.std.proofs.Common.{◌≡◌, ◌≢◌, ℕ, ◌+◌, ◌<◌, Option, Some, None, refl, sym, ◌∙◌, ap, subst, arith, inl, inr}
use Rattle.std.proofs.lemmas.Bool.{cases_eq}
use Rattle.std.specs.Prelude.{◌==◌, IfSome, if◌then◌else◌, map, nat_eq}
use Rattle.std.specs.Option.{option_map}
use Rattle.indexmap.specs.IndexMap.{get as get_key}
use Rattle.slab.specs.Slab.{Slab, get, slab_len, ContainsKey}
use Rattle.slab_link.specs.Numbers.{links_end}
use Rattle.view_model.specs.Direction.{dir}
use Rattle.view_model.specs.Forest.{Forest, Nothing, count_of}
use Rattle.view_model.specs.Growth.{refusal_at}
use Rattle.view_model.specs.PlainTree.{PlainView}
use Rattle.view_tree.specs.tree.Attached.{Attached}
use Rattle.view_tree.specs.tree.Directions.{is_rtl_at}
use Rattle.view_tree.specs.table.Holders.{noted}
use Rattle.sibling_orders.specs.Ordering.{orders_in}
use Rattle.view_tree.specs.Rows.{Row, head_view, key_where, leaf, count_of_key, with_child}
use Rattle.view_tree.specs.node.Nodes.{PlainNode, plain_node_in, plain_node_at, held_in, linked, replaced_if_none, forest, last_child, last_named, node_runs, runs_at, RepresentsTree, tree_of, value_of, IsPlanted, holders_of}
use Rattle.view_tree.specs.Views.{Views, Held, IsLive, IsTree, fresh_held, held_of, held_or, number_of, plain_of, plain_rows}
use Rattle.view_tree.specs.declared.node.Node.{Node}
use Rattle.view_tree.specs.declared.tree.ViewTree.TheInside.{Inside}
use Rattle.view_tree.proofs.forest.Forests.{seen, some_is, tree_is}
use Rattle.view_tree.proofs.forest.SiblingLaws.{last_live}
use Rattle.view_tree.proofs.nodes.GrownTree.{grown_represents, root_represents, vacant_unused}
use Rattle.view_tree.proofs.forest.IdLaws.{holders_of-with_child}
use Rattle.view_tree.proofs.values.KeptLaws.{is_tree-with_child}
use Rattle.view_tree.proofs.nodes.NodeReads.{contains_live, held_view, is_tree, link_for, named_for, represents_for}
use Rattle.view_tree.proofs.forest.NumberLaws.{count-with_child, count_of_key-leaf_other, count_of_key-with_child}
use Rattle.view_tree.proofs.forest.PlainLaws.{plain-with_child}
use Rattle.view_tree.proofs.forest.SearchLaws.{search_new}

-- the parent of a new view is there, and so is its last child
-- a link may name a parent
pub parent_linked : (a : Inside) (v : Views) (parent : Option ℕ) → IsPlanted a → value_of a ≡ v → IfSome parent (λ parent. IsLive v parent)
    → IfSome parent (λ parent. parent < links_end)
parent_linked a v None sound e live = live
parent_linked a v (Some k) sound e live = link_for a v sound e k live

pub parent_there : (a : Inside) (v : Views) (parent : Option ℕ) → IsPlanted a → value_of a ≡ v → IfSome parent (λ parent. IsLive v parent) → (k : ℕ)
    → parent ≡ Some k → ContainsKey a.nodes k
parent_there a v parent sound e live k is = contains_live a v k sound e (rw is at live)

if_some_at : (o : Option ℕ) (P : ℕ → Type 0) (k : ℕ) → o ≡ Some k → IfSome o P → P k
if_some_at None P k is h = absurd (cc)
if_some_at (Some x) P k is h = subst P (some_is is) h

last_there_at : (a : Inside) (v : Views) (k l : ℕ) (o : Option PlainNode) → IsPlanted a → value_of a ≡ v → IsLive v k → plain_node_at a.nodes k ≡ o → last_named o ≡ Some l
    → IsLive v l
last_there_at a v k l None sound e live says is = absurd (cc)
last_there_at a v k l (Some n) sound e live says is =
    if_some_at n.last (λ x. IsLive v x) l is (last_live (plain_node_at a.nodes) a.root a.next v.tree k n (represents_for a v sound e) live says)

pub last_child_there : (a : Inside) (v : Views) (parent : Option ℕ) → IsPlanted a → value_of a ≡ v → IfSome parent (λ parent. IsLive v parent)
    → (l : ℕ) → last_child (plain_node_at a.nodes) parent ≡ Some l → ContainsKey a.nodes l
last_child_there a v None sound e live l is = absurd (cc)
last_child_there a v (Some parent) sound e live l is = contains_live a v l sound e (last_there_at a v parent l _ sound e live refl is)

-- whether a parent runs from right to left
pub runs_is : (a : Inside) (v : Views) (parent : Option ℕ) → IsPlanted a → value_of a ≡ v → IfSome parent (λ parent. IsLive v parent)
    → runs_at (plain_node_at a.nodes) parent ≡ is_rtl_at parent v.tree
runs_is a v None sound e live = refl
runs_is a v (Some k) sound e live =
    let s = seen (plain_node_at a.nodes) k None None v.tree (represents_for a v sound e).represented live in
    ap node_runs s.is ∙ sym (ap (λ part. (head_view part).facts.rtl) s.found.is)

-- the nodes represent the tree with the view
pub represents-with_child : (at new : ℕ → Option PlainNode) (root : Option ℕ) (next : ℕ) (t : Forest Row) (parent : Option ℕ) (key : ℕ) (view : PlainView)
    → RepresentsTree at root next t → IfSome parent (λ parent. 0 < count_of_key parent t) → (parent ≡ None → t ≡ Nothing) → at key ≡ None
    → ((x : ℕ) → new x ≡ linked at parent key view (last_child at parent) x)
    → RepresentsTree new (replaced_if_none parent (Some key) root) (next + 1) (with_child parent (leaf key view) t)
represents-with_child at new root next t None key view represents live empty vacant becomes =
    let few = represents.few in root_represents at new next key view (omega arith) becomes
represents-with_child at new root next t (Some parent) key view represents live empty vacant becomes = grown_represents at new root next t parent key view represents live vacant becomes

-- no view has the new key
pub unused : (at : ℕ → Option PlainNode) (root : Option ℕ) (next : ℕ) (t : Forest Row) (key : ℕ) → RepresentsTree at root next t → at key ≡ None → count_of_key key t ≡ 0
unused at root next t key represents vacant = vacant_unused at key t None None represents.represented vacant

-- the fields after room was made
module _ (a b : Inside) (nodes : b.nodes ≡ record a.nodes { capacity = b.nodes.capacity }) (keys : b.keys.entries ≡ a.keys.entries) (ids : b.ids.entries ≡ a.ids.entries)
    (groups : orders_in b.groups.entries ≡ orders_in a.groups.entries) (root : b.root ≡ a.root) (next : b.next ≡ a.next) (counts : b.counts ≡ a.counts) where
  said-room : plain_node_at b.nodes ≡ plain_node_at a.nodes
  said-room = ap plain_node_at nodes

  pub tree-room : tree_of b ≡ tree_of a
  tree-room = rw (root, next) (ap (λ at. forest a.next at a.root) said-room)

  pub value-room : value_of b ≡ value_of a
  value-room =
      ap (λ (t : Forest Row). record { tree = t; held = map held_in b.nodes.slots; orders = orders_in b.groups.entries; next = b.next; counts = b.counts }) tree-room
      ∙ ap (λ (s : Slab Node). record { tree = tree_of a; held = map held_in s.slots; orders = orders_in b.groups.entries; next = b.next; counts = b.counts }) nodes
      ∙ ap (λ orders. record { tree = tree_of a; held = map held_in a.nodes.slots; orders = orders; next = b.next; counts = b.counts }) groups
      ∙ ap (λ n. record { tree = tree_of a; held = map held_in a.nodes.slots; orders = orders_in a.groups.entries; next = n; counts = b.counts }) next
      ∙ ap (λ counts. record { tree = tree_of a; held = map held_in a.nodes.slots; orders = orders_in a.groups.entries; next = a.next; counts = counts }) counts

  pub sound-room : IsPlanted a → IsPlanted b
  sound-room sound = record {
    represents = rw (root, next) (subst (λ (at : ℕ → Option PlainNode). RepresentsTree at a.root a.next (forest a.next at a.root)) (sym said-room) sound.represents);
    kept = subst IsTree (sym value-room) sound.kept;
    full = ap slab_len nodes ∙ sound.full ∙ ap count_of (sym tree-room);
    found = λ n. rw keys (sound.found n) ∙ ap (key_where (λ (w : PlainView). w.number == n)) (sym tree-room);
    named = λ id. rw ids (sound.named id) ∙ ap (holders_of id) (sym tree-room);
    small = subst (λ (t : Forest Row). (k : ℕ) → 0 < count_of_key k t → k < links_end) (sym tree-room) sound.small;
  }

-- how the fields have changed
module _ (a b : Inside) (v : Views) (parent : Option ℕ) (key : ℕ) (view : PlainView) (sound : IsPlanted a) (e : value_of a ≡ v)
    (live : IfSome parent (λ parent. IsLive v parent)) (empty : parent ≡ None → v.tree ≡ Nothing)
    (taken : refusal_at (plain_of v) (option_map (number_of v) parent) ≡ None)
    (vacant : get a.nodes key ≡ None)
    (becomes : (x : ℕ) → plain_node_at b.nodes x ≡ linked (plain_node_at a.nodes) parent key view (last_child (plain_node_at a.nodes) parent) x)
    (root : b.root ≡ replaced_if_none parent (Some key) a.root) (next : b.next ≡ a.next + 1) (number : view.number ≡ a.next)
    (runs : view.facts.rtl ≡ dir (is_rtl_at parent v.tree) view.facts.direction)
    (len : slab_len b.nodes ≡ slab_len a.nodes + 1)
    (listed : (n : ℕ) → get_key nat_eq b.keys n ≡ (if nat_eq view.number n then Some key else get_key nat_eq a.keys n))
    (ids : (id : ℕ) → get_key nat_eq b.ids id ≡ noted (get_key nat_eq a.ids id) view.facts.id key id) (fits : key < links_end) where
  represents-attach : RepresentsTree (plain_node_at b.nodes) b.root b.next (with_child parent (leaf key view) v.tree)
  represents-attach =
      rw (root, next)
      (represents-with_child (plain_node_at a.nodes) (plain_node_at b.nodes) a.root a.next v.tree parent key view (represents_for a v sound e) live empty (ap plain_node_in vacant) becomes)

  pub tree-attach : tree_of b ≡ with_child parent (leaf key view) v.tree
  tree-attach = tree_is (plain_node_at b.nodes) b.root b.next _ represents-attach

  pub unused-attach : count_of_key key v.tree ≡ 0
  unused-attach = unused (plain_node_at a.nodes) a.root a.next v.tree key (represents_for a v sound e) (ap plain_node_in vacant)

  next-attach : b.next ≡ v.next + 1
  next-attach = next ∙ ap (λ (v : Views). v.next + 1) e

  number-attach : view.number ≡ v.next
  number-attach = number ∙ ap (λ (v : Views). v.next) e

  kept-attach : IsTree (value_of b)
  kept-attach = is_tree-with_child v (value_of b) parent key view (is_tree a v sound e) live taken unused-attach number-attach runs tree-attach next-attach

  pub sound-attach : IsPlanted b
  sound-attach = record {
    represents = subst (RepresentsTree (plain_node_at b.nodes) b.root b.next) (sym tree-attach) represents-attach;
    kept = kept-attach;
    full =
        let all = count-with_child parent (leaf key view) v.tree live empty (is_tree a v sound e).keys in
        let was : slab_len a.nodes ≡ count_of v.tree = sound.full ∙ ap (λ (v : Views). count_of v.tree) e in
        let now : count_of (tree_of b) ≡ count_of (with_child parent (leaf key view) v.tree) = ap count_of tree-attach in
        omega arith;
    found = λ n.
        listed n
        ∙ ap (λ o. if nat_eq view.number n then Some key else o) (sound.found n ∙ ap (λ (v : Views). key_where (λ (w : PlainView). w.number == n) v.tree) e)
        ∙ sym (search_new parent key view v.tree n live empty unused-attach (is_tree a v sound e).keys ((is_tree a v sound e).earlier view.number (let n = number-attach in omega arith)))
        ∙ ap (key_where (λ (w : PlainView). w.number == n)) (sym tree-attach);
    named = λ id.
        ids id
        ∙ ap (λ held. noted held view.facts.id key id) (named_for a v sound e id)
        ∙ sym (holders_of-with_child id parent key view v.tree live empty (is_tree a v sound e).keys (omega (arith, fits)))
        ∙ ap (holders_of id) (sym tree-attach);
    small = λ k there.
        let all : count_of_key k (tree_of b) ≡ count_of_key k v.tree + count_of_key k (leaf key view) =
        ap (count_of_key k) tree-attach ∙ count_of_key-with_child k parent (leaf key view) v.tree live empty (is_tree a v sound e).keys in
        elim (cases_eq k key) [
          | inl e ↦ rw e fits
          | inr ne ↦ let none = count_of_key-leaf_other k key view ne in link_for a v sound e k (omega arith)
        ];
  }

  -- and of what contracts see
  pub attached : (own : held_in (get b.nodes key) ≡ Some (fresh_held view.facts.offset))
      → ((x : ℕ) → x ≢ key → held_in (get b.nodes x) ≡ held_in (get a.nodes x))
      → Attached v parent view key (value_of b)
  attached own others =
      let held : held_of (value_of b) key ≡ fresh_held view.facts.offset = held_view b key ∙ ap held_or own in
      let rest : (x : ℕ) → x ≢ key → held_of (value_of b) x ≡ held_of v x =
      λ x ne. held_view b x ∙ ap held_or (others x ne) ∙ sym (held_view a x) ∙ ap (λ (v : Views). held_of v x) e in
      record {
        unused = unused-attach;
        tree = tree-attach;
        plain = ap (plain_rows (held_of (value_of b))) tree-attach
            ∙ plain-with_child v (held_of (value_of b)) parent key view (is_tree a v sound e) live unused-attach (ap (λ (h : Held). h.offset) held) rest;
        next = next-attach;
        held = held;
        others = rest;
      }
