-- How the nodes of a tree represent its views.
use Rattle.std.specs.declared.hash.BuildHasherDefault.{BuildHasherDefault}
use Rattle.std.specs.declared.hash.FoldHasher.{FoldHasher}
use Rattle.std.specs.Prelude.{ℕ, zero, suc, ◌≡◌, ◌<◌, ◌≤◌, ◌==◌, nat_eq, map, Bool, false, [], Option, Some, None}
use Rattle.std.specs.Prelude.{if◌then◌else◌, option_map, ◌⊎◌}
use Rattle.slab.specs.Slab.{Slab, get, slab_len}
use Rattle.slab_link.specs.Numbers.{links_end}
use Rattle.indexmap.specs.IndexMap.{IndexMap, get as get_key, hasher_of}
use Rattle.indexmap.specs.Layout.{hash_map}
use Rattle.view_model.specs.Forest.{Forest, Nothing, Branch, count_of}
use Rattle.view_model.specs.Layout.{unscrolled}
use Rattle.view_model.specs.PlainTree.{PlainView}
use Rattle.view_tree.specs.table.Holders.{holders}
use Rattle.view_tree.specs.tree.Groups.{HasNoOther}
use Rattle.sibling_orders.specs.Ordering.{IsGrouped, group_at, orders_in}
use Rattle.view_tree.specs.Rows.{Row, later_siblings, count_where, first_key, key_where, keys_where, last_key}
use Rattle.view_tree.specs.Rows.{count_of_key}
use Rattle.view_tree.specs.Views.{Held, IsTree, Views, no_counts, plain_of}
use Rattle.view_tree.specs.declared.table.ids.Holders.{Holders}
use Rattle.view_tree.specs.declared.node.Node.{Node}
use Rattle.view_tree.specs.declared.tree.ViewTree.TheInside.{Inside}

-- what a node holds about the tree: its view and its neighbours, and nothing of its state
pub record PlainNode : Type 0 where
  pub view : PlainView
  pub parent : Option ℕ
  pub first : Option ℕ
  pub last : Option ℕ
  pub previous : Option ℕ
  pub next : Option ℕ

-- there are as many nodes as before, and as much room for them
abbrev pub KeepsNodeCount : Slab Node → Slab Node → Type 0
KeepsNodeCount old new = slab_len new ≡ slab_len old

abbrev pub KeepsNodeRoom : Slab Node → Slab Node → Type 0
KeepsNodeRoom old new = new.capacity ≡ old.capacity

-- the view of a node, as it is in a row
abbrev pub view_of_node : Node → PlainView
view_of_node node =
    unscrolled (record { number = node.number; class = node.class; facts = node.facts; text = node.text })

abbrev pub plain_node_of : Node → PlainNode
plain_node_of node = record {
  view = view_of_node node;
  parent = node.links.parent;
  first = node.links.first;
  last = node.links.last;
  previous = node.links.previous;
  next = node.links.next;
}

abbrev pub plain_node_in : Option Node → Option PlainNode
plain_node_in None = None
plain_node_in (Some node) = Some (plain_node_of node)

abbrev pub plain_node_at : Slab Node → ℕ → Option PlainNode
plain_node_at nodes key = plain_node_in (get nodes key)

-- whether the view of a node runs from right to left; where there is none, nothing does
abbrev pub node_runs : Option PlainNode → Bool
node_runs None = false
node_runs (Some node) = node.view.facts.rtl

abbrev pub runs_at : (ℕ → Option PlainNode) → Option ℕ → Bool
runs_at at None = false
runs_at at (Some key) = node_runs (at key)

-- what is kept of a node's view beside the tree
abbrev pub held_by : Node → Held
held_by node = record { state = node.state; offset = node.facts.offset; cache = node.cache }

abbrev pub held_in : Option Node → Option Held
held_in None = None
held_in (Some node) = Some (held_by node)

-- a view that a node represents, if its children and its later siblings are known
abbrev pub branch_at : ℕ → Option PlainNode → (Option ℕ → Forest Row) → Forest Row
branch_at key None grow = Nothing
branch_at key (Some node) grow = Branch (record { key = key; view = node.view }) (grow node.first) (grow node.next)

-- the forest that begins at a node, until the fuel runs out
unfoldable pub forest : ℕ → (ℕ → Option PlainNode) → Option ℕ → Forest Row
forest zero at key = Nothing
forest (suc fuel) at None = Nothing
forest (suc fuel) at (Some key) = branch_at key (at key) (forest fuel at)

-- what the node of a view holds that has these around it
abbrev pub plain_node_for : Row → Option ℕ → Option ℕ → Forest Row → Forest Row → PlainNode
plain_node_for row parent before kids siblings = record {
  view = row.view;
  parent = parent;
  first = first_key kids;
  last = last_key kids;
  previous = before;
  next = first_key siblings;
}

-- the nodes represent a list of trees, under this parent and after this sibling
abbrev pub RepresentsPart : (ℕ → Option PlainNode) → Option ℕ → Option ℕ → Forest Row → Type 0
RepresentsPart at parent before Nothing = Unit {0}
RepresentsPart at parent before (Branch row kids siblings) =
    (at row.key ≡ Some (plain_node_for row parent before kids siblings)) × RepresentsPart at (Some row.key) None kids
    × RepresentsPart at parent (Some row.key) siblings

-- the parent of a node, or a sibling right beside it
abbrev pub IsAround : PlainNode → ℕ → Type 0
IsAround node key = (node.parent ≡ Some key) ⊎ ((node.previous ≡ Some key) ⊎ (node.next ≡ Some key))

-- what nodes hold after a change of one of them, if any
abbrev pub changed_at : (ℕ → Option PlainNode) → Option ℕ → (PlainNode → PlainNode) → ℕ → Option PlainNode
changed_at at None change key = at key
changed_at at (Some changed) change key = if key == changed then option_map change (at key) else at key

-- what nodes hold once there is one more
abbrev pub with_node : (ℕ → Option PlainNode) → ℕ → PlainNode → ℕ → Option PlainNode
with_node at new node key = if key == new then Some node else at key

-- what nodes hold once one is removed
abbrev pub without : (ℕ → Option PlainNode) → ℕ → ℕ → Option PlainNode
without at gone key = if key == gone then None else at key

-- the second if the first is `None`, and otherwise the third
abbrev pub replaced_if_none : Option ℕ → Option ℕ → Option ℕ → Option ℕ
replaced_if_none None new old = new
replaced_if_none (Some key) new old = old

-- the first key, or the second if there is none
abbrev pub key_or : Option ℕ → ℕ → Option ℕ
key_or None key = Some key
key_or (Some first) key = Some first

-- the last child that a node names, if there is such a node
abbrev pub last_named : Option PlainNode → Option ℕ
last_named None = None
last_named (Some node) = node.last

abbrev pub last_child : (ℕ → Option PlainNode) → Option ℕ → Option ℕ
last_child at None = None
last_child at (Some parent) = last_named (at parent)

-- what nodes hold once a view was added under this key, the last child of its parent, after a sibling
abbrev pub linked : (ℕ → Option PlainNode) → Option ℕ → ℕ → PlainView → Option ℕ → ℕ → Option PlainNode
linked at parent key view before =
    changed_at
    (changed_at (with_node at key (record
    { view = unscrolled view; parent = parent; first = None; last = None; previous = before; next = None }))
    before (λ node. record node { next = Some key }))
    parent (λ node. record node { first = key_or node.first key; last = Some key })

-- what nodes hold once one that held this is taken out from among its siblings
abbrev pub unlinked : (ℕ → Option PlainNode) → ℕ → PlainNode → ℕ → Option PlainNode
unlinked at key node =
    changed_at (changed_at (changed_at (without at key)
    node.previous (λ before. record before { next = node.next }))
    node.next (λ following. record following { previous = node.previous }))
    node.parent
    (λ above. record above {
      first = replaced_if_none node.previous node.next above.first;
      last = replaced_if_none node.next node.previous above.last;
    })

-- the nodes and the root represent the whole tree
pub record RepresentsTree (at : ℕ → Option PlainNode) (root : Option ℕ) (next : ℕ) (tree : Forest Row) : Type 0 where
  pub outer : first_key tree ≡ root
  pub single : later_siblings tree ≡ Nothing
  pub represented : RepresentsPart at None None tree
  pub distinct : (key : ℕ) → count_of_key key tree ≤ 1
  pub few : count_of tree < next

-- the fields of a tree, apart from what is kept of relative layouts
abbrev pub fields : Slab Node → IndexMap ℕ ℕ (BuildHasherDefault FoldHasher)
    → IndexMap ℕ Holders (BuildHasherDefault FoldHasher) → Option ℕ → ℕ → Inside
fields nodes keys ids root next =
    record {
      nodes = nodes;
      keys = keys;
      ids = ids;
      groups = hash_map [] (hasher_of keys) 0;
      root = root;
      next = next;
      counts = no_counts;
    }

abbrev pub tree_of : Inside → Forest Row
tree_of inside = forest inside.next (plain_node_at inside.nodes) inside.root

-- what contracts see of a tree with this root, if this is the number of the view that is made next, except for the
-- orders of relative layouts
abbrev pub views_in : Slab Node → Option ℕ → ℕ → Views
views_in nodes root next =
    record {
      tree = forest next (plain_node_at nodes) root;
      held = map held_in nodes.slots;
      orders = [];
      next = next;
      counts = no_counts;
    }

abbrev pub value_of : Inside → Views
value_of inside =
    record (views_in inside.nodes inside.root inside.next)
    { orders = orders_in inside.groups.entries; counts = inside.counts }

abbrev pub has_id : ℕ → PlainView → Bool
has_id id view = view.facts.id == id

-- what a table has for an id: nothing for 0, which names no view, nor for one that no view has
abbrev pub holders_of : ℕ → Forest Row → Option Holders
holders_of id tree = if id == 0 then None else holders (count_where (has_id id) tree) (keys_where (has_id id) tree)

-- each view has a node, each node a view, each number its key, and each id its views
pub record IsPlanted (inside : Inside) : Type 0 where
  pub represents : RepresentsTree (plain_node_at inside.nodes) inside.root inside.next (tree_of inside)
  pub kept : IsTree (value_of inside)
  pub full : slab_len inside.nodes ≡ count_of (tree_of inside)
  pub found : (number : ℕ)
      → get_key nat_eq inside.keys number ≡ key_where (λ view. view.number == number) (tree_of inside)
  pub named : (id : ℕ) → get_key nat_eq inside.ids id ≡ holders_of id (tree_of inside)
  pub small : (key : ℕ) → 0 < count_of_key key (tree_of inside) → key < links_end

-- and what is kept of each relative layout is right, and nothing else is kept
pub record IsSoundTree (inside : Inside) : Type 0 where
  pub planted : IsPlanted inside
  pub grouped : IsGrouped (group_at inside.groups) (plain_of (value_of inside))
  pub only : HasNoOther (group_at inside.groups) (tree_of inside)
