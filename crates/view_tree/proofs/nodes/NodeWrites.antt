-- What a write to one node does to the tree.
use Rattle.std.proofs.Common.{◌≡◌, ℕ, ◌<◌, Option, Some, None, List, refl, sym, ◌∙◌, ap, subst, arith, IsSome, slice_set, inl, inr}
use mathlib.Core.Path.{fun_ext}
use Rattle.std.proofs.lemmas.Bool.{cases_eq}
use Rattle.std.proofs.lemmas.Grind.{common_steps}
use Rattle.std.specs.Prelude.{◌==◌, count_by, is_some, nat_eq, pos, slice_index_or}
use Rattle.indexmap.specs.IndexMap.{get as get_key}
use Rattle.slab.specs.Slab.{get, with_value, Updates}
use Rattle.slab_link.specs.Numbers.{links_end}
use Rattle.slab.proofs.SlabLemmas.{Updates-with_value}
use Rattle.view_model.specs.Forest.{Forest, count_of}
use Rattle.view_model.specs.PlainTree.{PlainView}
use Rattle.view_tree.specs.table.Holders.{renamed}
use Rattle.view_tree.specs.Rows.{Row, part_from, head_view, key_where, changed_at_key, count_of_key}
use Rattle.view_tree.specs.node.Nodes.{PlainNode, plain_node_in, plain_node_of, plain_node_at, held_by, held_in, RepresentsTree, forest, tree_of, value_of, view_of_node, IsPlanted, IsSoundTree, holders_of}
use Rattle.sibling_orders.specs.Ordering.{group_at}
use Rattle.view_tree.proofs.orders.OnlyLayouts.{only-same}
use Rattle.view_tree.proofs.orders.RowLaws.{grouped_kept}
use Rattle.view_tree.specs.Views.{Views, IsLive, IsTree, SameTree, KeepsOthers, held_of, held_or}
use Rattle.view_tree.specs.declared.counts.Counts.{Counts}
use Rattle.view_tree.specs.declared.node.Node.{Node}
use Rattle.view_tree.specs.declared.tree.ViewTree.TheInside.{Inside}
use Rattle.view_tree.proofs.forest.DirectedLaws.{KeepsRun}
use Rattle.view_tree.proofs.forest.Forests.{tree_is, some_is}
use Rattle.view_tree.proofs.forest.IdLaws.{holders_of-put}
use Rattle.view_tree.proofs.values.KeptLaws.{is_tree-put, is_tree-same}
use Rattle.view_tree.proofs.nodes.NodeReads.{held_view, held_at, is_tree, link_for, named_for, small_for, represents_for, view_is}
use Rattle.view_tree.proofs.forest.NumberLaws.{count-put, count_of_key-put}
use Rattle.view_tree.proofs.nodes.ChangedTree.{put_represents}
use Rattle.view_tree.proofs.forest.SearchLaws.{search-put}

pub len_write : (slots : List (Option Node)) (k : ℕ) (m : Node) → IsSome (slice_index_or slots k None)
    → count_by is_some (slice_set slots k (Some m)) ≡ count_by is_some slots
len_write slots k m h = grind (arith, common_steps)

-- what a write of the node m for the node n under the key k leaves with the views
pub record WritesNode (old new : Views) (k : ℕ) (n m : Node) : Type 0 where
  pub before : held_of old k ≡ held_by n
  pub after : held_of new k ≡ held_by m
  pub others : KeepsOthers old new k

abbrev pub written : Inside → ℕ → Node → Inside
written a k m = record a { nodes = with_value a.nodes k m }

pub kept-write : (a : Inside) (v : Views) (k : ℕ) (n m : Node) → value_of a ≡ v → get a.nodes k ≡ Some n → WritesNode v (value_of (written a k m)) k n m
kept-write a v k n m e at =
    let u = Updates-with_value a.nodes k m (rw at) in
    record {
      before = held_at a v k n e at;
      after = held_view (written a k m) k ∙ ap (λ (o : Option Node). held_or (held_in o)) u.changed;
      others = λ other ne.
          held_view (written a k m) other
          ∙ ap (λ (o : Option Node). held_or (held_in o)) (u.others other ne)
          ∙ sym (held_view a other)
          ∙ ap (λ (v : Views). held_of v other) e;
    }

-- if the two nodes leave the same, so does the write
pub all_kept : (old new : Views) (k : ℕ) (n m : Node) → WritesNode old new k n m → held_by m ≡ held_by n → (key : ℕ) → held_of new key ≡ held_of old key
all_kept old new k n m kept same key = elim (cases_eq key k) [
  | inl is ↦ rw is (kept.after ∙ same ∙ sym kept.before)
  | inr ne ↦ kept.others key ne
]

-- a write that keeps what the node holds about the tree
module _ (a : Inside) (k : ℕ) (n m : Node) (at : get a.nodes k ≡ Some n) (same : plain_node_of m ≡ plain_node_of n) where
  all_same : plain_node_at (with_value a.nodes k m) ≡ plain_node_at a.nodes
  all_same =
      let u = Updates-with_value a.nodes k m (rw at) in
      fun_ext (λ q. elim (cases_eq q k) [
        | inl e ↦ rw e (ap plain_node_in u.changed ∙ ap (λ (s : PlainNode). Some s) same ∙ ap plain_node_in (sym at))
        | inr other ↦ ap plain_node_in (u.others q other)
      ])

  tree-write : tree_of (written a k m) ≡ tree_of a
  tree-write = ap (λ (at : ℕ → Option PlainNode). forest a.next at a.root) all_same

  pub sound-write : IsPlanted a → IsPlanted (written a k m)
  sound-write sound = record {
    represents = subst (λ (at : ℕ → Option PlainNode). RepresentsTree at a.root a.next (forest a.next at a.root)) (sym all_same) sound.represents;
    kept = is_tree-same (value_of a) (value_of (written a k m)) sound.kept tree-write refl;
    full = len_write a.nodes.slots k m (rw at) ∙ sound.full ∙ ap count_of (sym tree-write);
    found = λ number. sound.found number ∙ ap (key_where (λ (view : PlainView). view.number == number)) (sym tree-write);
    named = λ id. sound.named id ∙ ap (holders_of id) (sym tree-write);
    small = subst (λ (t : Forest Row). (key : ℕ) → 0 < count_of_key key t → key < links_end) (sym tree-write) sound.small;
  }

  -- and what is kept of relative layouts
  pub whole-write : IsSoundTree a → IsSoundTree (written a k m)
  whole-write sound = record {
    planted = sound-write sound.planted;
    grouped = grouped_kept (group_at a.groups) (value_of a) (value_of (written a k m)) tree-write sound.grouped;
    only = only-same (group_at a.groups) (group_at a.groups) (tree_of a) (tree_of (written a k m)) tree-write (λ number. refl) sound.only;
  }

  pub same-write : (v : Views) → value_of a ≡ v → SameTree v (value_of (written a k m))
  same-write v e = record { tree = tree-write ∙ ap (λ (v : Views). v.tree) e; orders = ap (λ (v : Views). v.orders) e; next = ap (λ (v : Views). v.next) e }

-- counts that change
pub sound-counts : (a : Inside) (counts : Counts) → IsSoundTree a → IsSoundTree (record a { counts = counts })
sound-counts a counts sound = record {
  planted = record {
    represents = sound.planted.represents;
    kept = is_tree-same (value_of a) (value_of (record a { counts = counts })) sound.planted.kept refl refl;
    full = sound.planted.full;
    found = sound.planted.found;
    named = sound.planted.named;
    small = sound.planted.small;
  };
  grouped = sound.grouped;
  only = sound.only;
}

-- the same with the ids of others
abbrev pub rewritten : Inside → Inside → ℕ → Node → Inside
rewritten a other k m = record a { nodes = with_value a.nodes k m; ids = other.ids }

-- what a write of the node m leaves of the tree, if it changes the view
pub record ViewPut (a other : Inside) (v : Views) (k : ℕ) (m : Node) (f : PlainView → PlainView) : Type 0 where
  pub sound : IsPlanted (rewritten a other k m)
  pub tree : tree_of (written a k m) ≡ changed_at_key k f v.tree
  pub next : a.next ≡ v.next

-- a write that changes the view of a node
module _ (a : Inside) (v : Views) (k : ℕ) (n m : Node) (f : PlainView → PlainView) (sound : IsPlanted a) (e : value_of a ≡ v) (at : get a.nodes k ≡ Some n)
    (changes : plain_node_of m ≡ record (plain_node_of n) { view = f (plain_node_of n).view })
    (numbers : (w : PlainView) → (f w).number ≡ w.number) (classes : (w : PlainView) → (f w).class ≡ w.class)
    (offsets : (w : PlainView) → w.facts.offset ≡ pos 0 → (f w).facts.offset ≡ pos 0)
    (runs : KeepsRun f (head_view (part_from k v.tree)))
    (live : IsLive v k) (other : Inside) (noted : (id : ℕ) → get_key nat_eq other.ids id ≡ renamed (get_key nat_eq a.ids id) n.facts.id m.facts.id k id) where
  u : Updates a.nodes (with_value a.nodes k m) k (Some m)
  u = Updates-with_value a.nodes k m (rw at)

  represents-put : RepresentsTree (plain_node_at (with_value a.nodes k m)) a.root a.next (changed_at_key k f v.tree)
  represents-put =
      put_represents k f (plain_node_at a.nodes) (plain_node_at (with_value a.nodes k m))
      (λ s says.
      ap plain_node_in u.changed
      ∙ ap (λ (s : PlainNode). Some s) changes
      ∙ ap (λ (s : PlainNode). Some (record s { view = f s.view })) (some_is (ap plain_node_in (sym at) ∙ says)))
      (λ x ne. ap plain_node_in (u.others x ne))
      a.root a.next v.tree (represents_for a v sound e)

  head : view_of_node n ≡ head_view (part_from k v.tree)
  head = view_is a v k sound e live n at

  tree-put : tree_of (written a k m) ≡ changed_at_key k f v.tree
  tree-put = tree_is (plain_node_at (with_value a.nodes k m)) a.root a.next _ represents-put

  sound-put : IsPlanted (rewritten a other k m)
  sound-put = record {
    represents = subst (RepresentsTree (plain_node_at (with_value a.nodes k m)) a.root a.next) (sym tree-put) represents-put;
    kept = is_tree-put v (value_of (written a k m)) k f (subst IsTree e sound.kept) numbers classes offsets runs tree-put (ap (λ (v : Views). v.next) e);
    full =
        len_write a.nodes.slots k m (rw at) ∙ sound.full ∙ ap (λ (v : Views). count_of v.tree) e
        ∙ sym (count-put k f v.tree) ∙ ap count_of (sym tree-put);
    found = λ number.
        sound.found number ∙ ap (λ (v : Views). key_where (λ (view : PlainView). view.number == number) v.tree) e
        ∙ sym (search-put (λ (view : PlainView). view.number == number) k f (λ w. ap (λ x. x == number) (numbers w)) v.tree)
        ∙ ap (key_where (λ (view : PlainView). view.number == number)) (sym tree-put);
    named = λ id.
        noted id
        ∙ ap (λ held. renamed held n.facts.id m.facts.id k id) (named_for a v sound e id)
        ∙ ap (λ old. renamed (holders_of id v.tree) old m.facts.id k id) (ap (λ (w : PlainView). w.facts.id) head)
        ∙ ap (λ new. renamed (holders_of id v.tree) (head_view (part_from k v.tree)).facts.id new k id) (ap (λ (s : PlainNode). s.view.facts.id) changes ∙ ap (λ (w : PlainView). (f w).facts.id) head)
        ∙ sym (holders_of-put id k f v.tree live ((is_tree a v sound e).keys k) (small_for a v sound e k live))
        ∙ ap (holders_of id) (sym tree-put);
    small = λ key there.
        let same : count_of_key key (tree_of (rewritten a other k m)) ≡ count_of_key key v.tree = ap (count_of_key key) tree-put ∙ count_of_key-put key k f v.tree in
        link_for a v sound e key (omega arith);
  }

  pub view_put : ViewPut a other v k m f
  view_put = record { sound = sound-put; tree = tree-put; next = ap (λ (v : Views). v.next) e }
