-- The fields of a tree after a view without children was removed.
use Rattle.std.proofs.Common.{◌≡◌, ◌≢◌, ℕ, ◌+◌, Some, None, sym, ◌∙◌, ap, subst, arith}
use Rattle.std.specs.Prelude.{◌==◌, if◌then◌else◌, nat_eq}
use Rattle.indexmap.specs.IndexMap.{get as get_key}
use Rattle.slab.specs.Slab.{get, slab_len, ContainsKey}
use Rattle.view_model.specs.Forest.{Nothing, count_of}
use Rattle.view_model.specs.PlainTree.{PlainView}
use Rattle.view_tree.specs.table.Holders.{dropped}
use Rattle.view_tree.specs.Rows.{children_of_first, pruned_at_key, part_from, key_where, count_of_key}
use Rattle.view_tree.specs.node.Nodes.{PlainNode, plain_node_in, plain_node_at, held_in, replaced_if_none, unlinked, IsAround, RepresentsTree, tree_of, value_of, IsPlanted, holders_of}
use Rattle.view_tree.specs.Views.{Views, IsLive, KeepsOthers, held_of, held_or, number_of}
use Rattle.view_tree.specs.declared.node.Node.{Node}
use Rattle.view_tree.specs.declared.tree.ViewTree.TheInside.{Inside}
use Rattle.view_tree.proofs.nodes.PrunedPart.{count-cut_leaf}
use Rattle.view_tree.proofs.forest.Forests.{tree_is}
use Rattle.view_tree.proofs.nodes.PrunedTree.{gone_around, gone_represents}
use Rattle.view_tree.proofs.forest.IdLaws.{holders_of-pruned_at_key}
use Rattle.view_tree.proofs.values.KeptLaws.{is_tree-pruned_at_key}
use Rattle.view_tree.proofs.nodes.NodeReads.{contains_live, held_view, is_tree, link_for, named_for, small_for, represents_for, view_is}
use Rattle.view_tree.proofs.forest.NumberLaws.{count_of_key-cut_le}
use Rattle.view_tree.proofs.forest.PlainLaws.{agree_live}
use Rattle.view_tree.proofs.forest.SearchLaws.{search-pruned_at_key}

-- the neighbours of a view are there, and are others
pub around_there : (a : Inside) (v : Views) (k : ℕ) → IsPlanted a → value_of a ≡ v → IsLive v k
    → (n : PlainNode) (x : ℕ) → plain_node_at a.nodes k ≡ Some n → IsAround n x → ContainsKey a.nodes x × (x ≢ k)
around_there a v k sound e live n x says i =
    let h = gone_around (plain_node_at a.nodes) a.root a.next v.tree k n (represents_for a v sound e) live says in
    (contains_live a v x sound e (h.live x i), h.apart.not_k x i)

module _ (a b : Inside) (v : Views) (k : ℕ) (n : Node) (sound : IsPlanted a) (e : value_of a ≡ v) (live : IsLive v k) (leaf : children_of_first (part_from k v.tree) ≡ Nothing)
    (node : get a.nodes k ≡ Some n) (gone : (m : PlainNode) → plain_node_at a.nodes k ≡ Some m → (x : ℕ) → plain_node_at b.nodes x ≡ unlinked (plain_node_at a.nodes) k m x)
    (root : b.root ≡ replaced_if_none n.links.parent None a.root) (next : b.next ≡ a.next) (len : slab_len b.nodes + 1 ≡ slab_len a.nodes)
    (unlisted : (x : ℕ) → get_key nat_eq b.keys x ≡ (if nat_eq n.number x then None else get_key nat_eq a.keys x))
    (ids : (id : ℕ) → get_key nat_eq b.ids id ≡ dropped (get_key nat_eq a.ids id) n.facts.id k id) where
  represents-removal : RepresentsTree (plain_node_at b.nodes) b.root b.next (pruned_at_key k v.tree)
  represents-removal = rw (root, next) (gone_represents (plain_node_at a.nodes) a.root a.next v.tree k _ (represents_for a v sound e) live (ap plain_node_in node) (plain_node_at b.nodes) (gone _ (ap plain_node_in node)))

  pub tree-removal : tree_of b ≡ pruned_at_key k v.tree
  tree-removal = tree_is (plain_node_at b.nodes) b.root b.next _ represents-removal

  pub next-removal : b.next ≡ v.next
  next-removal = next ∙ ap (λ (v : Views). v.next) e

  number-removal : n.number ≡ number_of v k
  number-removal = ap (λ (w : PlainView). w.number) (view_is a v k sound e live n node)

  pub sound-removal : IsPlanted b
  sound-removal =
      let is = is_tree a v sound e in
      record {
        represents = subst (RepresentsTree (plain_node_at b.nodes) b.root b.next) (sym tree-removal) represents-removal;
        kept = is_tree-pruned_at_key v (value_of b) k is tree-removal next-removal;
        full =
            let was : slab_len a.nodes ≡ count_of v.tree = sound.full ∙ ap (λ (v : Views). count_of v.tree) e in
            let less = count-cut_leaf k v.tree live (is.keys k) leaf in
            let now : count_of (tree_of b) ≡ count_of (pruned_at_key k v.tree) = ap count_of tree-removal in
            omega arith;
        found = λ x.
            unlisted x
            ∙ ap (λ m. if nat_eq m x then None else get_key nat_eq a.keys x) number-removal
            ∙ ap (λ o. if nat_eq (number_of v k) x then None else o) (sound.found x ∙ ap (λ (v : Views). key_where (λ (w : PlainView). w.number == x) v.tree) e)
            ∙ sym (search-pruned_at_key k (number_of v k) x v.tree live (is.keys k) leaf (agree_live v k is live))
            ∙ ap (key_where (λ (w : PlainView). w.number == x)) (sym tree-removal);
        named = λ id.
            ids id
            ∙ ap (λ held. dropped held n.facts.id k id) (named_for a v sound e id)
            ∙ ap (λ old. dropped (holders_of id v.tree) old k id) (ap (λ (w : PlainView). w.facts.id) (view_is a v k sound e live n node))
            ∙ sym (holders_of-pruned_at_key id k v.tree live (is.keys k) leaf (small_for a v sound e k live))
            ∙ ap (holders_of id) (sym tree-removal);
        small = λ x there.
            let same : count_of_key x (tree_of b) ≡ count_of_key x (pruned_at_key k v.tree) = ap (count_of_key x) tree-removal in
            let less = count_of_key-cut_le x k v.tree in
            link_for a v sound e x (omega arith);
      }

  pub others-removal : ((x : ℕ) → x ≢ k → held_in (get b.nodes x) ≡ held_in (get a.nodes x)) → KeepsOthers v (value_of b) k
  others-removal others = λ x ne. held_view b x ∙ ap held_or (others x ne) ∙ sym (held_view a x) ∙ ap (λ (v : Views). held_of v x) e
