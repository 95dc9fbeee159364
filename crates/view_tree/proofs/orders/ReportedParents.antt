-- The parent of a view, by look-up, and the view among its children.
use Rattle.std.proofs.Common.{◌≡◌, ℕ, Option, Some, sym, ◌∙◌, ap, subst, MatchOption}
use Rattle.std.specs.Prelude.{[], ◌∷◌}
use Rattle.view_model.specs.Forest.{EveryBranch}
use Rattle.view_tree.specs.declared.tree.ViewTree.TheInside.{Inside}
use Rattle.view_tree.specs.node.Nodes.{IsPlanted, plain_node_at, plain_node_in, plain_node_of, value_of}
use Rattle.view_tree.specs.Rows.{ancestors}
use Rattle.view_tree.specs.Views.{IsLive, Views, group_number, held_of, number_of, plain_of}
use Rattle.view_tree.proofs.nodes.NodeReads.{is_tree, node_of, parent_of, represents_for}
use Rattle.view_tree.proofs.nodes.WholeTree.{same_parent}
use Rattle.view_tree.proofs.orders.CycleLaws.{FoundChild, found_child}
use Rattle.view_tree.proofs.orders.RowLaws.{has_parent}
use Rattle.view_tree.proofs.orders.TreeLaws.{HasParent}

module _ (a : Inside) (v : Views) (key : ℕ) (reported : Option ℕ) (planted : IsPlanted a) (e : value_of a ≡ v) (live : IsLive v key)
    (path : MatchOption reported (ancestors key v.tree ≡ []) (λ parent. ancestors key v.tree ≡ parent ∷ ancestors parent v.tree)) where
  pub said : reported ≡ (node_of a v key planted e live).says.node.links.parent
  said =
      let o = node_of a v key planted e live in
      same_parent reported o.says.node.links.parent (ancestors key v.tree) (λ p. ancestors p v.tree) path (parent_of a v key planted e live o.says.node o.says.at).path

  pub reported_child : (parent : ℕ) → reported ≡ Some parent → FoundChild (held_of v) v.tree (number_of v key) (Some parent)
  reported_child parent is =
      let o = node_of a v key planted e live in
      found_child (plain_node_at a.nodes) a.root a.next v key parent (plain_node_of o.says.node) (is_tree a v planted e) (represents_for a v planted e) live (ap plain_node_in o.says.at) (sym said ∙ is)

  pub reported_has : EveryBranch (HasParent (number_of v key) (group_number v reported)) (plain_of v)
  reported_has =
      let o = node_of a v key planted e live in
      subst (λ (parent : Option ℕ). EveryBranch (HasParent (number_of v key) (group_number v parent)) (plain_of v)) (sym said)
      (has_parent (plain_node_at a.nodes) a.root a.next v key (plain_node_of o.says.node) (is_tree a v planted e) (represents_for a v planted e) live (ap plain_node_in o.says.at))
