-- A tree with what is kept of its relative layouts, and without.
use Rattle.std.proofs.Common.{◌≡◌, ℕ, Option, Some, None, List, refl, sym, ◌∙◌, subst, MatchOption}
use mathlib.Core.Path.{fun_ext}
use Rattle.std.specs.Prelude.{[], ◌∷◌}
use Rattle.view_model.specs.PlainTree.{PlainView}
use Rattle.view_tree.specs.tree.Attached.{Attached}
use Rattle.view_tree.specs.node.Nodes.{IsPlanted, IsSoundTree, fields, tree_of, value_of}
use Rattle.sibling_orders.specs.Ordering.{IsGrouped, PlainGroup, PlainOrders, group_at, orders_in}
use Rattle.view_tree.specs.tree.Sowing.{GainedBelow}
use Rattle.view_tree.specs.Views.{Views, plain_of}
use Rattle.view_tree.specs.declared.counts.Counts.{Counts}
use Rattle.view_tree.specs.declared.tree.ViewTree.TheInside.{Inside}
use Rattle.view_tree.proofs.nodes.NodeGrowth.{sound-room, tree-room}
use Rattle.view_tree.proofs.orders.OnlyLayouts.{only-same}
use Rattle.view_tree.proofs.orders.RowLaws.{grouped_kept}
use Rattle.view_tree.proofs.values.KeptLaws.{is_tree-same}

pub planted-fields : (a : Inside) → IsPlanted a → IsPlanted (fields a.nodes a.keys a.ids a.root a.next)
planted-fields a is = record {
  represents = is.represents;
  kept = is_tree-same (value_of a) (value_of (fields a.nodes a.keys a.ids a.root a.next)) is.kept refl refl;
  full = is.full;
  found = is.found;
  named = is.named;
  small = is.small;
}

pub planted-whole : (a : Inside) → IsPlanted (fields a.nodes a.keys a.ids a.root a.next) → IsPlanted a
planted-whole a is = record {
  represents = is.represents;
  kept = is_tree-same (value_of (fields a.nodes a.keys a.ids a.root a.next)) (value_of a) is.kept refl refl;
  full = is.full;
  found = is.found;
  named = is.named;
  small = is.small;
}

pub planted-groups : (a b : Inside) → b.nodes ≡ a.nodes → b.keys ≡ a.keys → b.ids ≡ a.ids → b.root ≡ a.root → b.next ≡ a.next → IsPlanted a → IsPlanted b
planted-groups a b nodes keys ids root next is = planted-whole b (rw (nodes, keys, ids, root, next) (planted-fields a is))

-- orders and counts are no part of what is added
pub attached-orders : (old new : Views) (parent : Option ℕ) (view : PlainView) (key : ℕ) (before after : List (ℕ × PlainOrders)) (count counts : Counts) → Attached old parent view key new
    → Attached (record old { orders = before; counts = count }) parent view key (record new { orders = after; counts = counts })
attached-orders old new parent view key before after count counts came =
    record { unused = came.unused; tree = came.tree; plain = came.plain; next = came.next; held = came.held; others = came.others }

pub gained-orders : (old new : Views) (key : ℕ) (after : List (ℕ × PlainOrders)) (counts : Counts) → GainedBelow old key new → GainedBelow old key (record new { orders = after; counts = counts })
gained-orders old new key after counts came = record {
  added = came.added;
  gained = record { unused = came.gained.unused; tree = came.gained.tree; made = came.gained.made; bare = came.gained.bare; others = came.gained.others };
}

pub groups_along : (at now : ℕ → Option PlainGroup) (views : Views) → ((k : ℕ) → now k ≡ at k) → IsGrouped at (plain_of views) → IsGrouped now (plain_of views)
groups_along at now views same grouped = subst (λ (groups : ℕ → Option PlainGroup). IsGrouped groups (plain_of views)) (sym (fun_ext same)) grouped

-- the parent of a view, by look-up and by what its node holds
pub same_parent : (reported said : Option ℕ) (path : List ℕ) (above : ℕ → List ℕ) → MatchOption reported (path ≡ []) (λ parent. path ≡ parent ∷ above parent)
    → MatchOption said (path ≡ []) (λ parent. path ≡ parent ∷ above parent) → reported ≡ said
same_parent None None path above first second = refl
same_parent None (Some parent) path above first second = absurd (let e : [] ≡ parent ∷ above parent = sym first ∙ second in cc)
same_parent (Some parent) None path above first second = absurd (let e : [] ≡ parent ∷ above parent = sym second ∙ first in cc)
same_parent (Some one) (Some other) path above first second = let e : one ∷ above one ≡ other ∷ above other = sym first ∙ second in cc

-- the fields after room was made, for nodes and for groups
pub whole-room : (a b : Inside) → b.nodes ≡ record a.nodes { capacity = b.nodes.capacity } → b.keys.entries ≡ a.keys.entries → b.ids.entries ≡ a.ids.entries
    → orders_in b.groups.entries ≡ orders_in a.groups.entries → ((k : ℕ) → group_at b.groups k ≡ group_at a.groups k) → b.root ≡ a.root → b.next ≡ a.next → b.counts ≡ a.counts → IsSoundTree a → IsSoundTree b
whole-room a b nodes keys ids orders groups root next counts is = record {
  planted = sound-room a b nodes keys ids orders root next counts is.planted;
  grouped = groups_along (group_at a.groups) (group_at b.groups) (value_of b) groups
      (grouped_kept (group_at a.groups) (value_of a) (value_of b) (tree-room a b nodes keys ids orders root next counts) is.grouped);
  only = only-same (group_at a.groups) (group_at b.groups) (tree_of a) (tree_of b) (tree-room a b nodes keys ids orders root next counts) groups is.only;
}
