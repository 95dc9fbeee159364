-- What a tree has under the number of a live relative layout.
use Rattle.std.proofs.Common.{◌≡◌, ℕ, true, Option, Some, None, sym, ◌∙◌, ap, subst}
use Rattle.std.specs.Prelude.{nat_eq, option_map}
use Rattle.std.specs.Map.{lookup}
use Rattle.sibling_orders.specs.declared.groups.SiblingOrders.{SiblingOrders}
use Rattle.view_tree.specs.declared.tree.ViewTree.TheInside.{Inside}
use Rattle.view_tree.specs.node.Nodes.{IsSoundTree, value_of}
use Rattle.view_model.specs.Classes.{is_relative}
use Rattle.view_model.specs.Cycles.{links_in, numbers_in}
use Rattle.view_model.specs.Forest.{Forest}
use Rattle.view_model.specs.PlainTree.{PlainView}
use Rattle.sibling_orders.specs.Highest.{IsAboveNamed}
use Rattle.sibling_orders.specs.Latest.{AreReached, AreRising}
use Rattle.sibling_orders.specs.Ordering.{HasRightMarks, AreOrders, IsGroupOf, IsGrouped, IsKeptOf, PlainGroup, group_at, plain_group, plain_orders}
use Rattle.view_tree.specs.Rows.{children_of_first, part_from, views_of}
use Rattle.view_tree.specs.Views.{IsLive, Views, class_of, held_of, number_of, orders_of, plain_of, plain_rows}
use Rattle.view_tree.proofs.orders.RowLaws.{group_there, links-plain, numbers-plain, orders_are}

rising_of : (kids : Forest PlainView) (group : Option PlainGroup) → IsKeptOf kids group → AreRising (numbers_in kids)
rising_of kids None kept = absurd kept
rising_of kids (Some group) kept = kept.rising

module _ (a : Inside) (v : Views) (key number : ℕ) (sound : IsSoundTree a) (e : value_of a ≡ v) (live : IsLive v key) (relative : is_relative (class_of v key) ≡ true)
    (is : number ≡ number_of v key) where
  kept : IsKeptOf (plain_rows (held_of v) (children_of_first (part_from key v.tree))) (group_at a.groups number)
  kept = subst (λ n. IsKeptOf (plain_rows (held_of v) (children_of_first (part_from key v.tree))) (group_at a.groups n)) (sym is)
      (group_there (group_at a.groups) v key live (subst (λ (v : Views). IsGrouped (group_at a.groups) (plain_of v)) e sound.grouped) relative)

  pub rising_there : AreRising (numbers_in (views_of (children_of_first (part_from key v.tree))))
  rising_there =
      subst AreRising (numbers-plain (held_of v) (children_of_first (part_from key v.tree)))
      (rising_of (plain_rows (held_of v) (children_of_first (part_from key v.tree))) (group_at a.groups number) kept)

  pub never_none : lookup (nat_eq number) a.groups.entries ≡ None → ⊥
  never_none none =
      let nothing : group_at a.groups number ≡ None = ap (option_map plain_group) none in
      subst (IsKeptOf (plain_rows (held_of v) (children_of_first (part_from key v.tree)))) nothing kept

  module _ (group : SiblingOrders) (found : lookup (nat_eq number) a.groups.entries ≡ Some group) where
    has : group_at a.groups number ≡ Some (plain_group group)
    has = ap (option_map plain_group) found

    own : IsGroupOf (plain_rows (held_of v) (children_of_first (part_from key v.tree))) (plain_group group)
    own = subst (IsKeptOf (plain_rows (held_of v) (children_of_first (part_from key v.tree)))) has kept

    pub numbers_found : group.kids.items ≡ numbers_in (views_of (children_of_first (part_from key v.tree)))
    numbers_found = own.numbers ∙ numbers-plain (held_of v) (children_of_first (part_from key v.tree))

    pub orders_found : AreOrders (links_in (views_of (children_of_first (part_from key v.tree)))) (plain_orders group.orders)
    orders_found = subst (λ links. AreOrders links (plain_orders group.orders)) (links-plain (held_of v) (children_of_first (part_from key v.tree))) own.orders

    pub highest_found : IsAboveNamed group.highest (links_in (views_of (children_of_first (part_from key v.tree))))
    highest_found = subst (IsAboveNamed group.highest) (links-plain (held_of v) (children_of_first (part_from key v.tree))) own.highest

    pub latest_found : group.complete ≡ true → AreReached group.latest.entries (links_in (views_of (children_of_first (part_from key v.tree)))) (numbers_in (views_of (children_of_first (part_from key v.tree))))
    latest_found = λ e.
        subst (AreReached group.latest.entries (links_in (views_of (children_of_first (part_from key v.tree))))) (numbers-plain (held_of v) (children_of_first (part_from key v.tree)))
        (subst (λ links. AreReached group.latest.entries links (numbers_in (plain_rows (held_of v) (children_of_first (part_from key v.tree)))))
        (links-plain (held_of v) (children_of_first (part_from key v.tree))) (own.latest e))

    pub marked_found : HasRightMarks (plain_group group)
    marked_found = own.marked

    pub orders_value : orders_of v key ≡ plain_orders group.orders
    orders_value = orders_are v key a.groups.entries (plain_group group) (ap (λ (v : Views). v.orders) (sym e)) (subst (λ n. option_map plain_group (lookup (nat_eq n) a.groups.entries) ≡ Some (plain_group group)) is has)
