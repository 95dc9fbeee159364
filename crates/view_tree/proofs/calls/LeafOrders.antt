-- What is left of the kept orders once a view without children is taken out.
use Rattle.std.proofs.Common.{◌≡◌, ◌≢◌, ℕ, true, [], ◌∷◌, Option, Some, None, sym, ◌∙◌, ap, subst, arith, MatchOption}
use Rattle.std.specs.Map.{lookup}
use Rattle.std.specs.Prelude.{IfSome, nat_eq}
use Rattle.view_model.specs.Classes.{is_relative}
use Rattle.view_model.specs.Cycles.{numbers_in}
use Rattle.view_model.specs.Forest.{Forest, Nothing, Branch}
use Rattle.view_model.specs.PlainTree.{PlainView}
use Rattle.view_tree.specs.tree.Detached.{AreLowered, Detached, parent_of, place_below}
use Rattle.view_tree.specs.node.Nodes.{IsSoundTree, tree_of, value_of}
use Rattle.view_tree.specs.tree.Groups.{HasNoOther}
use Rattle.sibling_orders.specs.Ordering.{IsGrouped, IsKeptOf, IsTakenAt, PlainGroup, group_at, place_in}
use Rattle.sibling_orders.specs.Indexes.{IsLowered}
use Rattle.view_tree.specs.Rows.{ancestors, children_of_first, count_of_number, first_tree, part_from, pruned_at_key}
use Rattle.view_tree.specs.Views.{IsLive, IsTree, Views, class_of, group_number, held_of, number_of, orders_of, orders_under, plain_of, plain_rows}
use Rattle.view_tree.specs.declared.tree.ViewTree.TheInside.{Inside}
use Rattle.view_tree.proofs.calls.DetachedOrders.{number_outside, number_own, parent_outside}
use Rattle.view_tree.proofs.forest.Forests.{some_is}
use Rattle.view_tree.proofs.forest.KeyLaws.{from_within}
use Rattle.view_tree.proofs.nodes.NodeReads.{is_tree}
use Rattle.view_tree.proofs.orders.ListLaws.{IsAmong, place_within}
use Rattle.view_tree.proofs.orders.OnlyLayouts.{none_taken, only-pruned}
use Rattle.view_tree.proofs.orders.RowLaws.{group_number-own, group_there, nearest_reported, numbers-plain, orders_none, orders_or, orders_same, orders_under-is}
use Rattle.view_tree.proofs.orders.ReportedParents.{reported_child}

-- the orders of a group that has lost a child
lowered_at : (number : ℕ) (kids : Forest PlainView) (old new : Option PlainGroup) → IsAmong number kids → IsKeptOf kids old → IsTakenAt number old new
    → AreLowered (place_in number (numbers_in kids)) (orders_or old) (orders_or new)
lowered_at number kids None new among kept taken = absurd kept
lowered_at number kids (Some old) None among kept taken = absurd taken
lowered_at number kids (Some old) (Some new) among kept taken =
    let same : place_in number old.kids ≡ place_in number (numbers_in kids) = ap (place_in number) kept.numbers in
    let one = taken.0 (rw kept.numbers (place_within number kids among)) in
    record {
      across = subst (λ place. IsLowered place old.orders.across new.orders.across) same one.across;
      down = subst (λ place. IsLowered place old.orders.down new.orders.down) same one.down;
    }

module _ (a b : Inside) (v : Views) (key number : ℕ) (reported group : Option ℕ) (sound : IsSoundTree a) (e : value_of a ≡ v) (live : IsLive v key)
    (leaf : children_of_first (part_from key v.tree) ≡ Nothing) (tree : tree_of b ≡ pruned_at_key key v.tree)
    (path : MatchOption reported (ancestors key v.tree ≡ []) (λ parent. ancestors key v.tree ≡ parent ∷ ancestors parent v.tree)) (alive : IfSome reported (λ parent. IsLive v parent))
    (group_is : group ≡ group_number v reported) (number_is : number ≡ number_of v key)
    (own : (k : ℕ) → group ≡ Some k → k ≢ number → IsTakenAt number (group_at a.groups k) (group_at b.groups k))
    (others : (k : ℕ) → group ≢ Some k → k ≢ number → group_at b.groups k ≡ group_at a.groups k) (unused : group_at b.groups number ≡ None) where
  is : IsTree v
  is = is_tree a v sound.planted e

  pub only_leaf : HasNoOther (group_at b.groups) (tree_of b)
  only_leaf =
      only-pruned (group_at a.groups) (group_at b.groups) v.tree (tree_of b) key live (is.keys key) leaf tree (subst (λ (m : ℕ). group_at b.groups m ≡ None) number_is unused)
      (λ k other. none_taken number k group (group_at a.groups) (group_at b.groups) (λ is. own k is (λ same. other (same ∙ number_is))) (λ apart. others k apart (λ same. other (same ∙ number_is))))
      (subst (λ (v : Views). HasNoOther (group_at a.groups) v.tree) e sound.only)

  nearest : parent_of v key ≡ reported
  nearest = nearest_reported reported (ancestors key v.tree) (λ parent. ancestors parent v.tree) path

  was : (k : ℕ) → orders_under v k ≡ orders_or (group_at a.groups k)
  was k = ap (λ (v : Views). orders_under v k) (sym e) ∙ orders_under-is a.groups.entries k

  lowered : (parent : ℕ) → parent_of v key ≡ Some parent → is_relative (class_of v parent) ≡ true
      → AreLowered (place_below v parent key) (orders_of v parent) (orders_under (value_of b) (number_of v parent))
  lowered parent above relative =
      let said : reported ≡ Some parent = sym nearest ∙ above in
      let out = parent_outside v key parent is live above in
      let child = reported_child a v key reported sound.planted e live path parent said in
      let same : child.row.key ≡ parent = sym (some_is child.is) in
      let part : part_from parent v.tree ≡ Branch child.row child.kids child.siblings =
      ap (λ x. part_from x v.tree) (sym same) ∙ from_within child.row child.kids child.siblings child.within (is.keys child.row.key) in
      let kids = plain_rows (held_of v) (children_of_first (part_from parent v.tree)) in
      let among : IsAmong (number_of v key) kids = subst (λ part. IsAmong (number_of v key) (plain_rows (held_of v) (children_of_first part))) (sym part) child.among in
      let kept : IsKeptOf kids (group_at a.groups (number_of v parent)) =
      group_there (group_at a.groups) v parent out.0 (subst (λ (v : Views). IsGrouped (group_at a.groups) (plain_of v)) e sound.grouped) relative in
      let mine : group ≡ Some (number_of v parent) = group_is ∙ ap (group_number v) said ∙ group_number-own v parent relative in
      let ne : number_of v parent ≢ number = λ equal.
      let none = number_outside v key parent is live out.0 out.1 in
      let some = number_own v key live in
      let zero : count_of_number (number_of v key) (first_tree (part_from key v.tree)) ≡ 0 = subst (λ n. count_of_number n (first_tree (part_from key v.tree)) ≡ 0) (equal ∙ number_is) none in
      absurd (omega arith) in
      let taken : IsTakenAt (number_of v key) (group_at a.groups (number_of v parent)) (group_at b.groups (number_of v parent)) =
      subst (λ n. IsTakenAt n (group_at a.groups (number_of v parent)) (group_at b.groups (number_of v parent))) number_is (own (number_of v parent) mine ne) in
      let all = lowered_at (number_of v key) kids (group_at a.groups (number_of v parent)) (group_at b.groups (number_of v parent)) among kept taken in
      subst (λ new. AreLowered (place_below v parent key) (orders_of v parent) new) (sym (orders_under-is b.groups.entries (number_of v parent)))
      (subst (λ old. AreLowered (place_below v parent key) old (orders_or (group_at b.groups (number_of v parent)))) (sym (was (number_of v parent)))
      (subst (λ numbers. AreLowered (place_in (number_of v key) numbers) (orders_or (group_at a.groups (number_of v parent))) (orders_or (group_at b.groups (number_of v parent))))
      (numbers-plain (held_of v) (children_of_first (part_from parent v.tree))) all))

  pub detached_leaf : Detached v (value_of b) key
  detached_leaf = record {
    kept = λ k apart none.
        let other : k ≢ number = λ equal.
        let some = number_own v key live in
        let zero : count_of_number (number_of v key) (first_tree (part_from key v.tree)) ≡ 0 = subst (λ n. count_of_number n (first_tree (part_from key v.tree)) ≡ 0) (equal ∙ number_is) none in
        absurd (omega arith) in
        orders_same a.groups.entries b.groups.entries k (others k (λ mine. apart (ap (group_number v) nearest ∙ sym group_is ∙ mine)) other)
        ∙ ap (λ (v : Views). lookup (nat_eq k) v.orders) e;
    lowered = lowered;
    only = λ k none. orders_none b.groups.entries k (only_leaf k none);
  }
