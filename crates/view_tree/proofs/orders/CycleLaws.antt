-- Cycles of relative layouts, and new orders of the children of one.
use Rattle.std.proofs.Common.{◌≡◌, ◌≢◌, ◌⊎◌, ℕ, ◌<◌, ◌≤◌, ◌+◌, true, List, [], ◌∷◌, ◌++◌, append_assoc, length, Option, Some, None, refl, sym, ◌∙◌, ap, subst, arith, inl, inr}
use Rattle.std.proofs.lemmas.Bool.{cases_Bool, cases_eq, eq-eqb, eqb-true, ne_eqb}
use Rattle.std.specs.Option.{unwrap_or}
use mathlib.Core.Path.{fun_ext}
use Rattle.std.specs.declared.alloc.Global.{Global}
use Rattle.relative_layout.specs.declared.ordering.OrderFault.TheVariants as order
use Rattle.relative_layout.specs.ordering.Sorting.{IsFaultOf}
use Rattle.std.specs.Prelude.{Vec, Bool, false, ◌==◌, if◌then◌else◌, option_map, slice_index, IfSome, Ok, Err}
use Rattle.relative_layout.specs.declared.ordering.Orders.{Orders}
use Rattle.view_model.specs.Numbers.{max_views}
use Rattle.view_model.specs.declared.fault.Fault.{Fault}
use Rattle.view_model.specs.declared.fault.Fault.TheVariants as fault
use Rattle.view_model.specs.declared.refusal.Member.{Member}
use Rattle.view_model.specs.declared.refusal.Member.TheVariants as member
use Rattle.relative_layout.proofs.orders.OrderLaws.{acyclic}
use Rattle.view_model.specs.declared.relative.Axis.TheVariants.{Horizontal, Vertical}
use Rattle.view_model.specs.declared.relative.Link.{Link}
use Rattle.view_model.specs.Forest.{Forest, Nothing, Branch, EveryBranch, changed_where, count_of}
use Rattle.view_model.specs.PlainTree.{PlainView}
use Rattle.view_model.specs.Refusals.{PlainRefusal, plain_refusal}
use Rattle.view_tree.proofs.forest.ForestLaws.{times_in}
use Rattle.view_tree.specs.tree.Sorted.{AreNewOrders, links_below}
use Rattle.sibling_orders.specs.Cycles.{HasNoCycle, IsCycleReported, IsFree, view_member}
use Rattle.view_tree.specs.Faults.{IsRefusedOrCyclic}
use Rattle.sibling_orders.specs.Latest.{AreRising}
use Rattle.view_tree.specs.node.Nodes.{PlainNode, RepresentsPart, RepresentsTree}
use Rattle.view_model.specs.Classes.{is_relative}
use Rattle.view_model.specs.Cycles.{cycle_below, first_cycle, link_of, links_in, numbers_in}
use Rattle.sibling_orders.specs.Ordering.{AreOrders, IsGrouped, IsGroupedAt, IsKeptOf, IsRuledAt, PlainGroup, PlainOrders, link_or, linked_in, plain_orders}
use Rattle.view_tree.specs.Rows.{Row, children_of_first, count_of_key, count_of_number, head_view, later_siblings, part_from, views_of}
use Rattle.view_tree.specs.Views.{Held, IsLive, IsTree, Views, class_of, group_number, held_of, number_of, orders_under, plain_of, plain_rows, scrolled}
use Rattle.view_tree.proofs.forest.Forests.{some_is}
use Rattle.view_tree.proofs.forest.KeyLaws.{Agree, Within, from_within, here, in_after, in_below, located, number-within, zero_or_more}
use Rattle.view_tree.proofs.forest.PlainLaws.{agree_live}
use Rattle.view_tree.proofs.orders.FirstCycles.{HaveCyclesAt, first_at, reported_is}
use Rattle.sibling_orders.proofs.HighestLaws.{above_changed, named_more}
use Rattle.sibling_orders.proofs.LatestLaws.{reached_changed}
use Rattle.view_tree.proofs.orders.ListLaws.{IsAmong, among_or_not, among_times, edited_nowhere, each-changed_below, every_by, length-each}
use Rattle.view_tree.proofs.orders.RowLaws.{at_within, count_within, each-plain, every_within, few_numbers, group_number-own, numbered_at, numbers-plain, orders_or, times-plain}
use Rattle.view_tree.proofs.orders.TreeLaws.{Groups, HasParent, Owes, grouped-edited, kept_along}

-- if there are orders, there are no cycles
pub free : (links : List Link) (orders : PlainOrders) → AreOrders links orders → IsFree links
free links orders are = record { across = acyclic Horizontal links orders.across are.across; down = acyclic Vertical links orders.down are.down }

kept_free : (kids : Forest PlainView) (group : Option PlainGroup) → IsKeptOf kids group → IsFree (links_in kids)
kept_free kids None kept = absurd kept
kept_free kids (Some group) kept = free (links_in kids) group.orders kept.orders

pub no_cycle : (groups : Groups) (tree : Forest PlainView) → IsGrouped groups tree → HasNoCycle tree
no_cycle groups tree grouped =
    every_by (λ (view : PlainView) (kids : Forest PlainView). IsGroupedAt groups view kids) (λ (view : PlainView) (kids : Forest PlainView). is_relative view.class ≡ true → IsFree (links_in kids)) tree
    (λ view kids kept relative. kept_free kids (groups view.number) (kept relative)) grouped

abbrev pub changed : ℕ → (PlainView → PlainView) → Forest PlainView → Forest PlainView
changed number change tree = changed_where (λ (view : PlainView). view.number == number) change tree

times_below : (held : ℕ → Held) (number : ℕ) (row : Row) (kids siblings : Forest Row) {tree : Forest Row} → Within (Branch row kids siblings) tree
    → times_in number (plain_rows held kids) ≤ times_in number (plain_rows held tree)
times_below held number row kids siblings here = omega arith
times_below held number row kids siblings (in_below w) = let less = times_below held number row kids siblings w in omega arith
times_below held number row kids siblings (in_after w) = let less = times_below held number row kids siblings w in omega arith

-- the children, with another link for one of them
linked_nowhere : (number : ℕ) (link : Link) (list : Forest PlainView) → times_in number list ≡ 0 → linked_in number link list ≡ links_in list
linked_nowhere number link Nothing none = refl
linked_nowhere number link (Branch view below after) none =
    elim (cases_eq view.number number) [
      | inl is ↦ absurd (let own = among_times number (Branch view below after) (inl is) in omega arith)
      | inr isnt ↦ rw (ne_eqb view.number number isnt) (ap (λ rest. link_of view ∷ rest) (linked_nowhere number link after (omega arith)))
    ]

pub links-changed : (number : ℕ) (link : Link) (change : PlainView → PlainView) (list : Forest PlainView) → ((view : PlainView) → link_of (change view) ≡ link) → times_in number list ≤ 1
    → links_in (changed number change list) ≡ linked_in number link list
links-changed number link change Nothing new once = refl
links-changed number link change (Branch view below after) new once =
    elim (cases_eq view.number number) [
      | inl is ↦
          let once : 1 + (times_in number below + times_in number after) ≤ 1 = rw (eq-eqb view.number number is) at once in
          rw (eq-eqb view.number number is)
          (ap (λ first. first ∷ links_in after) (new view) ∙ ap (λ rest. link ∷ rest) (sym (linked_nowhere number link after (omega arith))))
      | inr isnt ↦ rw (ne_eqb view.number number isnt) (ap (λ rest. link_of view ∷ rest) (links-changed number link change after new (omega arith)))
    ]

numbers-changed : (number : ℕ) (change : PlainView → PlainView) (list : Forest PlainView) → ((view : PlainView) → (change view).number ≡ view.number)
    → numbers_in (changed number change list) ≡ numbers_in list
numbers-changed number change Nothing same = refl
numbers-changed number change (Branch view below after) same =
    elim (cases_eq view.number number) [
      | inl is ↦ rw (eq-eqb view.number number is) (ap (λ first. first ∷ numbers_in after) (same view))
      | inr isnt ↦ rw (ne_eqb view.number number isnt) (ap (λ rest. view.number ∷ rest) (numbers-changed number change after same))
    ]

-- where a view is a child, and of which view
pub record FoundChild (held : ℕ → Held) (tree : Forest Row) (number : ℕ) (parent : Option ℕ) : Type 0 where
  pub row : Row
  pub kids : Forest Row
  pub siblings : Forest Row
  pub within : Within (Branch row kids siblings) tree
  pub is : parent ≡ Some row.key
  pub among : IsAmong number (plain_rows held kids)

number_at : (key number : ℕ) (row : Row) → (row.view.number == number) ≡ (row.key == key) → row.key ≡ key → row.view.number ≡ number
number_at key number row same is = eqb-true row.view.number number (same ∙ eq-eqb row.key key is)

find_child : (at : ℕ → Option PlainNode) (held : ℕ → Held) (key number : ℕ) (node : PlainNode) (parent before : Option ℕ) (list : Forest Row) → at key ≡ Some node → RepresentsPart at parent before list
    → Agree key number list → 0 < count_of_key key list → (IsAmong number (plain_rows held list) × (node.parent ≡ parent)) ⊎ FoundChild held list number node.parent
find_child at held key number node parent before Nothing says represented agree live = absurd (omega arith)
find_child at held key number node parent before (Branch row kids siblings) says represented agree live =
    elim (cases_eq row.key key) [
      | inl is ↦ inl (inl (number_at key number row agree.0 is), ap (λ (n : PlainNode). n.parent) (some_is (sym says ∙ ap at (sym is) ∙ represented.0)))
      | inr isnt ↦
          let live : 0 < 0 + (count_of_key key kids + count_of_key key siblings) = rw (ne_eqb row.key key isnt) at live in
          elim (zero_or_more (count_of_key key kids)) [
            | inr there ↦ elim (find_child at held key number node (Some row.key) None kids says represented.1 agree.1 there) [
              | inl top ↦ inr (record { row = row; kids = kids; siblings = siblings; within = here; is = top.1; among = top.0 })
              | inr deep ↦ inr (record { row = deep.row; kids = deep.kids; siblings = deep.siblings; within = in_below deep.within; is = deep.is; among = deep.among })
            ]
            | inl none ↦ elim (find_child at held key number node parent (Some row.key) siblings says represented.2 agree.2 (omega arith)) [
              | inl top ↦ inl (inr top.0, top.1)
              | inr deep ↦ inr (record { row = deep.row; kids = deep.kids; siblings = deep.siblings; within = in_after deep.within; is = deep.is; among = deep.among })
            ]
          ]
    ]

pub found_child : (at : ℕ → Option PlainNode) (root : Option ℕ) (next : ℕ) (views : Views) (key parent : ℕ) (node : PlainNode) → IsTree views → RepresentsTree at root next views.tree → IsLive views key
    → at key ≡ Some node → node.parent ≡ Some parent → FoundChild (held_of views) views.tree (number_of views key) (Some parent)
found_child at root next views key parent node is represents live says above =
    elim (find_child at (held_of views) key (number_of views key) node None None views.tree says represents.represented (agree_live views key is live) live) [
      | inl top ↦ absurd (let none : None ≡ Some parent = sym top.1 ∙ above in cc)
      | inr found ↦ subst (FoundChild (held_of views) views.tree (number_of views key)) above found
    ]

-- a view that is no child of a relative layout has another id and other rules
pub grouped-apart : (groups : Groups) (number : ℕ) (change : PlainView → PlainView) (tree : Forest PlainView) → times_in number tree ≤ 1
    → ((view : PlainView) → (change view).class ≡ view.class) → ((view : PlainView) → (change view).number ≡ view.number)
    → EveryBranch (λ (view : PlainView) (kids : Forest PlainView). HasParent number None view kids) tree
    → IsGrouped groups tree → IsGrouped groups (changed number change tree)
grouped-apart groups number change tree once class same has grouped =
    grouped-edited groups groups number (λ view kids siblings. Branch (change view) kids siblings) tree once
    (every_by (λ (view : PlainView) (kids : Forest PlainView). HasParent number None view kids)
    (λ (view : PlainView) (kids : Forest PlainView). Owes groups groups number (λ view kids siblings. Branch (change view) kids siblings) view kids) tree
    (λ view kids is. (
      λ isnt kept relative.
          kept_along kids (changed number change kids) (groups view.number)
          (each-changed_below link_of number change kids (λ among. let none : None ≡ Some view.number = is relative among in absurd (cc)))
          (numbers-changed number change kids same) (kept relative),
      λ here kept siblings below after. (
        λ relative. subst (λ n. IsKeptOf kids (groups n)) (sym (same view)) (kept (ap is_relative (sym (class view)) ∙ relative)),
        below,
        after,
      ),
    )) has) grouped

-- a parent is another view than its child
not_parent : (views : Views) (key parent : ℕ) → IsTree views → FoundChild (held_of views) views.tree (number_of views key) (Some parent) → number_of views parent ≢ number_of views key
not_parent views key parent is found same =
    let own : found.row.key ≡ parent = sym (some_is found.is) in
    let part = from_within found.row found.kids found.siblings found.within (is.keys found.row.key) in
    let number : found.row.view.number ≡ number_of views parent = sym (ap (λ part. (head_view part).number) part) ∙ ap (number_of views) own in
    let mine : IsAmong found.row.view.number (plain_rows (held_of views) found.kids) = subst (λ n. IsAmong n (plain_rows (held_of views) found.kids)) (sym same ∙ sym number) found.among in
    let twice = among_times found.row.view.number (plain_rows (held_of views) found.kids) mine in
    let n = is.numbers found.row.view.number in
    let less = number-within found.row.view.number found.within in
    let below = times-plain (held_of views) found.row.view.number found.kids in
    let one : count_of_number found.row.view.number (Branch found.row found.kids found.siblings) ≡ 1 + (count_of_number found.row.view.number found.kids + count_of_number found.row.view.number found.siblings) =
    rw (eq-eqb found.row.view.number found.row.view.number refl) refl in
    omega arith

kept-ruled : (number : ℕ) (link : Link) (change : PlainView → PlainView) (list : Forest PlainView) (old new : Option PlainGroup) (orders : Option PlainOrders)
    → ((view : PlainView) → (change view).number ≡ view.number) → ((view : PlainView) → link_of (change view) ≡ link) → AreOrders (links_in (changed number change list)) (unwrap_or orders (orders_or old))
    → IsRuledAt orders number link old new → IsKeptOf list old → IsKeptOf (changed number change list) new
kept-ruled number link change list None new orders same reads are ruled kept = absurd kept
kept-ruled number link change list (Some old) None orders same reads are ruled kept = absurd ruled
kept-ruled number link change list (Some old) (Some new) orders same reads are ruled kept = record {
  numbers = ruled.kids ∙ kept.numbers ∙ sym (numbers-changed number change list same);
  orders = subst (AreOrders (links_in (changed number change list))) (sym ruled.sorted) are;
  highest = above_changed number new.highest link change list reads ruled.own (named_more (links_in list) old.highest new.highest kept.highest ruled.others);
  rising = subst AreRising (sym (numbers-changed number change list same)) kept.rising;
  latest = λ e.
      let both = ruled.noted e in
      reached_changed number link change list old.latest new.latest same reads both.1 (kept.latest both.0);
  given_up = ruled.given_up kept.given_up;
  marked = ruled.marked kept.marked;
}

once : (views : Views) (key : ℕ) → IsTree views → times_in (number_of views key) (plain_of views) ≤ 1
once views key is = let n = is.numbers (number_of views key) in rw (times-plain (held_of views) (number_of views key) views.tree) n

-- the links of the children of a parent, once the child is changed
pub links_then : (views : Views) (key : ℕ) (link : Link) (change : PlainView → PlainView) (is : IsTree views) (reads : (view : PlainView) → link_of (change view) ≡ link)
    (parent : ℕ) (row : Row) (kids siblings : Forest Row) → Within (Branch row kids siblings) views.tree → part_from parent views.tree ≡ Branch row kids siblings
    → links_in (changed (number_of views key) change (plain_rows (held_of views) kids)) ≡ links_below views parent (number_of views key) link
links_then views key link change is reads parent row kids siblings within part =
    let less = times_below (held_of views) (number_of views key) row kids siblings within in
    let one = once views key is in
    links-changed (number_of views key) link change (plain_rows (held_of views) kids) reads (omega arith)
    ∙ each-plain (link_or (number_of views key) link) (λ row. link_of row.view) (held_of views) kids (λ row. refl)
    ∙ ap (λ part. linked_in (number_of views key) link (views_of (children_of_first part))) (sym part)

-- a view that is changed has its number still
times-changed : (other number : ℕ) (change : PlainView → PlainView) (tree : Forest PlainView) → ((view : PlainView) → (change view).number ≡ view.number)
    → times_in other (changed number change tree) ≡ times_in other tree
times-changed other number change Nothing same = refl
times-changed other number change (Branch view below after) same =
    elim (cases_eq view.number number) [
      | inl is ↦ rw (eq-eqb view.number number is) (ap (λ (n : ℕ). (if n == other then 1 else 0) + (times_in other below + times_in other after)) (same view))
      | inr isnt ↦ rw (ne_eqb view.number number isnt, times-changed other number change below same, times-changed other number change after same) refl
    ]

-- in a tree without cycles one view has another id and other rules: only the children of its parent can have some then
cycles_changed : (name : ℕ → Member) (number parent : ℕ) (reason : Option PlainRefusal) (change : PlainView → PlainView) → ((view : PlainView) → (change view).class ≡ view.class)
    → ((view : PlainView) → (change view).number ≡ view.number) → parent ≢ number → (tree : Forest PlainView) → times_in number tree ≤ 1
    → EveryBranch (λ (view : PlainView) (kids : Forest PlainView). HasParent number (Some parent) view kids) tree → HasNoCycle tree
    → EveryBranch (λ (view : PlainView) (kids : Forest PlainView). view.number ≡ parent → cycle_below name view.class (changed number change kids) ≡ reason) tree
    → HaveCyclesAt name parent reason (changed number change tree)
cycles_changed name number parent reason change class same apart Nothing once has none at = tt
cycles_changed name number parent reason change class same apart (Branch view below after) once has none at =
    elim (cases_eq view.number number) [
      | inl is ↦
          let once : 1 + (times_in number below + times_in number after) ≤ 1 = rw (eq-eqb view.number number is) at once in
          rw (eq-eqb view.number number is) (
            (λ away relative. none.0 (ap is_relative (sym (class view)) ∙ relative), λ here. absurd (apart (sym here ∙ same view ∙ is))),
            subst (HaveCyclesAt name parent reason) (edited_nowhere number (λ view kids siblings. Branch (change view) kids siblings) below (omega arith))
                (cycles_changed name number parent reason change class same apart below (omega arith) has.1 none.1 at.1),
            subst (HaveCyclesAt name parent reason) (edited_nowhere number (λ view kids siblings. Branch (change view) kids siblings) after (omega arith))
                (cycles_changed name number parent reason change class same apart after (omega arith) has.2 none.2 at.2),
          )
      | inr isnt ↦
          let once : 0 + (times_in number below + times_in number after) ≤ 1 = rw (ne_eqb view.number number isnt) at once in
          rw (ne_eqb view.number number isnt) (
            (
              λ away relative. elim (among_or_not number below) [
                | inl among ↦ absurd (away (sym (some_is (has.0 relative among))))
                | inr nowhere ↦ subst IsFree (sym (each-changed_below link_of number change below nowhere)) (none.0 relative)
              ],
              at.0,
            ),
            cycles_changed name number parent reason change class same apart below (omega arith) has.1 none.1 at.1,
            cycles_changed name number parent reason change class same apart after (omega arith) has.2 none.2 at.2,
          )
    ]

-- a parent is there once
parent_once : (views : Views) (key parent : ℕ) → IsTree views → FoundChild (held_of views) views.tree (number_of views key) (Some parent) → times_in (number_of views parent) (plain_of views) ≡ 1
parent_once views key parent is found =
    let own : found.row.key ≡ parent = sym (some_is found.is) in
    let part = from_within found.row found.kids found.siblings found.within (is.keys found.row.key) in
    let number : found.row.view.number ≡ number_of views parent = sym (ap (λ part. (head_view part).number) part) ∙ ap (number_of views) own in
    let n = is.numbers (number_of views parent) in
    let less = number-within (number_of views parent) found.within in
    let all = times-plain (held_of views) (number_of views parent) views.tree in
    let one : count_of_number (number_of views parent) (Branch found.row found.kids found.siblings) ≡ 1 + (count_of_number (number_of views parent) found.kids + count_of_number (number_of views parent) found.siblings) =
    rw (eq-eqb found.row.view.number (number_of views parent) number) refl in
    omega arith

-- the cycles among the children of a parent, once a child of it is another, are the first of the tree
first_with : (views : Views) (key : ℕ) (link : Link) (change : PlainView → PlainView) (is : IsTree views)
    (class : (view : PlainView) → (change view).class ≡ view.class) (same : (view : PlainView) → (change view).number ≡ view.number) (reads : (view : PlainView) → link_of (change view) ≡ link)
    (parent : ℕ) (refusal : PlainRefusal) → HasNoCycle (plain_of views) → IsLive views parent → FoundChild (held_of views) views.tree (number_of views key) (Some parent) → is_relative (class_of views parent) ≡ true
    → EveryBranch (λ (view : PlainView) (kids : Forest PlainView). HasParent (number_of views key) (Some (number_of views parent)) view kids) (plain_of views)
    → IsCycleReported (view_member (views_of (children_of_first (part_from parent views.tree)))) (links_below views parent (number_of views key) link) refusal
    → first_cycle member.View (changed (number_of views key) change (plain_of views)) ≡ Some refusal
first_with views key link change is class same reads parent refusal none above found relative has reported =
    first_at member.View (number_of views parent) (Some refusal) (changed (number_of views key) change (plain_of views))
    (cycles_changed member.View (number_of views key) (number_of views parent) (Some refusal) change class same (not_parent views key parent is found) (plain_of views) (once views key is) has none
    (every_within (λ (view : PlainView) (kids : Forest PlainView). view.number ≡ number_of views parent → cycle_below member.View view.class (changed (number_of views key) change kids) ≡ Some refusal)
    (held_of views) views.tree (λ row kids siblings within here. below row kids siblings within (numbered_at views parent row kids siblings is above within here))))
    (times-changed (number_of views parent) (number_of views key) change (plain_of views) same ∙ parent_once views key parent is found)
  where
    below : (row : Row) (kids siblings : Forest Row) → Within (Branch row kids siblings) views.tree → part_from parent views.tree ≡ Branch row kids siblings
        → cycle_below member.View row.view.class (changed (number_of views key) change (plain_rows (held_of views) kids)) ≡ Some refusal
    below row kids siblings within part =
        let now = changed (number_of views key) change (plain_rows (held_of views) kids) in
        let numbers : numbers_in (views_of (children_of_first (part_from parent views.tree))) ≡ numbers_in now =
        ap (λ part. numbers_in (views_of (children_of_first part))) part ∙ sym (numbers-plain (held_of views) kids) ∙ sym (numbers-changed (number_of views key) change (plain_rows (held_of views) kids) same) in
        let class : is_relative row.view.class ≡ true = ap (λ part. is_relative (head_view part).class) (sym part) ∙ relative in
        rw class (reported_is member.View now refusal
        (subst (λ (numbers : List ℕ). IsCycleReported (λ place. member.View (slice_index numbers place)) (links_in now) refusal) numbers
        (subst (λ links. IsCycleReported (view_member (views_of (children_of_first (part_from parent views.tree)))) links refusal) (sym (links_then views key link change is reads parent row kids siblings within part)) reported)))

module _ (at now : Groups) (views new : Views) (key : ℕ) (link : Link) (change : PlainView → PlainView) (is : IsTree views) (live : IsLive views key)
    (class : (view : PlainView) → (change view).class ≡ view.class) (same : (view : PlainView) → (change view).number ≡ view.number) (reads : (view : PlainView) → link_of (change view) ≡ link)
    (plain : plain_of new ≡ changed (number_of views key) change (plain_of views)) (grouped : IsGrouped at (plain_of views)) where
  pub grouped-alone : ((k : ℕ) → now k ≡ at k) → EveryBranch (λ (view : PlainView) (kids : Forest PlainView). HasParent (number_of views key) None view kids) (plain_of views) → IsGrouped now (plain_of new)
  grouped-alone stays has =
      subst (λ (groups : Groups). IsGrouped groups (plain_of new)) (sym (fun_ext stays))
      (subst (IsGrouped at) (sym plain) (grouped-apart at (number_of views key) change (plain_of views) (once views key is) class same has grouped))

  module _ (parent : ℕ) (orders : Option PlainOrders) (above : IsLive views parent) (found : FoundChild (held_of views) views.tree (number_of views key) (Some parent))
      (are : AreOrders (links_below views parent (number_of views key) link) (unwrap_or orders (orders_or (at (number_of views parent)))))
      (own : IsRuledAt orders (number_of views key) link (at (number_of views parent)) (now (number_of views parent))) (others : (k : ℕ) → number_of views parent ≢ k → now k ≡ at k)
      (has : EveryBranch (λ (view : PlainView) (kids : Forest PlainView). HasParent (number_of views key) (Some (number_of views parent)) view kids) (plain_of views)) where
    owes : EveryBranch (λ (view : PlainView) (kids : Forest PlainView). Owes at now (number_of views key) (λ view kids siblings. Branch (change view) kids siblings) view kids) (plain_of views)
    owes = every_within (λ (view : PlainView) (kids : Forest PlainView). Owes at now (number_of views key) (λ view kids siblings. Branch (change view) kids siblings) view kids) (held_of views) views.tree
        (λ row kids siblings within. (
          λ isnt kept relative. elim (cases_eq row.view.number (number_of views parent)) [
            | inl is_parent ↦
                let part = numbered_at views parent row kids siblings is above within is_parent in
                kept-ruled (number_of views key) link change (plain_rows (held_of views) kids) (at row.view.number) (now row.view.number) orders same reads
                (subst (λ k. AreOrders (links_in (changed (number_of views key) change (plain_rows (held_of views) kids))) (unwrap_or orders (orders_or (at k)))) (sym is_parent)
                (subst (λ links. AreOrders links (unwrap_or orders (orders_or (at (number_of views parent))))) (sym (links_then views key link change is reads parent row kids siblings within part)) are))
                (subst (λ k. IsRuledAt orders (number_of views key) link (at k) (now k)) (sym is_parent) own) (kept relative)
            | inr is_other ↦
                let away : IsAmong (number_of views key) (plain_rows (held_of views) kids) → ⊥ =
                λ among. is_other (sym (some_is (at_within (HasParent (number_of views key) (Some (number_of views parent))) (held_of views) row kids siblings within has relative among))) in
                subst (IsKeptOf (changed (number_of views key) change (plain_rows (held_of views) kids))) (sym (others row.view.number (λ e. is_other (sym e))))
                (kept_along (plain_rows (held_of views) kids) (changed (number_of views key) change (plain_rows (held_of views) kids)) (at row.view.number)
                (each-changed_below link_of (number_of views key) change (plain_rows (held_of views) kids) away)
                (numbers-changed (number_of views key) change (plain_rows (held_of views) kids) same) (kept relative))
          ],
          λ here kept siblings' below after. (
            λ relative.
                subst (IsKeptOf (plain_rows (held_of views) kids))
                (sym (ap now (same (scrolled (held_of views) row)) ∙ others row.view.number (λ e. not_parent views key parent is found (e ∙ here))))
                (kept (ap is_relative (sym (class (scrolled (held_of views) row))) ∙ relative)),
            below,
            after,
          ),
        ))

    pub grouped-with : IsGrouped now (plain_of new)
    grouped-with = subst (IsGrouped now) (sym plain) (grouped-edited at now (number_of views key) (λ view kids siblings. Branch (change view) kids siblings) (plain_of views) (once views key is) owes grouped)

-- a view has another id and other rules, and its parent the orders for them, if it is a relative layout
pub grouped-ruled : (at now : Groups) (views new : Views) (key : ℕ) (link : Link) (change : PlainView → PlainView) → IsTree views → IsLive views key
    → ((view : PlainView) → (change view).class ≡ view.class) → ((view : PlainView) → (change view).number ≡ view.number) → ((view : PlainView) → link_of (change view) ≡ link)
    → plain_of new ≡ changed (number_of views key) change (plain_of views) → IsGrouped at (plain_of views) → ((k : ℕ) → orders_under views k ≡ orders_or (at k))
    → (above : Option ℕ) (orders : Option Orders) → IfSome above (λ parent. IsLive views parent)
    → ((parent : ℕ) → above ≡ Some parent → FoundChild (held_of views) views.tree (number_of views key) (Some parent))
    → EveryBranch (λ (view : PlainView) (kids : Forest PlainView). HasParent (number_of views key) (group_number views above) view kids) (plain_of views)
    → AreNewOrders views key link above (Ok orders)
    → ((k : ℕ) → group_number views above ≡ Some k → IsRuledAt (option_map plain_orders orders) (number_of views key) link (at k) (now k))
    → ((k : ℕ) → group_number views above ≢ Some k → now k ≡ at k) → IsGrouped now (plain_of new)
grouped-ruled at now views new key link change is live class same reads plain grouped kept None None up found has reported own others =
    grouped-alone at now views new key link change is live class same reads plain grouped (λ k. others k (λ e. cc)) has
grouped-ruled at now views new key link change is live class same reads plain grouped kept None (Some orders) up found has reported own others = absurd reported
grouped-ruled at now views new key link change is live class same reads plain grouped kept (Some parent) None up found has reported own others =
    elim (cases_Bool (is_relative (class_of views parent))) [
      | inl relative ↦
          let mine = group_number-own views parent relative in
          grouped-with at now views new key link change is live class same reads plain grouped parent None up (found parent refl)
          (subst (AreOrders (links_below views parent (number_of views key) link)) (kept (number_of views parent)) (reported relative))
          (own (number_of views parent) mine) (λ k ne. others k (λ e. ne (some_is (sym mine ∙ e))))
          (subst (λ (group : Option ℕ). EveryBranch (λ (view : PlainView) (kids : Forest PlainView). HasParent (number_of views key) group view kids) (plain_of views)) mine has)
      | inr other ↦
          let apart : group_number views (Some parent) ≡ None = rw other refl in
          grouped-alone at now views new key link change is live class same reads plain grouped (λ k. others k (λ e. let none : None ≡ Some k = sym apart ∙ e in cc))
          (subst (λ (group : Option ℕ). EveryBranch (λ (view : PlainView) (kids : Forest PlainView). HasParent (number_of views key) group view kids) (plain_of views)) apart has)
    ]
grouped-ruled at now views new key link change is live class same reads plain grouped kept (Some parent) (Some orders) up found has reported own others =
    let mine = group_number-own views parent reported.0 in
    grouped-with at now views new key link change is live class same reads plain grouped parent (Some (plain_orders orders)) up (found parent refl) reported.1
    (own (number_of views parent) mine) (λ k ne. others k (λ e. ne (some_is (sym mine ∙ e))))
    (subst (λ (group : Option ℕ). EveryBranch (λ (view : PlainView) (kids : Forest PlainView). HasParent (number_of views key) group view kids) (plain_of views)) mine has)

-- the reason why there are none is the reason why the tree is refused
pub refused_for : (A : Type 0) (views : Views) (key : ℕ) (link : Link) (change : PlainView → PlainView) → IsTree views
    → ((view : PlainView) → (change view).class ≡ view.class) → ((view : PlainView) → (change view).number ≡ view.number) → ((view : PlainView) → link_of (change view) ≡ link)
    → HasNoCycle (plain_of views) → (above : Option ℕ) (fault : Fault) → IfSome above (λ parent. IsLive views parent)
    → ((parent : ℕ) → above ≡ Some parent → FoundChild (held_of views) views.tree (number_of views key) (Some parent))
    → EveryBranch (λ (view : PlainView) (kids : Forest PlainView). HasParent (number_of views key) (group_number views above) view kids) (plain_of views)
    → AreNewOrders views key link above (Err fault) → IsRefusedOrCyclic {A = A} None (first_cycle member.View (changed (number_of views key) change (plain_of views))) (Err fault)
refused_for A views key link change is class same reads none None fault up found has reported = absurd reported
refused_for A views key link change is class same reads none (Some parent) (fault.Refused refusal) up found has reported =
    first_with views key link change is class same reads parent (plain_refusal refusal) none up (found parent refl) reported.0
    (subst (λ (group : Option ℕ). EveryBranch (λ (view : PlainView) (kids : Forest PlainView). HasParent (number_of views key) group view kids) (plain_of views)) (group_number-own views parent reported.0) has) reported.1
refused_for A views key link change is class same reads none (Some parent) fault.NoMemory up found has reported = refl

pub views-count : (list : Forest Row) → count_of (views_of list) ≡ count_of list
views-count Nothing = refl
views-count (Branch row kids siblings) = rw (views-count kids, views-count siblings)

-- how many children there are to put in order
pub few_links : (views : Views) (parent number : ℕ) (link : Link) → IsTree views → IsLive views parent → length (links_below views parent number link) ≤ max_views
few_links views parent number link is live =
    let f = located parent views.tree live in
    let kids = views_of (children_of_first (part_from parent views.tree)) in
    let size = length-each (link_or number link) kids in
    let few = few_numbers kids in
    let count : count_of kids ≡ count_of f.kids = views-count (children_of_first (part_from parent views.tree)) ∙ ap (λ part. count_of (children_of_first part)) f.is in
    let within = count_within f.row f.kids f.siblings f.within in
    let all = is.few in
    omega arith

-- the members of a cycle are places of children
pub members_within : (kids : List Link) (down : Bool) (members : Vec ℕ Global) → IsFaultOf kids (order.Cycle down members) → (p : ℕ) → p < length members.items
    → slice_index members.items p < length kids
members_within kids true members is p small = is.1.exact.below p small
members_within kids false members is p small = is.exact.below p small

-- one more link is gathered
pub linked_step : (number : ℕ) (link own : Link) (tree : Forest Row) (key : ℕ) (links : List Link) → 0 < count_of_key key tree → own ≡ link_or number link (head_view (part_from key tree))
    → (links ++ own ∷ []) ++ linked_in number link (views_of (later_siblings (part_from key tree))) ≡ links ++ linked_in number link (views_of (part_from key tree))
linked_step number link own tree key links live is =
    let f = located key tree live in
    append_assoc links (own ∷ []) (linked_in number link (views_of (later_siblings (part_from key tree))))
    ∙ ap (λ own. links ++ own ∷ linked_in number link (views_of (later_siblings (part_from key tree)))) is
    ∙ rw f.is refl
