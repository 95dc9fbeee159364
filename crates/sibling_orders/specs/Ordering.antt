-- The orders in which relative layouts measure their children, and what is kept of these beside the tree.
use Rattle.std.specs.Prelude.{ℕ, suc, ◌≡◌, ◌≢◌, ◌<◌, ◌≤◌, ◌==◌, ◌+◌, ◌-◌, ◌*◌, ◌++◌, Bool, true, false, List, [], ◌∷◌}
use Rattle.std.specs.Prelude.{length, map, if◌then◌else◌, Option, Some, None, nat_eq, option_map, slice_get}
use Rattle.std.specs.List.{remove}
use Rattle.std.specs.Map.{lookup}
use Rattle.std.specs.Option.{unwrap_or}
use Rattle.std.specs.Vec.{vec_capacity, vec_len}
use Rattle.std.specs.declared.hash.BuildHasherDefault.{BuildHasherDefault}
use Rattle.std.specs.declared.hash.FoldHasher.{FoldHasher}
use Rattle.indexmap.specs.IndexMap.{IndexMap, get, spare}
use Rattle.relative_layout.specs.declared.ordering.Orders.{Orders}
use Rattle.view_model.specs.Classes.{is_relative}
use Rattle.view_model.specs.Cycles.{each, link_of, links_in, numbers_in}
use Rattle.view_model.specs.declared.relative.Axis.TheVariants.{Horizontal, Vertical}
use Rattle.view_model.specs.declared.relative.Link.{Link}
use Rattle.view_model.specs.Forest.{Forest, EveryBranch}
use Rattle.view_model.specs.Orders.{IsOrder}
use Rattle.view_model.specs.PlainTree.{PlainView}
use Rattle.view_model.specs.SiblingRules.{leads}
use Rattle.sibling_orders.specs.declared.groups.SiblingOrders.{SiblingOrders}
use Rattle.sibling_orders.specs.Highest.{IsAboveNamed, IsAboveRules}
use Rattle.sibling_orders.specs.Latest.{AreReached, AreRising, HasNoted, IsAllOrNone}
use Rattle.sibling_orders.specs.Indexes.{IsLowered, IsStraight}

-- the places of children, for each axis
pub record PlainOrders : Type 0 where
  pub across : List ℕ
  pub down : List ℕ

abbrev pub plain_orders : Orders → PlainOrders
plain_orders orders = record { across = orders.across.items; down = orders.down.items }

abbrev pub no_orders : PlainOrders
no_orders = record { across = []; down = [] }

-- the same, if the view of a number is another
abbrev pub link_or : ℕ → Link → PlainView → Link
link_or number link view = if view.number == number then link else link_of view

abbrev pub linked_in : ℕ → Link → Forest PlainView → List Link
linked_in number link list = each (link_or number link) list

-- on each axis an order of these children
pub record AreOrders (links : List Link) (orders : PlainOrders) : Type 0 where
  pub across : IsOrder (leads Horizontal links) (length links) orders.across
  pub down : IsOrder (leads Vertical links) (length links) orders.down

-- what is kept of the children of a relative layout: their orders, their numbers in list order, an id that no rules of
-- theirs exceed, for each id a number that those of the children with the id do not exceed, if the table has all ids,
-- and for each axis whether each place of the order is known to be its own
pub record PlainGroup : Type 0 where
  pub orders : PlainOrders
  pub kids : List ℕ
  pub highest : ℕ
  pub latest : List (ℕ × ℕ)
  pub complete : Bool
  pub straight_across : Bool
  pub straight_down : Bool

abbrev pub plain_group : SiblingOrders → PlainGroup
plain_group group = record {
  orders = plain_orders group.orders;
  kids = group.kids.items;
  highest = group.highest;
  latest = group.latest.entries;
  complete = group.complete;
  straight_across = group.straight_across;
  straight_down = group.straight_down;
}

abbrev pub no_group : PlainGroup
no_group =
    record {
      orders = no_orders;
      kids = [];
      highest = 0;
      latest = [];
      complete = true;
      straight_across = true;
      straight_down = true;
    }

-- what a table of groups has under a number
abbrev pub group_at : IndexMap ℕ SiblingOrders (BuildHasherDefault FoldHasher) → ℕ → Option PlainGroup
group_at groups number = option_map plain_group (get nat_eq groups number)

-- the orders that such a table has, by the numbers of these
abbrev pub orders_in : List (ℕ × SiblingOrders) → List (ℕ × PlainOrders)
orders_in groups = map (λ entry. (entry.0, plain_orders entry.1.orders)) groups

-- there is room for one more child
pub record HasKidRoom (group : SiblingOrders) : Type 0 where
  pub across : vec_len group.orders.across < vec_capacity group.orders.across
  pub down : vec_len group.orders.down < vec_capacity group.orders.down
  pub kids : vec_len group.kids < vec_capacity group.kids

-- a group with one more child, which is tied to no other
abbrev pub with_kid : ℕ → PlainGroup → PlainGroup
with_kid kid group = record {
  orders =
      record
      { across = group.orders.across ++ length group.kids ∷ []; down = group.orders.down ++ length group.kids ∷ [] };
  kids = group.kids ++ kid ∷ [];
  highest = group.highest;
  latest = group.latest;
  complete = group.complete;
  straight_across = group.straight_across;
  straight_down = group.straight_down;
}

-- the orders that are marked have each place as its own
pub record HasRightMarks (group : PlainGroup) : Type 0 where
  pub across : group.straight_across ≡ true → IsStraight group.orders.across
  pub down : group.straight_down ≡ true → IsStraight group.orders.down

-- the number that a group has for an id, or that of its last child if it does not have those of all ids
pub record IsLatestIn (id : ℕ) (group : PlainGroup) (latest : Option ℕ) : Type 0 where
  pub noted : group.complete ≡ true → latest ≡ lookup (nat_eq id) group.latest
  pub last : group.complete ≡ false → latest ≡ slice_get group.kids (length group.kids - 1)

-- there is room for an id; 0 takes none
abbrev pub HasIdRoom : ℕ → SiblingOrders → Type 0
HasIdRoom id group = id ≢ 0 → 0 < spare group.latest

-- how another id and other rules of the child of a number change a group, for which these are the orders, or those of
-- before; its table has at most four ids for each child and four more then
pub record IsRuled (orders : Option PlainOrders) (number : ℕ) (link : Link) (old new : PlainGroup) : Type 0 where
  pub sorted : new.orders ≡ unwrap_or orders old.orders
  pub kids : new.kids ≡ old.kids
  pub others : old.highest ≤ new.highest
  pub own : IsAboveRules new.highest link.rules
  pub noted : new.complete ≡ true → (old.complete ≡ true) × HasNoted link.id number old.latest new.latest
  pub few : IsAllOrNone old.complete old.latest → length new.latest ≤ 4 * length new.kids + 4
  pub given_up : IsAllOrNone old.complete old.latest → IsAllOrNone new.complete new.latest
  pub marked : HasRightMarks old → HasRightMarks new

-- the same of what a table has under a number
abbrev pub IsRuledAt : Option PlainOrders → ℕ → Link → Option PlainGroup → Option PlainGroup → Type 0
IsRuledAt orders number link None new = new ≡ None
IsRuledAt orders number link (Some old) None = ⊥
IsRuledAt orders number link (Some old) (Some new) = IsRuled orders number link old new

-- where a number is in a list, or the length if it is not
abbrev pub place_in : ℕ → List ℕ → ℕ
place_in number [] = 0
place_in number (first ∷ numbers) = if first == number then 0 else suc (place_in number numbers)

-- a group without one of its children
pub record IsWithoutKid (kid : ℕ) (old new : PlainGroup) : Type 0 where
  pub kids : new.kids ≡ remove old.kids (place_in kid old.kids)
  pub across : IsLowered (place_in kid old.kids) old.orders.across new.orders.across
  pub down : IsLowered (place_in kid old.kids) old.orders.down new.orders.down
  pub highest : new.highest ≡ old.highest
  pub latest : new.latest ≡ old.latest
  pub complete : new.complete ≡ old.complete
  pub marked : length old.orders.across ≡ length old.kids → length old.orders.down ≡ length old.kids → HasRightMarks old
      → HasRightMarks new

-- how the removal of a view changes a group: it loses the child, if the view was one
abbrev pub IsTaken : ℕ → PlainGroup → PlainGroup → Type 0
IsTaken kid old new =
    (place_in kid old.kids < length old.kids → IsWithoutKid kid old new)
    × (length old.kids ≤ place_in kid old.kids → new ≡ old)

-- the same of what a table has under a number
abbrev pub IsTakenAt : ℕ → Option PlainGroup → Option PlainGroup → Type 0
IsTakenAt kid None new = new ≡ None
IsTakenAt kid (Some old) None = ⊥
IsTakenAt kid (Some old) (Some new) = IsTaken kid old new

-- what is kept of children with these links and these numbers is right
pub record IsGroupFor (links : List Link) (kids : List ℕ) (group : PlainGroup) : Type 0 where
  pub numbers : group.kids ≡ kids
  pub orders : AreOrders links group.orders
  pub highest : IsAboveNamed group.highest links
  pub rising : AreRising kids
  pub latest : group.complete ≡ true → AreReached group.latest links kids
  pub given_up : IsAllOrNone group.complete group.latest
  pub marked : HasRightMarks group

-- what is made anew for such children is right, and its table has at most one id for each of them
pub record IsNewGroupFor (links : List Link) (kids : List ℕ) (group : PlainGroup) : Type 0 where
  pub right : IsGroupFor links kids group
  pub few : length group.latest ≤ length kids

abbrev pub IsKeptFor : List Link → List ℕ → Option PlainGroup → Type 0
IsKeptFor links kids None = ⊥
IsKeptFor links kids (Some group) = IsGroupFor links kids group

-- the same of the children of a relative layout
abbrev pub IsGroupOf : Forest PlainView → PlainGroup → Type 0
IsGroupOf kids group = IsGroupFor (links_in kids) (numbers_in kids) group

abbrev pub IsKeptOf : Forest PlainView → Option PlainGroup → Type 0
IsKeptOf kids group = IsKeptFor (links_in kids) (numbers_in kids) group

abbrev pub IsGroupedAt : (ℕ → Option PlainGroup) → PlainView → Forest PlainView → Type 0
IsGroupedAt groups view kids = is_relative view.class ≡ true → IsKeptOf kids (groups view.number)

-- what is kept of every relative layout is right
abbrev pub IsGrouped : (ℕ → Option PlainGroup) → Forest PlainView → Type 0
IsGrouped groups tree = EveryBranch (λ (view : PlainView) (kids : Forest PlainView). IsGroupedAt groups view kids) tree

-- what a table has under a number once entries are inserted one after another, if it had this before
abbrev pub noted : List (ℕ × SiblingOrders) → ℕ → Option PlainGroup → Option PlainGroup
noted [] number before = before
noted (entry ∷ entries) number before =
    noted entries number (if nat_eq entry.0 number then Some (plain_group entry.1) else before)
