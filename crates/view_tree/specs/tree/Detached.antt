-- What is left of the kept orders once a view is removed with all below it.
use Rattle.std.specs.Prelude.{◌≡◌, ◌≢◌, ℕ, true, Option, Some, None, nat_eq, slice_get}
use Rattle.std.specs.Map.{lookup}
use Rattle.view_model.specs.Classes.{is_relative}
use Rattle.view_model.specs.Cycles.{numbers_in}
use Rattle.sibling_orders.specs.Ordering.{PlainOrders, place_in}
use Rattle.view_tree.specs.tree.Groups.{is_layout}
use Rattle.sibling_orders.specs.Indexes.{IsLowered}
use Rattle.view_tree.specs.Rows.{ancestors, children_of_first, count_of_number, count_where, first_tree, part_from}
use Rattle.view_tree.specs.Rows.{views_of}
use Rattle.view_tree.specs.Views.{Views, class_of, group_number, number_of, orders_of, orders_under}

-- the parent of the view of a key, if it has one
abbrev pub parent_of : Views → ℕ → Option ℕ
parent_of views key = slice_get (ancestors key views.tree) 0

-- the place of a view among the children of its parent
abbrev pub place_below : Views → ℕ → ℕ → ℕ
place_below views parent key =
    place_in (number_of views key) (numbers_in (views_of (children_of_first (part_from parent views.tree))))

-- orders without this place, the greater ones being one less
pub record AreLowered (place : ℕ) (old new : PlainOrders) : Type 0 where
  pub across : IsLowered place old.across new.across
  pub down : IsLowered place old.down new.down

pub record Detached (old new : Views) (key : ℕ) : Type 0 where
  -- relative layouts that stay keep their orders, except the parent
  pub kept : (number : ℕ) → group_number old (parent_of old key) ≢ Some number
      → count_of_number number (first_tree (part_from key old.tree)) ≡ 0
      → lookup (nat_eq number) new.orders ≡ lookup (nat_eq number) old.orders
  -- the orders of the parent lose the place of the view, if the parent is a relative layout
  pub lowered : (parent : ℕ) → parent_of old key ≡ Some parent → is_relative (class_of old parent) ≡ true
      → AreLowered (place_below old parent key) (orders_of old parent) (orders_under new (number_of old parent))
  -- and no number has orders that is not the number of a relative layout of the tree
  pub only : (number : ℕ) → count_where (is_layout number) new.tree ≡ 0 → lookup (nat_eq number) new.orders ≡ None
