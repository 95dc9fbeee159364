-- What becomes of the orders of a view's parent once the view has another id and other rules.
use Rattle.std.specs.Prelude.{◌≡◌, ℕ, true, List, Option, Some, None, Result, Ok, Err}
use Rattle.relative_layout.specs.declared.ordering.Orders.{Orders}
use Rattle.sibling_orders.specs.Cycles.{IsCycleReported, view_member}
use Rattle.sibling_orders.specs.Ordering.{AreOrders, linked_in, plain_orders}
use Rattle.view_model.specs.Classes.{is_relative}
use Rattle.view_model.specs.declared.fault.Fault.{Fault}
use Rattle.view_model.specs.declared.fault.Fault.TheVariants as fault
use Rattle.view_model.specs.declared.relative.Link.{Link}
use Rattle.view_model.specs.Refusals.{plain_refusal}
use Rattle.view_tree.specs.Rows.{children_of_first, part_from, views_of}
use Rattle.view_tree.specs.Views.{Views, class_of, number_of, orders_of}

-- the children of a view, as rules read them, once the one of a number is another
abbrev pub links_below : Views → ℕ → ℕ → Link → List Link
links_below views parent number link =
    linked_in number link (views_of (children_of_first (part_from parent views.tree)))

-- orders of the children of a view's parent, once the view has another id and other rules, or why there are none; if
-- the parent is no relative layout there is nothing to put in order, and no new orders where those of before stay right
abbrev pub AreNewOrders : Views → ℕ → Link → Option ℕ → Result (Option Orders) Fault → Type 0
AreNewOrders views view link None (Ok None) = Unit {0}
AreNewOrders views view link None (Ok (Some orders)) = ⊥
AreNewOrders views view link None (Err fault) = ⊥
AreNewOrders views view link (Some parent) (Ok None) =
    is_relative (class_of views parent) ≡ true
    → AreOrders (links_below views parent (number_of views view) link) (orders_of views parent)
AreNewOrders views view link (Some parent) (Ok (Some orders)) =
    (is_relative (class_of views parent) ≡ true)
    × AreOrders (links_below views parent (number_of views view) link) (plain_orders orders)
AreNewOrders views view link (Some parent) (Err (fault.Refused refusal)) =
    (is_relative (class_of views parent) ≡ true)
    × IsCycleReported (view_member (views_of (children_of_first (part_from parent views.tree))))
    (links_below views parent (number_of views view) link) (plain_refusal refusal)
AreNewOrders views view link (Some parent) (Err fault.NoMemory) = Unit {0}
