use Rattle.std.proofs.Common.{◌≡◌, ap, ◌∙◌, arith, length}
use Rattle.std.specs.Option.{option_map}
use Rattle.measure_pass.specs.Siblings.{kids_in}
use Rattle.measure_pass.proofs.relatives.SiblingTurns.{lent, order_length}
use Rattle.view_model.specs.declared.relative.Axis.TheVariants.{Horizontal}
use Rattle.sibling_orders.specs.Ordering.{PlainOrders, plain_orders}
use Rattle.view_tree.specs.Rows.{children_of_first, part_from}
use Rattle.view_tree.specs.Views.{class_of, orders_of}
use Rattle.measure_pass.proofs.siblings.turns.Goals as goal

pub returns-in-Some-clause-value : goal.returns-in-Some-clause-value
returns-in-Some-clause-value c =
    let list = children_of_first (part_from c.args.view c.args.tree.now.tree) in
    let orders = orders_of c.args.tree.now c.args.view in
    let same : plain_orders c.in-Some.orders.now ≡ orders = lent _ (plain_orders c.in-Some.orders.now) orders (class_of c.args.tree.now c.args.view) (ap (option_map (λ orders. plain_orders orders.now)) c.in-Some.is) c.orders.ensures.value c.requires.siblings in
    let are = rw c.in-Some.is at c.orders.ensures.ordered in
    let size : length (plain_orders c.in-Some.orders.now).across ≡ length (kids_in list) = ap (λ (orders : PlainOrders). length orders.across) same ∙ order_length Horizontal list orders are in
    omega arith
