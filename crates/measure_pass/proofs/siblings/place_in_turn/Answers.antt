use Rattle.std.proofs.lemmas.Grind.{get_or_default_zero}
use Rattle.std.proofs.Common.{◌≡◌, ◌<◌, ap, ◌∙◌, arith, length, get_or}
use Rattle.std.specs.Option.{option_map}
use Rattle.measure_pass.specs.Siblings.{kids_in}
use Rattle.measure_pass.proofs.relatives.SiblingTurns.{lent, order_length, place_below}
use Rattle.view_model.specs.declared.relative.Axis.TheVariants.{Horizontal, Vertical}
use Rattle.sibling_orders.specs.Ordering.{PlainOrders, plain_orders}
use Rattle.view_tree.specs.Rows.{children_of_first, part_from}
use Rattle.view_tree.specs.Views.{class_of, orders_of}
use Rattle.measure_pass.proofs.siblings.place_in_turn.Goals as goal

pub index-requires : goal.index-requires
index-requires c =
    let list = children_of_first (part_from c.args.view c.args.tree.now.tree) in
    let orders = orders_of c.args.tree.now c.args.view in
    let same : plain_orders c.in-Some.orders.now ≡ orders = lent _ (plain_orders c.in-Some.orders.now) orders (class_of c.args.tree.now c.args.view) (ap (option_map (λ orders. plain_orders orders.now)) c.in-Some.is) c.orders.ensures.value c.requires.siblings in
    let are = rw c.in-Some.is at c.orders.ensures.ordered in
    let size : length (plain_orders c.in-Some.orders.now).across ≡ length (kids_in list) = ap (λ (orders : PlainOrders). length orders.across) same ∙ order_length Horizontal list orders are in
    omega (arith, c.requires.there)

pub index-requires-in-Vertical : goal.index-requires-in-Vertical
index-requires-in-Vertical c =
    let list = children_of_first (part_from c.args.view c.args.tree.now.tree) in
    let orders = orders_of c.args.tree.now c.args.view in
    let same : plain_orders c.in-Some.orders.now ≡ orders = lent _ (plain_orders c.in-Some.orders.now) orders (class_of c.args.tree.now c.args.view) (ap (option_map (λ orders. plain_orders orders.now)) c.in-Some.is) c.orders.ensures.value c.requires.siblings in
    let are = rw c.in-Some.is at c.orders.ensures.ordered in
    let size : length (plain_orders c.in-Some.orders.now).down ≡ length (kids_in list) = ap (λ (orders : PlainOrders). length orders.down) same ∙ order_length Vertical list orders are in
    omega (arith, c.requires.there)

pub returns-in-Horizontal-clause-value : goal.returns-in-Horizontal-clause-value
returns-in-Horizontal-clause-value c =
    let orders = orders_of c.args.tree.now c.args.view in
    let same : plain_orders c.in-Some.orders.now ≡ orders = lent _ (plain_orders c.in-Some.orders.now) orders (class_of c.args.tree.now c.args.view) (ap (option_map (λ orders. plain_orders orders.now)) c.in-Some.is) c.orders.ensures.value c.requires.siblings in
    let list = children_of_first (part_from c.args.view c.args.tree.now.tree) in
    let are = rw c.in-Some.is at c.orders.ensures.ordered in
    let size : length (plain_orders c.in-Some.orders.now).across ≡ length (kids_in list) = ap (λ (orders : PlainOrders). length orders.across) same ∙ order_length Horizontal list orders are in
    let inside : c.args.turn < length c.in-Some.orders.now.across.items = omega (arith, c.requires.there) in
    rw c.in-Horizontal.is (c.index.ensures ∙ get_or_default_zero c.in-Some.orders.now.across.items c.args.turn c.index.result.now inside ∙ ap (λ (orders : PlainOrders). get_or orders.across c.args.turn 0) same)

pub returns-in-Vertical-clause-value : goal.returns-in-Vertical-clause-value
returns-in-Vertical-clause-value c =
    let orders = orders_of c.args.tree.now c.args.view in
    let same : plain_orders c.in-Some.orders.now ≡ orders = lent _ (plain_orders c.in-Some.orders.now) orders (class_of c.args.tree.now c.args.view) (ap (option_map (λ orders. plain_orders orders.now)) c.in-Some.is) c.orders.ensures.value c.requires.siblings in
    let list = children_of_first (part_from c.args.view c.args.tree.now.tree) in
    let are = rw c.in-Some.is at c.orders.ensures.ordered in
    let size : length (plain_orders c.in-Some.orders.now).down ≡ length (kids_in list) = ap (λ (orders : PlainOrders). length orders.down) same ∙ order_length Vertical list orders are in
    let inside : c.args.turn < length c.in-Some.orders.now.down.items = omega (arith, c.requires.there) in
    rw c.in-Vertical.is (c.index-in-Vertical.ensures ∙ get_or_default_zero c.in-Some.orders.now.down.items c.args.turn c.index-in-Vertical.result.now inside ∙ ap (λ (orders : PlainOrders). get_or orders.down c.args.turn 0) same)

pub returns-in-Horizontal-clause-there : goal.returns-in-Horizontal-clause-there
returns-in-Horizontal-clause-there c =
    let list = children_of_first (part_from c.args.view c.args.tree.now.tree) in
    let orders = orders_of c.args.tree.now c.args.view in
    let same : plain_orders c.in-Some.orders.now ≡ orders = lent _ (plain_orders c.in-Some.orders.now) orders (class_of c.args.tree.now c.args.view) (ap (option_map (λ orders. plain_orders orders.now)) c.in-Some.is) c.orders.ensures.value c.requires.siblings in
    let are = rw c.in-Some.is at c.orders.ensures.ordered in
    let size : length (plain_orders c.in-Some.orders.now).across ≡ length (kids_in list) = ap (λ (orders : PlainOrders). length orders.across) same ∙ order_length Horizontal list orders are in
    let value = c.index.ensures ∙ get_or_default_zero c.in-Some.orders.now.across.items c.args.turn c.index.result.now (omega (arith, c.requires.there)) ∙ ap (λ (orders : PlainOrders). get_or orders.across c.args.turn 0) same in
    rw value (place_below Horizontal list orders c.args.turn are c.requires.there)

pub returns-in-Vertical-clause-there : goal.returns-in-Vertical-clause-there
returns-in-Vertical-clause-there c =
    let list = children_of_first (part_from c.args.view c.args.tree.now.tree) in
    let orders = orders_of c.args.tree.now c.args.view in
    let same : plain_orders c.in-Some.orders.now ≡ orders = lent _ (plain_orders c.in-Some.orders.now) orders (class_of c.args.tree.now c.args.view) (ap (option_map (λ orders. plain_orders orders.now)) c.in-Some.is) c.orders.ensures.value c.requires.siblings in
    let are = rw c.in-Some.is at c.orders.ensures.ordered in
    let size : length (plain_orders c.in-Some.orders.now).down ≡ length (kids_in list) = ap (λ (orders : PlainOrders). length orders.down) same ∙ order_length Vertical list orders are in
    let value = c.index-in-Vertical.ensures ∙ get_or_default_zero c.in-Some.orders.now.down.items c.args.turn c.index-in-Vertical.result.now (omega (arith, c.requires.there)) ∙ ap (λ (orders : PlainOrders). get_or orders.down c.args.turn 0) same in
    rw value (place_below Vertical list orders c.args.turn are c.requires.there)
