use Rattle.std.proofs.Common.{◌≡◌, ◌∙◌, ap, arith, false, length, sym}
use Rattle.sibling_orders.specs.Ordering.{link_or}
use Rattle.view_tree.specs.Rows.{children_of_first, part_from, views_of}
use Rattle.view_tree.proofs.orders.CycleLaws.{few_links, members_within}
use Rattle.relative_layout.specs.declared.ordering.OrderFault.TheVariants as order
use Rattle.relative_layout.specs.ordering.Sorting.{IsFaultOf}
use Rattle.view_tree.proofs.orders.ListLaws.{length-each}
use Rattle.view_model.specs.Classes.{is_relative}
use Rattle.view_tree.specs.Views.{class_of}
use Rattle.view_tree.proofs.tree.ViewTree.new_orders.Goals as goal

pub returns-then-stays_in_order : goal.returns-then-stays_in_order
returns-then-stays_in_order c =
    rw c.in-Some.is (λ relative. c.stays_in_order.ensures c.if-stays_in_order.true)

pub returns-then-not-is_relative : goal.returns-then-not-is_relative
returns-then-not-is_relative c =
    let other : is_relative (class_of c.args.self.now c.in-Some.parent) ≡ false = ap is_relative (sym c.class.ensures.value) ∙ sym c.is_relative.ensures ∙ c.if-not-is_relative.true in
    rw c.in-Some.is (λ relative. absurd (let both = sym other ∙ relative in cc))

pub order-requires : goal.order-requires
order-requires c =
    let live = rw c.in-Some.is at c.requires.above in
    let few = few_links c.args.self.now c.in-Some.parent c.number.result c.args.link c.class.ensures.is_tree live in
    let size = ap length (c.deref.ensures.value ∙ c.in-Ok.ensures) in
    record { few = omega arith }

pub reported-requires-clause-inside : goal.reported-requires-clause-inside
reported-requires-clause-inside c = λ p small.
    let size = ap length (c.deref.ensures.value ∙ c.in-Ok.ensures) in
    let numbers = length-each (link_or c.number.result c.args.link) (views_of (children_of_first (part_from c.in-Some.parent c.args.self.now.tree))) in
    let same = c.deref-in-Err-Cycle.ensures.value in
    let count = ap length same in
    let fault : IsFaultOf c.deref.result.now (order.Cycle c.in-Err-Cycle.down c.in-Err-Cycle.members) = rw c.in-Err-Cycle.field-0-is at c.in-Err-Cycle.ensures.fault in
    let within = members_within c.deref.result.now c.in-Err-Cycle.down c.in-Err-Cycle.members fault p (omega arith) in
    rw same (omega arith)
