use Rattle.std.proofs.Common.{length}
use Rattle.relative_layout.proofs.orders.OrderLaws.{IsOrder-listed, acyclic}
use Rattle.view_model.specs.SiblingRules.{leads}
use Rattle.relative_layout.proofs.ordering.sorted_on.Goals as goal

pub returns-then-leads_back : goal.returns-then-leads_back
returns-then-leads_back c =
    let kids = c.args.kids.now in
    let order = c.in_ok-order.order.items in
    let is = IsOrder-listed (leads c.args.axis kids) (length kids) order c.in_ok-order.ensures.size c.in_ok-order.ensures.each (c.leads_back.ensures c.if-leads_back.true) in
    (is, acyclic c.args.axis kids order is)
