use Rattle.std.proofs.Common.{◌≡◌, ◌≢◌, length, rules}
use Rattle.relative_layout.proofs.orders.OrderLaws.{IsCycle-left, IsOrder-whole, acyclic}
use Rattle.view_model.specs.SiblingRules.{leads}
use Rattle.relative_layout.proofs.ordering.sorted_with.Goals as goal

pub returns-then-len-kids : goal.returns-then-len-kids
returns-then-len-kids c =
    let kids = c.args.kids.now in
    let order = c.in_ok-order.order.items in
    let whole : length order ≡ length kids = search rules in
    let is = IsOrder-whole (leads c.args.naming.now.axis kids) (length kids) order whole c.in_ok-order.ensures in
    (is, acyclic c.args.naming.now.axis kids order is)

pub returns : goal.returns
returns c =
    let kids = c.args.kids.now in
    let order = c.in_ok-order.order.items in
    let short : length order ≢ length kids = search rules in
    IsCycle-left c.args.naming.now.axis kids order c.in_ok-members.members.items short c.in_ok-order.ensures c.in_ok-members.ensures
