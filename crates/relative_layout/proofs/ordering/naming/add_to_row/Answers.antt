use Rattle.std.proofs.Common.{◌<◌, length, rules}
use Rattle.relative_layout.proofs.orders.NamingLaws.{lists_of-set}
use Rattle.relative_layout.proofs.ordering.naming.add_to_row.Goals as goal

pub returns : goal.returns
returns c =
    let inside : c.in-Some.last < length c.args.rows.now.items = search rules in
    rw c.in-Some.is (lists_of-set c.args.rows.now.items c.in-Some.last c.args.place c.index_mut.result.now c.push.new.self inside c.index_mut.ensures.value c.in_ok-push.ensures.items)
