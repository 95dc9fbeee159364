use Rattle.std.proofs.Common.{ap, ◌∙◌, sym}
use Rattle.std.specs.Prelude.{nat_eq}
use Rattle.sibling_orders.proofs.GroupLaws.{orders_in-set}
use Rattle.sibling_orders.specs.Ordering.{PlainGroup, orders_in}
use Rattle.sibling_orders.proofs.groups.make_kid_room.Goals as goal

pub returns-in-Ok-clause-same : goal.returns-in-Ok-clause-same
returns-in-Ok-clause-same c =
    ap orders_in (c.get_mut.follows.holds c.reserve_kid.new.group).0
    ∙ orders_in-set (nat_eq c.args.parent) c.args.groups.now.entries c.in-Some.group.now c.reserve_kid.new.group (sym c.in-Some.ensures.value)
    (ap (λ (g : PlainGroup). g.orders) c.reserve_kid.ensures.same)

pub returns-in-Err-clause-same : goal.returns-in-Err-clause-same
returns-in-Err-clause-same c =
    ap orders_in (c.get_mut.follows.holds c.reserve_kid.new.group).0
    ∙ orders_in-set (nat_eq c.args.parent) c.args.groups.now.entries c.in-Some.group.now c.reserve_kid.new.group (sym c.in-Some.ensures.value)
    (ap (λ (g : PlainGroup). g.orders) c.reserve_kid.ensures.same)
