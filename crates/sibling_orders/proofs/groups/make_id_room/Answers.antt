use Rattle.std.proofs.Common.{ap, ◌∙◌, refl, sym}
use Rattle.std.specs.Prelude.{nat_eq}
use Rattle.sibling_orders.proofs.GroupLaws.{orders_in-set}
use Rattle.sibling_orders.specs.Ordering.{orders_in}
use Rattle.sibling_orders.proofs.groups.make_id_room.Goals as goal

pub returns-in-Ok-clause-same : goal.returns-in-Ok-clause-same
returns-in-Ok-clause-same c =
    let group = c.in-Some-get_mut.group.now in
    let new = record group { latest = c.reserve_id.new.latest } in
    ap orders_in (c.get_mut.follows.holds new).0 ∙ orders_in-set (nat_eq c.in-Some.number) c.args.groups.now.entries group new (sym c.in-Some-get_mut.ensures.value) refl

pub returns-in-Err-clause-same : goal.returns-in-Err-clause-same
returns-in-Err-clause-same c =
    let group = c.in-Some-get_mut.group.now in
    let new = record group { latest = c.reserve_id.new.latest } in
    ap orders_in (c.get_mut.follows.holds new).0 ∙ orders_in-set (nat_eq c.in-Some.number) c.args.groups.now.entries group new (sym c.in-Some-get_mut.ensures.value) refl
