use Rattle.std.proofs.Common.{◌≡◌, List, ℕ, ◌≤◌, arith, false, length, refl, subst, true}
use Rattle.std.specs.Prelude.{slice_index}
use Rattle.relative_layout.specs.declared.ordering.OrderFault.TheVariants as order
use Rattle.relative_layout.specs.ordering.Sorting.{IsFaultOf}
use Rattle.view_model.specs.Cycles.{member_from}
use Rattle.view_model.specs.declared.relative.Link.{Link}
use Rattle.sibling_orders.specs.Cycles.{IsFree, IsReportedFrom}
use Rattle.sibling_orders.specs.Highest.{IsAboveNamed}
use Rattle.sibling_orders.specs.Ordering.{AreOrders, plain_orders}
use Rattle.sibling_orders.specs.Indexes.{IsStraight}
use Rattle.sibling_orders.proofs.CycleLists.{none_of, reported_is}
use Rattle.sibling_orders.proofs.kids.group_of.Goals as goal

pub returns-in-Ok-latest_of : goal.returns-in-Ok-latest_of
returns-in-Ok-latest_of c =
    let e = c.in-Ok.ensures in (
      none_of (member_from c.args.next) c.args.kids.links.items c.args.kids.numbers.items
          (subst IsFree c.deref.ensures.value (record { across = e.acyclic_across; down = e.acyclic_down })),
      record {
        right = record {
          numbers = refl;
          orders = subst (λ (links : List Link). AreOrders links (plain_orders c.in-Ok.orders)) c.deref.ensures.value (record { across = e.across; down = e.down });
          highest = subst (IsAboveNamed c.highest_named.result) c.deref-in-Ok-latest_of-3.ensures.value c.highest_named.ensures;
          rising = c.requires.rising;
          latest = λ _. rw (c.deref-in-Ok.ensures.value, c.deref-in-Ok-2.ensures.value) at c.in-Ok-latest_of.ensures.reached;
          given_up = λ no. let e : true ≡ false = no in absurd (cc);
          marked = record {
            across = λ e. subst IsStraight c.deref-in-Ok-latest_of.ensures.value (c.is_straight.ensures e);
            down = λ e. subst IsStraight c.deref-in-Ok-latest_of-2.ensures.value (c.is_straight-in-Ok-latest_of.ensures e);
          };
        };
        few =
            let few : length c.in-Ok-latest_of.latest.entries ≤ length c.args.kids.links.items = subst (λ (links : List Link). length c.in-Ok-latest_of.latest.entries ≤ length links) c.deref-in-Ok.ensures.value c.in-Ok-latest_of.ensures.few in
            let alike = c.requires.alike in
            omega arith;
      },
    )

pub returns : goal.returns
returns c =
    let fault : IsFaultOf c.deref.result.now (order.Cycle c.in-Err-Cycle.down c.in-Err-Cycle.members) = rw c.in-Err-Cycle.field-0-is at c.in-Err-Cycle.ensures.fault in
    reported_is (member_from c.args.next) c.args.kids.links.items c.args.kids.numbers.items c.in-Err-Cycle.down c.in-Err-Cycle.members c.reported.result
    (subst (λ (links : List Link). IsFaultOf links (order.Cycle c.in-Err-Cycle.down c.in-Err-Cycle.members)) c.deref.ensures.value fault)
    (subst (λ (numbers : List ℕ). IsReportedFrom (λ place. member_from c.args.next (slice_index numbers place)) c.in-Err-Cycle.down c.in-Err-Cycle.members.items c.reported.result) c.deref-in-Err-Cycle.ensures.value
    (subst (λ (places : List ℕ). IsReportedFrom (λ place. member_from c.args.next (slice_index c.deref-in-Err-Cycle.result.now place)) c.in-Err-Cycle.down places c.reported.result) c.deref-in-Err-Cycle-2.ensures.value c.reported.ensures))
