use Rattle.std.proofs.Common.{◌≡◌, ◌∙◌, ap, length, refl, subst, arith}
use Rattle.std.specs.List.{remove}
use Rattle.sibling_orders.specs.Ordering.{place_in}
use Rattle.sibling_orders.specs.Indexes.{IsLowered}
use Rattle.sibling_orders.proofs.groups.take_kid.Goals as goal

pub returns-then-place-len : goal.returns-then-place-len
returns-then-place-len c =
    let at : c.place_of_kid-place.result ≡ place_in c.args.kid c.args.group.now.kids.items = c.place_of_kid-place.ensures ∙ ap (place_in c.args.kid) c.deref.ensures.value in (
      λ found. record {
        kids = c.remove.ensures.items ∙ ap (remove c.args.group.now.kids.items) at;
        across = subst (λ place. IsLowered place c.args.group.now.orders.across.items c.remove_index.new.order.items) at c.remove_index.ensures.lowered;
        down = subst (λ place. IsLowered place c.args.group.now.orders.down.items c.remove_index-then-place-len.new.order.items) at c.remove_index-then-place-len.ensures.lowered;
        highest = refl;
        latest = refl;
        complete = refl;
        marked = λ across down marked. record {
          across = λ e. c.remove_index.ensures.straight (marked.across e) (omega arith);
          down = λ e. c.remove_index-then-place-len.ensures.straight (marked.down e) (omega arith);
        };
      },
      λ out. absurd (let small = c.if-place-len.true in let size = c.len.ensures in let full = c.deref.ensures.len in let same = ap length c.deref.ensures.value in omega arith),
    )

pub returns-else-place-len : goal.returns-else-place-len
returns-else-place-len c =
    let at : c.place_of_kid-place.result ≡ place_in c.args.kid c.args.group.now.kids.items = c.place_of_kid-place.ensures ∙ ap (place_in c.args.kid) c.deref.ensures.value in (
      λ found. absurd (let large = c.if-place-len.false in let size = c.len.ensures in let full = c.deref.ensures.len in let same = ap length c.deref.ensures.value in omega arith),
      λ out. refl,
    )
