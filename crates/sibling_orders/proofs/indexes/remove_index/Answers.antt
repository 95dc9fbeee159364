use Rattle.std.proofs.Common.{◌≡◌, ℕ, ◌+◌, List, length, arith, ap}
use Rattle.std.specs.List.{remove}
use Rattle.sibling_orders.proofs.IndexLaws.{IsOrder-remove, Removes, Removes-made, mid_misses, straight_removed, take_whole}
use Rattle.sibling_orders.proofs.indexes.remove_index.Goals as goal

pub returns-then-at-len-clause-lowered : goal.returns-then-at-len-clause-lowered
returns-then-at-len-clause-lowered c = λ r s n small o kept.
    let mid : List ℕ = c.remove.new.self.items in
    let new : List ℕ = c.lower.new.order in
    let at : ℕ = c.place_of-at.result in
    let old : List ℕ = c.args.order.now.items in
    let found = rw c.deref.ensures.value at (c.place_of-at.ensures) in
    let there = found (o.each c.args.gone small) in
    let size : c.remove.new.self.len ≡ length c.remove.new.self.items = c.remove.new.self.ok.0 in
    let same : length c.lower.new.order ≡ length c.remove.new.self.items = omega (arith, ap length c.deref_mut.ensures.value) in
    let low = rw c.deref_mut.ensures.value at c.lower.ensures in
    let made : mid ≡ remove old at = c.remove.ensures.items in
    let misses = mid_misses r (n + 1) at c.args.gone old o there.0 there.1 in
    let removes : Removes at c.args.gone old new = Removes-made at c.args.gone old mid new there.0 made same (low (rw made misses)) in
    rw (take_whole c.remove.new.self.len c.lower.new.order c.remove.new.self.items size same)
    (IsOrder-remove r s n at c.args.gone old new kept o there.0 there.1 removes)

pub returns-then-at-len-clause-straight : goal.returns-then-at-len-clause-straight
returns-then-at-len-clause-straight c = λ straight small.
    let at : ℕ = c.place_of-at.result in
    let there = (rw c.deref.ensures.value at (c.place_of-at.ensures)) (c.args.gone, small, straight c.args.gone small) in
    let size : c.remove.new.self.len ≡ length c.remove.new.self.items = c.remove.new.self.ok.0 in
    let same : length c.lower.new.order ≡ length c.remove.new.self.items = omega (arith, ap length c.deref_mut.ensures.value) in
    rw (take_whole c.remove.new.self.len c.lower.new.order c.remove.new.self.items size same)
    (straight_removed at c.args.gone c.args.order.now.items c.remove.new.self.items c.lower.new.order there.0 there.1 straight c.remove.ensures.items same
    (rw c.deref_mut.ensures.value at c.lower.ensures))

pub returns-else-at-len-clause-straight : goal.returns-else-at-len-clause-straight
returns-else-at-len-clause-straight c = λ straight small.
    let there = (rw c.deref.ensures.value at (c.place_of-at.ensures)) (c.args.gone, small, straight c.args.gone small) in
    let long = c.if-at-len.false in
    absurd (omega arith)

pub returns-else-at-len-clause-lowered : goal.returns-else-at-len-clause-lowered
returns-else-at-len-clause-lowered c = λ r s n small o kept.
    let found = rw c.deref.ensures.value at (c.place_of-at.ensures) in
    let there = found (o.each c.args.gone small) in
    let long = c.if-at-len.false in
    absurd (omega arith)
