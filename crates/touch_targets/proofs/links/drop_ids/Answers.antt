use Rattle.std.proofs.Common.{◌<◌, length, refl, sym, subst}
use Rattle.touch_targets.specs.Nodes.{slots_from}
use Rattle.touch_targets.proofs.chains.Dropping.{Drops, drops_end, drops_on, drops_start, fewer_on}
use Rattle.touch_targets.proofs.chains.Walks.{after_here, here}
use Rattle.touch_targets.proofs.links.drop_ids.Goals as goal

pub loop-at-init : goal.loop-at-init
loop-at-init c = rw c.key-at.ensures (drops_start c.args.nodes.now c.args.group c.args.ids c.index.result.now c.requires.linked c.index.ensures)

pub index-requires-in-Some : goal.index-requires-in-Some
index-requires-in-Some c =
    let d = subst (Drops c.args.nodes.now c.loop-at.nodes c.args.group c.args.ids c.loop-at.previous) c.in-Some.is c.loop-at.invariant in
    rw (here c.loop-at.nodes c.args.group c.loop-at.previous c.in-Some.slot d.linked d.opened d.walk).is refl

pub drop_ids_at-previous-requires-clause-following : goal.drop_ids_at-previous-requires-clause-following
drop_ids_at-previous-requires-clause-following c =
    let d = subst (Drops c.args.nodes.now c.loop-at.nodes c.args.group c.args.ids c.loop-at.previous) c.in-Some.is c.loop-at.invariant in
    let at = here c.loop-at.nodes c.args.group c.loop-at.previous c.in-Some.slot d.linked d.opened d.walk in
    after_here c.loop-at.nodes c.args.group c.loop-at.previous c.in-Some.slot d.walk at

pub loop-at-smaller : goal.loop-at-smaller
loop-at-smaller c =
    let d = subst (Drops c.args.nodes.now c.loop-at.nodes c.args.group c.args.ids c.loop-at.previous) c.in-Some.is c.loop-at.invariant in
    let e = c.drop_ids_at-previous.ensures in
    let fewer = fewer_on c.args.nodes.now c.loop-at.nodes c.drop_ids_at-previous.new.nodes c.args.group c.args.ids c.in-Some.slot c.loop-at.previous c.index-in-Some.result.now
    d c.index-in-Some.ensures e.linked e.slots e.others e.own e.views e.capacity in
    rw c.key-at-in-Some.ensures (subst (λ o. length (slots_from c.drop_ids_at-previous.new.nodes c.index-in-Some.result.now.next) < length (slots_from c.loop-at.nodes o)) (sym c.in-Some.is) fewer)

pub loop-at-preserved : goal.loop-at-preserved
loop-at-preserved c =
    let d = subst (Drops c.args.nodes.now c.loop-at.nodes c.args.group c.args.ids c.loop-at.previous) c.in-Some.is c.loop-at.invariant in
    let e = c.drop_ids_at-previous.ensures in
    let on = drops_on c.args.nodes.now c.loop-at.nodes c.drop_ids_at-previous.new.nodes c.args.group c.args.ids c.in-Some.slot c.loop-at.previous c.index-in-Some.result.now
    d c.index-in-Some.ensures e.linked e.slots e.others e.own e.views e.capacity in
    rw c.key-at-in-Some.ensures (subst (λ o. Drops c.args.nodes.now c.drop_ids_at-previous.new.nodes c.args.group c.args.ids o c.index-in-Some.result.now.next) (sym e.previous) on)

pub returns : goal.returns
returns c =
    let d = subst (Drops c.args.nodes.now c.loop-at.nodes c.args.group c.args.ids c.loop-at.previous) c.in_default.is c.loop-at.invariant in
    record { linked = d.linked; caught = drops_end c.args.nodes.now c.loop-at.nodes c.args.group c.args.ids c.loop-at.previous d; views = d.views; capacity = d.capacity }
