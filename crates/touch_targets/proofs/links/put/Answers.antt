use Rattle.std.proofs.Common.{◌≡◌, Some, arith, sym, ◌∙◌, ap}
use Rattle.std.proofs.lemmas.Nat.{le_or_r}
use Rattle.slab.specs.Slab.{get}
use Rattle.touch_targets.specs.Nodes.{changed}
use Rattle.touch_targets.specs.Seats.{mask_with}
use Rattle.touch_targets.specs.declared.node.Node.{Node}
use Rattle.touch_targets.proofs.chains.Chains.{some_is}
use Rattle.touch_targets.proofs.pools.Putting.{caught_put_more, caught_put_new}
use Rattle.touch_targets.proofs.links.put.Goals as goal

pub returns-in-None-clause-caught : goal.returns-in-None-clause-caught
returns-in-None-clause-caught c =
    caught_put_new c.args.nodes.now c.link_newest.new.nodes c.args.group c.args.child c.args.ids c.index.result.now c.requires.linked c.index.ensures (sym c.key.ensures ∙ c.in-None.is) c.link_newest.ensures.caught

pub set_ids-requires-clause-ids : goal.set_ids-requires-clause-ids
unfolding mask_with
set_ids-requires-clause-ids c = λ zero.
    c.requires.ids (omega (arith, zero, c.ids_with-all.ensures, le_or_r c.index-in-Some.result.now.ids c.args.ids))

pub returns-in-Some-clause-caught : goal.returns-in-Some-clause-caught
returns-in-Some-clause-caught c =
    let k = c.index.result.now in
    let same : c.index-in-Some.result.now ≡ k = some_is (sym c.index-in-Some.ensures ∙ c.index.ensures) in
    let all : c.ids_with-all.result ≡ mask_with k.ids c.args.ids = c.ids_with-all.ensures ∙ ap (λ (n : Node). mask_with n.ids c.args.ids) same in
    let was : k.group ≡ Some c.in-Some.field-0 = sym c.key.ensures ∙ c.in-Some.is in
    let group : k.group ≡ Some c.args.group = was ∙ ap (λ x. Some x) (c.requires.only k c.in-Some.field-0 c.index.ensures was) in
    caught_put_more c.args.nodes.now c.set_ids.new.nodes c.args.group c.args.child c.args.ids k c.requires.linked c.index.ensures group
    (λ x. c.set_ids.ensures.nodes x ∙ ap (λ ids. changed (get c.args.nodes.now) c.args.child (λ (n : Node). record n { ids = ids }) x) all)
    c.set_ids.ensures.slots
