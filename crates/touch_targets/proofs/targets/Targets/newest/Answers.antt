use Rattle.std.proofs.Common.{◌≡◌, ◌∙◌, [], Some, None, ap, refl, subst, sym}
use Rattle.slab.specs.Slab.{get}
use Rattle.touch_targets.specs.Captures.{first_child, from_child, targets_from}
use Rattle.touch_targets.specs.Nodes.{Chain, slots_by}
use Rattle.touch_targets.specs.Seats.{targets_of}
use Rattle.touch_targets.specs.declared.node.Node.{Node}
use Rattle.touch_targets.proofs.chains.Chains.{some_is}
use Rattle.touch_targets.proofs.chains.Reading.{StartsWith, starts_none, starts_with, targets_at}
use Rattle.touch_targets.proofs.pools.SeatLaws.{at_group, no_group, node_of}
use Rattle.touch_targets.proofs.targets.Targets.newest.Goals as goal
use Rattle.touch_targets.proofs.targets.Targets.newest.Goals.{After-from_residual-in_err-newest, In_ok-newest}

pub returns-in_err-slot-clause-child : goal.returns-in_err-slot-clause-child
returns-in_err-slot-clause-child c =
    let none : targets_of c.args.self.now c.args.group ≡ [] = no_group c.self.inside c.args.self.now c.self.view_is c.args.group (sym c.slot_of.ensures ∙ c.in_err-slot.was) in
    c.from_residual.ensures ∙ ap first_child (sym none)

pub returns-in_err-slot-clause-part : goal.returns-in_err-slot-clause-part
returns-in_err-slot-clause-part c =
    let none : targets_of c.args.self.now c.args.group ≡ [] = no_group c.self.inside c.args.self.now c.self.view_is c.args.group (sym c.slot_of.ensures ∙ c.in_err-slot.was) in
    ap (λ o. targets_from o (targets_of c.args.self.now c.args.group)) c.from_residual.ensures ∙ sym none

pub index-requires : goal.index-requires
index-requires c = rw (node_of c.self.inside c.self.invariant c.args.group c.in_ok-slot.slot (sym c.slot_of.ensures ∙ c.in_ok-slot.was)).is refl

nothing : (c : After-from_residual-in_err-newest) → targets_of c.args.self.now c.args.group ≡ []
nothing c =
    let a = c.self.inside in
    let slot = c.in_ok-slot.slot in
    let none : c.index.result.now.newest ≡ None = sym c.key.ensures ∙ c.in_err-newest.was in
    let chain = c.self.invariant.linked.chained slot c.index.result.now c.index.ensures in
    at_group a c.args.self.now c.self.view_is c.args.group slot (sym c.slot_of.ensures ∙ c.in_ok-slot.was)
    ∙ starts_none a.nodes slot (slots_by a.nodes slot) (subst (λ o. Chain (get a.nodes) slot o (slots_by a.nodes slot)) none chain)

pub returns-in_err-newest-clause-child : goal.returns-in_err-newest-clause-child
returns-in_err-newest-clause-child c =
    c.from_residual-in_err-newest.ensures ∙ ap first_child (sym (nothing (goal.at.returns-in_err-newest-clause-child c).After-from_residual-in_err-newest))

pub returns-in_err-newest-clause-part : goal.returns-in_err-newest-clause-part
returns-in_err-newest-clause-part c =
    ap (λ o. targets_from o (targets_of c.args.self.now c.args.group)) c.from_residual-in_err-newest.ensures
    ∙ sym (nothing (goal.at.returns-in_err-newest-clause-part c).After-from_residual-in_err-newest)

start : (c : In_ok-newest) → StartsWith c.self.inside.nodes c.in_ok-newest.newest (targets_at c.self.inside.nodes (slots_by c.self.inside.nodes c.in_ok-slot.slot))
start c =
    let s = c.self.inside.nodes in
    let slot = c.in_ok-slot.slot in
    let some : c.index.result.now.newest ≡ Some c.in_ok-newest.newest = sym c.key.ensures ∙ c.in_ok-newest.was in
    let chain = c.self.invariant.linked.chained slot c.index.result.now c.index.ensures in
    starts_with s slot c.in_ok-newest.newest (slots_by s slot) (subst (λ o. Chain (get s) slot o (slots_by s slot)) some chain)

pub index-requires-2 : goal.index-requires-2
index-requires-2 c = rw (start (goal.at.index-requires-2 c).In_ok-newest).is refl

pub returns-clause-child : goal.returns-clause-child
returns-clause-child c =
    let w = start (goal.at.returns-clause-child c).In_ok-newest in
    let same : w.node ≡ c.index-2.result.now = some_is (sym w.is ∙ c.index-2.ensures) in
    let whole = at_group c.self.inside c.args.self.now c.self.view_is c.args.group c.in_ok-slot.slot (sym c.slot_of.ensures ∙ c.in_ok-slot.was) in
    ap (λ (n : Node). Some n.view) (sym same) ∙ w.child ∙ ap first_child (sym whole)

pub returns-clause-part : goal.returns-clause-part
returns-clause-part c =
    let w = start (goal.at.returns-clause-part c).In_ok-newest in
    let same : w.node ≡ c.index-2.result.now = some_is (sym w.is ∙ c.index-2.ensures) in
    let whole = at_group c.self.inside c.args.self.now c.self.view_is c.args.group c.in_ok-slot.slot (sym c.slot_of.ensures ∙ c.in_ok-slot.was) in
    ap (λ (n : Node). from_child n.view (targets_of c.args.self.now c.args.group)) (sym same)
    ∙ ap (from_child w.node.view) whole ∙ w.part ∙ sym whole
