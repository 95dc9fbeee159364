use Rattle.std.proofs.Common.{◌≡◌, ◌∙◌, ℕ, true, [], Some, None, ap, refl, subst, sym}
use Rattle.slab.specs.Slab.{get}
use Rattle.touch_targets.specs.Captures.{first_child, from_child, is_target, older, targets_from}
use Rattle.touch_targets.specs.Nodes.{Chain, slots_by}
use Rattle.touch_targets.specs.Seats.{targets_of}
use Rattle.touch_targets.proofs.chains.Chains.{no_some, true_not_false}
use Rattle.touch_targets.proofs.chains.Reading.{next_some, next_there, starts_none}
use Rattle.touch_targets.proofs.pools.SeatLaws.{closed_no_target, free_node, node_of, target_at}
use Rattle.touch_targets.proofs.targets.Targets.next.Goals as goal
use Rattle.touch_targets.proofs.targets.Targets.next.Goals.{After-from_residual-in_err-next, After-index-2}

pub returns-in_err-slot-clause-child : goal.returns-in_err-slot-clause-child
returns-in_err-slot-clause-child c = λ group target.
    true_not_false target (closed_no_target c.self.inside c.args.self.now c.self.invariant c.self.view_is c.args.child (sym c.slot_of.ensures ∙ c.in_err-slot.was) group)

pub returns-in_err-slot-clause-part : goal.returns-in_err-slot-clause-part
returns-in_err-slot-clause-part c = λ group target.
    true_not_false target (closed_no_target c.self.inside c.args.self.now c.self.invariant c.self.view_is c.args.child (sym c.slot_of.ensures ∙ c.in_err-slot.was) group)

pub index-requires : goal.index-requires
index-requires c = rw (node_of c.self.inside c.self.invariant c.args.child c.in_ok-slot.slot (sym c.slot_of.ensures ∙ c.in_ok-slot.was)).is refl

-- the oldest target has none after it
last : (c : After-from_residual-in_err-next) → (group : ℕ) → is_target c.args.child (targets_of c.args.self.now group) ≡ true → older (from_child c.args.child (targets_of c.args.self.now group)) ≡ []
last c group target =
    let s = c.self.inside.nodes in
    let none : c.index.result.now.next ≡ None = sym c.key.ensures ∙ c.in_err-next.was in
    let t = target_at c.self.inside c.args.self.now c.self.invariant c.self.view_is c.args.child c.in_ok-slot.slot c.index.result.now (sym c.slot_of.ensures ∙ c.in_ok-slot.was) c.index.ensures group target in
    ap older t.from ∙ starts_none s t.slot t.found.rest (subst (λ o. Chain (get s) t.slot o t.found.rest) none t.found.chain)

pub returns-in_err-next-clause-child : goal.returns-in_err-next-clause-child
returns-in_err-next-clause-child c = λ group target.
    c.from_residual-in_err-next.ensures ∙ ap first_child (sym (last (goal.at.returns-in_err-next-clause-child c).After-from_residual-in_err-next group target))

pub returns-in_err-next-clause-part : goal.returns-in_err-next-clause-part
returns-in_err-next-clause-part c = λ group target.
    ap (λ o. targets_from o (targets_of c.args.self.now group)) c.from_residual-in_err-next.ensures
    ∙ sym (last (goal.at.returns-in_err-next-clause-part c).After-from_residual-in_err-next group target)

pub index-requires-2 : goal.index-requires-2
index-requires-2 c =
    let next : c.index.result.now.next ≡ Some c.in_ok-next.next = sym c.key.ensures ∙ c.in_ok-next.was in
    rw (next_there c.self.inside.nodes c.self.invariant.linked c.in_ok-slot.slot c.in_ok-next.next c.index.result.now c.index.ensures next).is refl

pub returns-clause-child : goal.returns-clause-child
returns-clause-child c = λ group target.
    let a = c.self.inside in
    let next : c.index.result.now.next ≡ Some c.in_ok-next.next = sym c.key.ensures ∙ c.in_ok-next.was in
    let t = target_at a c.args.self.now c.self.invariant c.self.view_is c.args.child c.in_ok-slot.slot c.index.result.now (sym c.slot_of.ensures ∙ c.in_ok-slot.was) c.index.ensures group target in
    let n = next_some a.nodes c.self.invariant.linked t.slot t.start c.in_ok-next.next c.index.result.now (slots_by a.nodes t.slot) t.chain t.found next c.index-2.result.now c.index-2.ensures in
    n.0 ∙ ap first_child (sym (ap older t.from))

pub returns-clause-part : goal.returns-clause-part
returns-clause-part c = λ group target.
    let a = c.self.inside in
    let next : c.index.result.now.next ≡ Some c.in_ok-next.next = sym c.key.ensures ∙ c.in_ok-next.was in
    let t = target_at a c.args.self.now c.self.invariant c.self.view_is c.args.child c.in_ok-slot.slot c.index.result.now (sym c.slot_of.ensures ∙ c.in_ok-slot.was) c.index.ensures group target in
    let n = next_some a.nodes c.self.invariant.linked t.slot t.start c.in_ok-next.next c.index.result.now (slots_by a.nodes t.slot) t.chain t.found next c.index-2.result.now c.index-2.ensures in
    ap (from_child c.index-2.result.now.view) t.whole ∙ n.1 ∙ sym (ap older t.from)

pub returns-clause-free : goal.returns-clause-free
returns-clause-free c = λ free.
    let next : c.index.result.now.next ≡ Some c.in_ok-next.next = sym c.key.ensures ∙ c.in_ok-next.was in
    let none = free_node c.self.inside c.args.self.now c.self.invariant c.self.view_is c.args.child c.in_ok-slot.slot c.index.result.now (sym c.slot_of.ensures ∙ c.in_ok-slot.was) c.index.ensures free in
    no_some (c.self.invariant.linked.free c.in_ok-slot.slot c.index.result.now c.index.ensures none).0 next
