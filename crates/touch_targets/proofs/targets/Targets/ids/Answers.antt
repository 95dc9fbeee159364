use Rattle.std.proofs.Common.{◌∙◌, ap, refl, sym}
use Rattle.touch_targets.specs.Captures.{first_ids}
use Rattle.touch_targets.proofs.chains.Chains.{true_not_false}
use Rattle.touch_targets.proofs.pools.SeatLaws.{closed_no_target, free_node, node_of, target_at}
use Rattle.touch_targets.proofs.targets.Targets.ids.Goals as goal

pub index-requires : goal.index-requires
index-requires c = rw (node_of c.self.inside c.self.invariant c.args.child c.in-Some.slot (sym c.slot_of.ensures ∙ c.in-Some.is)).is refl

pub returns-in-None-clause-ids : goal.returns-in-None-clause-ids
returns-in-None-clause-ids c = λ group target.
    true_not_false target (closed_no_target c.self.inside c.args.self.now c.self.invariant c.self.view_is c.args.child (sym c.slot_of.ensures ∙ c.in-None.is) group)

pub returns-in-Some-clause-ids : goal.returns-in-Some-clause-ids
returns-in-Some-clause-ids c = λ group target.
    let t = target_at c.self.inside c.args.self.now c.self.invariant c.self.view_is c.args.child c.in-Some.slot c.index.result.now (sym c.slot_of.ensures ∙ c.in-Some.is) c.index.ensures group target in
    sym (ap first_ids t.from)

pub returns-in-Some-clause-free : goal.returns-in-Some-clause-free
returns-in-Some-clause-free c = λ free.
    let none = free_node c.self.inside c.args.self.now c.self.invariant c.self.view_is c.args.child c.in-Some.slot c.index.result.now (sym c.slot_of.ensures ∙ c.in-Some.is) c.index.ensures free in
    (c.self.invariant.linked.free c.in-Some.slot c.index.result.now c.index.ensures none).1
