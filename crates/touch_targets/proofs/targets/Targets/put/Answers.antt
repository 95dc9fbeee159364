use Rattle.std.proofs.Common.{◌≡◌, ◌∙◌, Some, ap, refl, sym}
use Rattle.std.specs.Prelude.{◌==◌, if◌then◌else◌}
use Rattle.touch_event.specs.PointerSets.{has_id}
use Rattle.touch_targets.specs.Captures.{put_target}
use Rattle.touch_targets.specs.Nodes.{caught_at, caught_by, view_at}
use Rattle.touch_targets.specs.Pool.{slot_in, seats_in}
use Rattle.touch_targets.specs.Seats.{put_caught}
use Rattle.touch_targets.specs.declared.node.Node.{Node}
use Rattle.touch_targets.specs.declared.targets.Targets.TheInside.{Inside}
use Rattle.touch_targets.proofs.pools.CaughtLaws.{put_of}
use Rattle.touch_targets.proofs.chains.Chains.{some_is}
use Rattle.touch_targets.proofs.pools.Membership.{sound_changed}
use Rattle.touch_targets.proofs.pools.SeatLaws.{OpenNode, changed_targets, node_of, open_is, same_open, target_where}
use Rattle.touch_targets.proofs.targets.Targets.put.Goals as goal
use Rattle.touch_targets.proofs.targets.Targets.put.Goals.{After-ensure_node-slot}

pub ensure_node-at-requires-clause-open : goal.ensure_node-at-requires-clause-open
ensure_node-at-requires-clause-open c = sym (open_is c.self.inside c.args.self.now c.self.view_is c.args.group) ∙ c.requires.group

pub ensure_node-slot-requires-clause-open : goal.ensure_node-slot-requires-clause-open
ensure_node-slot-requires-clause-open c =
    let a : Inside = record { nodes = c.ensure_node-at.new.nodes; slots = c.ensure_node-at.new.slots } in
    sym (open_is a c.args.self.now (c.ensure_node-at.ensures.seats ∙ c.self.view_is) c.args.child) ∙ c.requires.child

-- the pool once both views have nodes
abbrev noted : After-ensure_node-slot → Inside
noted c = record { nodes = c.ensure_node-slot.new.nodes; slots = c.ensure_node-slot.new.slots }

view_is : (c : After-ensure_node-slot) → seats_in (noted c).nodes (noted c).slots ≡ c.args.self.now
view_is c = c.ensure_node-slot.ensures.seats ∙ c.ensure_node-at.ensures.seats ∙ c.self.view_is

group_at : (c : After-ensure_node-slot) → slot_in (noted c).slots c.args.group ≡ Some c.ensure_node-at.result
group_at c = c.ensure_node-slot.ensures.kept c.args.group c.ensure_node-at.result c.ensure_node-at.ensures.slot

child_node : (c : After-ensure_node-slot) → OpenNode (noted c).nodes c.ensure_node-slot.result c.args.child
child_node c = node_of (noted c) c.ensure_node-slot.ensures.sound c.args.child c.ensure_node-slot.result c.ensure_node-slot.ensures.slot

pub put-requires-clause-group : goal.put-requires-clause-group
put-requires-clause-group c =
    let at = (goal.at.put-requires-clause-group c).After-ensure_node-slot in
    rw (node_of (noted at) at.ensure_node-slot.ensures.sound at.args.group at.ensure_node-at.result (group_at at)).is refl

pub put-requires-clause-child : goal.put-requires-clause-child
put-requires-clause-child c = rw (child_node (goal.at.put-requires-clause-child c).After-ensure_node-slot).is refl

pub put-requires-clause-only : goal.put-requires-clause-only
put-requires-clause-only c = λ node x is group_is.
    let at = (goal.at.put-requires-clause-only c).After-ensure_node-slot in
    let n = child_node at in
    let view : node.view ≡ c.args.child = ap (λ (n : Node). n.view) (some_is (sym is ∙ n.is)) ∙ n.view_is in
    let t = target_where (noted at) c.args.self.now at.ensure_node-slot.ensures.sound (view_is at) c.args.child c.ensure_node-slot.result x node is view group_is in
    some_is (sym t.1 ∙ ap (slot_in (noted at).slots) (c.requires.only t.0 t.2) ∙ group_at at)

pub invariant_of-self : goal.invariant_of-self
invariant_of-self c =
    let a : Inside = record { nodes = c.ensure_node-slot.new.nodes; slots = c.ensure_node-slot.new.slots } in
    sound_changed a (record { nodes = c.put.new.nodes; slots = a.slots }) c.ensure_node-slot.ensures.sound refl c.put.ensures.linked c.put.ensures.views c.put.ensures.capacity

pub returns-clause-opened : goal.returns-clause-opened
returns-clause-opened c =
    let at = (goal.at.returns-clause-opened c).After-ensure_node-slot in
    same_open (noted at) (record { nodes = c.put.new.nodes; slots = (noted at).slots }) c.args.self.now (view_is at) refl

pub returns-clause-targets : goal.returns-clause-targets
returns-clause-targets c =
    let at = (goal.at.returns-clause-targets c).After-ensure_node-slot in
    let a = noted at in
    let b : Inside = record { nodes = c.put.new.nodes; slots = a.slots } in
    let n = child_node at in
    let view : view_at a.nodes c.ensure_node-slot.result ≡ c.args.child = ap (λ o. (caught_at o).child) n.is ∙ n.view_is in
    changed_targets a b c.args.self.now c.args.group c.ensure_node-at.result (put_caught c.args.child c.args.ids) (put_target c.args.child (has_id c.args.ids))
    c.ensure_node-slot.ensures.sound (view_is at) refl (group_at at)
    (λ x. c.put.ensures.caught x ∙ ap (λ v. if x == c.ensure_node-at.result then put_caught v c.args.ids (caught_by a.nodes x) else caught_by a.nodes x) view)
    (put_of c.args.child c.args.ids (caught_by a.nodes c.ensure_node-at.result))
