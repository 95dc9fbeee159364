use Rattle.std.proofs.Common.{◌≡◌, ◌∙◌, ap, refl, subst, sym}
use Rattle.view_model.specs.PlainTree.{PlainView}
use Rattle.view_tree.specs.tree.Attached.{Attached}
use Rattle.view_tree.specs.tree.Bed.{represented}
use Rattle.view_tree.specs.tree.Directions.{running_below}
use Rattle.view_tree.specs.node.Nodes.{value_of, views_in}
use Rattle.view_tree.specs.tree.Groups.{HasNoOther}
use Rattle.sibling_orders.specs.Ordering.{IsGrouped, group_at, orders_in}
use Rattle.view_tree.specs.Rows.{leaf}
use Rattle.view_tree.specs.Views.{Views, orders_under, plain_of}
use Rattle.view_tree.specs.declared.tree.ViewTree.TheInside.{Inside}
use Rattle.view_tree.proofs.nodes.NodeGrowth.{sound-room, value-room}
use Rattle.view_tree.proofs.nodes.NodeReads.{is_tree}
use Rattle.view_tree.proofs.nodes.WholeTree.{attached-orders, groups_along, planted-fields, planted-whole, whole-room}
use Rattle.view_tree.proofs.orders.OnlyLayouts.{layouts-leaf, only-added}
use Rattle.view_tree.proofs.orders.RowLaws.{few_at, grouped-attached, orders_kept}
use Rattle.view_tree.proofs.tree.ViewTree.attach.Goals as goal
use Rattle.view_tree.proofs.tree.ViewTree.attach.Goals.{After-branch-make_group_room, After-plant-key}

abbrev roomy : After-branch-make_group_room → Inside
roomy c = record c.self.inside { nodes = c.make_room.new.nodes; keys = c.make_room.new.keys; ids = c.make_room.new.ids; groups = c.make_group_room.new.groups }

same : (c : After-branch-make_group_room) → value_of (roomy c) ≡ c.args.self.now
same c =
    value-room c.self.inside (roomy c) c.make_room.ensures.nodes c.make_room.ensures.keys c.make_room.ensures.ids c.make_group_room.ensures.same refl refl refl
    ∙ c.self.view_is

grouped : (c : After-branch-make_group_room) → IsGrouped (group_at c.make_group_room.new.groups) (plain_of c.args.self.now)
grouped c =
    groups_along (group_at c.self.inside.groups) (group_at c.make_group_room.new.groups) c.args.self.now c.make_group_room.ensures.groups
    (subst (λ (v : Views). IsGrouped (group_at c.self.inside.groups) (plain_of v)) c.self.view_is c.self.invariant.grouped)

pub invariant_of-self : goal.invariant_of-self
invariant_of-self c =
    whole-room c.self.inside (record c.self.inside { nodes = c.make_room.new.nodes; keys = c.make_room.new.keys; ids = c.make_room.new.ids })
    c.make_room.ensures.nodes c.make_room.ensures.keys c.make_room.ensures.ids refl (λ k. refl) refl refl refl c.self.invariant

pub invariant_of-self-in_err-make_group_room : goal.invariant_of-self-in_err-make_group_room
invariant_of-self-in_err-make_group_room c =
    whole-room c.self.inside
    (record c.self.inside { nodes = c.make_room.new.nodes; keys = c.make_room.new.keys; ids = c.make_room.new.ids; groups = c.make_group_room.new.groups })
    c.make_room.ensures.nodes c.make_room.ensures.keys c.make_room.ensures.ids c.make_group_room.ensures.same c.make_group_room.ensures.groups refl refl refl c.self.invariant

pub plant-key-requires-clause-sound : goal.plant-key-requires-clause-sound
plant-key-requires-clause-sound c =
    let a : Inside = record c.self.inside { nodes = c.make_room.new.nodes; keys = c.make_room.new.keys; ids = c.make_room.new.ids } in
    planted-fields a (sound-room c.self.inside a c.make_room.ensures.nodes c.make_room.ensures.keys c.make_room.ensures.ids refl refl refl refl c.self.invariant.planted)

pub join_group-requires-clause-few : goal.join_group-requires-clause-few
join_group-requires-clause-few c = λ k reported.
    few_at (group_at c.make_group_room.new.groups) c.args.self.now c.args.parent (is_tree c.self.inside c.args.self.now c.self.invariant.planted c.self.view_is) c.requires.live
    (grouped (goal.at.join_group-requires-clause-few c).After-branch-make_group_room) k (sym c.group_number-group.ensures ∙ reported)

came : (c : After-plant-key) → value_of (record c.self.inside { nodes = c.make_room.new.nodes; keys = c.make_room.new.keys; ids = c.make_room.new.ids; groups = c.make_group_room.new.groups }) ≡ c.args.self.now
    → (new : Views) → new ≡ record (represented c.plant-key.new.self) { orders = new.orders; counts = new.counts }
    → Attached c.args.self.now c.args.parent (running_below c.args.parent c.args.self.now.tree (record { number = c.args.self.now.next; class = c.args.class; facts = c.args.facts; text = c.args.text })) c.plant-key.result new
came c same new is =
    subst (λ (v : Views). Attached v c.args.parent (running_below c.args.parent v.tree (record { number = v.next; class = c.args.class; facts = c.args.facts; text = c.args.text })) c.plant-key.result new) same
    (subst (Attached _ _ _ _) (sym is)
    (attached-orders (views_in c.make_room.new.nodes c.self.inside.root c.self.inside.next) (represented c.plant-key.new.self) c.args.parent
    (running_below c.args.parent (views_in c.make_room.new.nodes c.self.inside.root c.self.inside.next).tree (record { number = c.self.inside.next; class = c.args.class; facts = c.args.facts; text = c.args.text })) c.plant-key.result
    (orders_in c.make_group_room.new.groups.entries) new.orders c.self.inside.counts new.counts c.plant-key.ensures.attached))

pub invariant_of-self-2 : goal.invariant_of-self-2
invariant_of-self-2 c =
    let at = goal.at.invariant_of-self-2 c in
    let room = at.After-branch-make_group_room in
    let b : Inside = record c.self.inside {
      nodes = c.plant-key.new.self.nodes.now;
      keys = c.plant-key.new.self.keys.now;
      ids = c.plant-key.new.self.ids.now;
      groups = c.join_group.new.groups;
      root = c.plant-key.new.self.root.now;
      next = c.plant-key.new.self.next.now;
    } in
    let number = ap (λ (v : Views). v.next) c.self.view_is in
    record {
      planted = planted-whole b c.plant-key.ensures.sound;
      grouped =
          grouped-attached c.args.self.now (value_of b) c.args.parent (running_below c.args.parent c.args.self.now.tree (record { number = c.self.inside.next; class = c.args.class; facts = c.args.facts; text = c.args.text }))
          (group_at c.make_group_room.new.groups) (group_at c.join_group.new.groups) (is_tree c.self.inside c.args.self.now c.self.invariant.planted c.self.view_is) c.requires.live number
          c.requires.unnamed.0 c.requires.unnamed.1 c.join_group.ensures.own
          (λ k reported other. c.join_group.ensures.parent k (c.group_number-group.ensures ∙ reported) other)
          (λ k apart other. c.join_group.ensures.others k (λ reported. apart (sym c.group_number-group.ensures ∙ reported)) other)
          (rw number (came at.After-plant-key (same room) (value_of b) refl).plain)
          (grouped room);
      only =
          let view : PlainView = running_below c.args.parent c.args.self.now.tree (record { number = c.args.self.now.next; class = c.args.class; facts = c.args.facts; text = c.args.text }) in
          only-added (group_at c.self.inside.groups) (group_at c.join_group.new.groups) c.args.self.now.tree (value_of b).tree c.args.parent (leaf c.plant-key.result view) c.requires.live c.requires.root
          (is_tree c.self.inside c.args.self.now c.self.invariant.planted c.self.view_is).keys (came at.After-plant-key (same room) (value_of b) refl).tree
          (λ k none before. c.join_group.ensures.unused k (λ relative equal. layouts-leaf k c.plant-key.result view none relative (equal ∙ number)) (c.make_group_room.ensures.groups k ∙ before))
          (subst (λ (v : Views). HasNoOther (group_at c.self.inside.groups) v.tree) c.self.view_is c.self.invariant.only);
    }

pub returns-clause-orders : goal.returns-clause-orders
returns-clause-orders c = λ k apart other.
    let number : c.self.inside.next ≡ c.args.self.now.next = ap (λ (v : Views). v.next) c.self.view_is in
    orders_kept c.self.inside.groups.entries c.join_group.new.groups.entries k
    (c.join_group.ensures.others k (λ reported. apart (sym c.group_number-group.ensures ∙ reported)) (λ same. other (same ∙ number)) ∙ c.make_group_room.ensures.groups k)
    ∙ ap (λ (v : Views). orders_under v k) c.self.view_is

pub returns-clause-attached : goal.returns-clause-attached
returns-clause-attached c =
    let at = goal.at.returns-clause-attached c in
    came at.After-plant-key (same at.After-branch-make_group_room) _ refl
