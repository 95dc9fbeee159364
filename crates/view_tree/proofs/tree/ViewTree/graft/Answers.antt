use Rattle.std.proofs.Common.{◌≡◌, ◌∙◌, ◌+◌, ◌≤◌, IfSome, List, None, [], length, refl, sym, ap, arith, subst}
use Rattle.std.specs.Option.{option_map, option_or}
use Rattle.std.specs.Prelude.{Vec, Err, ℕ}
use Rattle.std.specs.Vec.Iter.{into_iter_items}
use Rattle.std.specs.declared.alloc.Global.{Global}
use Rattle.view_model.specs.Numbers.{max_views}
use Rattle.view_model.specs.declared.sprout.Sprout.{Sprout}
use Rattle.view_model.specs.Cycles.{graft_cycle}
use Rattle.view_model.specs.Forest.{count_of}
use Rattle.view_model.specs.Grafts.{graft_refusal}
use Rattle.view_model.specs.Growth.{refusal_at}
use Rattle.view_model.specs.Sprouts.{seed_of, seeds_of, view_of}
use Rattle.view_tree.specs.tree.Attached.{Attached}
use Rattle.view_tree.specs.tree.Bed.{represented}
use Rattle.view_tree.specs.tree.Directions.{running_below}
use Rattle.view_tree.specs.tree.Grafted.{Grafted}
use Rattle.view_tree.specs.tree.Grafting.{AreGrafted, entries_cycle}
use Rattle.sibling_orders.specs.Cycles.{IsMadeUnless}
use Rattle.view_tree.specs.node.Nodes.{value_of, views_in}
use Rattle.view_tree.specs.tree.Groups.{HasNoOther}
use Rattle.sibling_orders.specs.Ordering.{IsGrouped, group_at, orders_in}
use Rattle.view_tree.specs.Views.{IsLive, Views, no_counts, number_of, orders_under, plain_of}
use Rattle.sibling_orders.specs.declared.groups.SiblingOrders.{SiblingOrders}
use Rattle.view_tree.specs.declared.tree.ViewTree.TheInside.{Inside}
use Rattle.view_tree.proofs.grafts.EntryLaws.{refused_or}
use Rattle.view_tree.proofs.grafts.Grafts.{OutermostCame, outermost_came, room_for, taken}
use Rattle.view_tree.proofs.grafts.GrownGroups.{cycle-grafted, grouped-grafted, kept-grafted}
use Rattle.view_tree.proofs.grafts.OnlyGrafted.{only-grafted}
use Rattle.view_tree.proofs.grafts.Saplings.{shaped}
use Rattle.view_tree.proofs.nodes.NodeGrowth.{sound-room, value-room}
use Rattle.view_tree.proofs.nodes.NodeReads.{is_tree}
use Rattle.view_tree.proofs.nodes.WholeTree.{attached-orders, gained-orders, groups_along, planted-fields, planted-whole, whole-room}
use Rattle.view_tree.proofs.orders.OnlyLayouts.{only-same}
use Rattle.view_tree.proofs.orders.RowLaws.{orders_kept}
use Rattle.view_tree.proofs.tree.ViewTree.graft.Goals as goal
use Rattle.view_tree.proofs.tree.ViewTree.graft.Goals.{After-branch-make_group_room, After-plant-key, After-note_groups}

abbrev roomy : After-branch-make_group_room → Inside
roomy c = record c.self.inside { nodes = c.make_room.new.nodes; keys = c.make_room.new.keys; ids = c.make_room.new.ids; groups = c.make_group_room.new.groups }

same : (c : After-branch-make_group_room) → value_of (roomy c) ≡ c.args.self.now
same c =
    value-room c.self.inside (roomy c) c.make_room.ensures.nodes c.make_room.ensures.keys c.make_room.ensures.ids c.make_group_room.ensures.same refl refl refl
    ∙ c.self.view_is

free : (c : After-branch-make_group_room) → graft_refusal (plain_of c.args.self.now) (option_map (number_of c.args.self.now) c.args.parent) (seeds_of c.args.sapling.sprouts.items) ≡ None
free c =
    ap (λ list. graft_refusal (plain_of c.args.self.now) (option_map (number_of c.args.self.now) c.args.parent) (seeds_of list)) (sym c.deref.ensures.value)
    ∙ c.in_ok-may_take.ensures

grouped : (c : After-branch-make_group_room) → IsGrouped (group_at c.make_group_room.new.groups) (plain_of c.args.self.now)
grouped c =
    groups_along (group_at c.self.inside.groups) (group_at c.make_group_room.new.groups) c.args.self.now c.make_group_room.ensures.groups
    (subst (λ (v : Views). IsGrouped (group_at c.self.inside.groups) (plain_of v)) c.self.view_is c.self.invariant.grouped)

made : (c : After-branch-make_group_room) → AreGrafted c.args.self.now c.args.parent c.args.sapling.sprouts.items c.in-Ok.entries.items
made c = subst (λ (sprouts : List Sprout). AreGrafted c.args.self.now c.args.parent sprouts c.in-Ok.entries.items) c.deref-2.ensures.value c.in-Ok.ensures.1

came : (c : After-plant-key)
    → value_of (record c.self.inside { nodes = c.make_room.new.nodes; keys = c.make_room.new.keys; ids = c.make_room.new.ids; groups = c.make_group_room.new.groups }) ≡ c.args.self.now
    → graft_refusal (plain_of c.args.self.now) (option_map (number_of c.args.self.now) c.args.parent) (seeds_of c.args.sapling.sprouts.items) ≡ None
    → OutermostCame c.args.self.now (represented c.plant-key.new.self) c.args.parent c.plant-key.result
    (into_iter_items c.next.new.self) c.args.sapling.sprouts.items
came c same free =
    outermost_came c.args.self.now _ c.args.parent c.plant-key.result c.in-Some.outermost (into_iter_items c.next.new.self) c.args.sapling.sprouts.items
    (is_tree c.self.inside c.args.self.now c.self.invariant.planted c.self.view_is) c.requires.live c.requires.root
    (subst
    (λ (v : Views). Attached v c.args.parent (running_below c.args.parent v.tree (view_of v.next (seed_of c.in-Some.outermost))) c.plant-key.result (represented c.plant-key.new.self))
    same
    (attached-orders (views_in c.make_room.new.nodes c.self.inside.root c.self.inside.next) (represented c.plant-key.new.self) c.args.parent
    (running_below c.args.parent (views_in c.make_room.new.nodes c.self.inside.root c.self.inside.next).tree (view_of c.self.inside.next (seed_of c.in-Some.outermost))) c.plant-key.result (orders_in c.make_group_room.new.groups.entries) [] c.self.inside.counts no_counts c.plant-key.ensures.attached))
    (sym c.into_iter-sprouts.ensures.rest ∙ c.in-Some.ensures.items) c.args.sapling.preorder free

abbrev end : After-note_groups → Inside
end c = record c.self.inside { nodes = c.sow.new.self.nodes.now; keys = c.sow.new.self.keys.now; ids = c.sow.new.self.ids.now; groups = c.note_groups.new.groups; root = c.sow.new.self.root.now; next = c.sow.new.self.next.now }

grafted : (c : After-note_groups)
    → OutermostCame c.args.self.now (represented c.plant-key.new.self) c.args.parent c.plant-key.result
    (into_iter_items c.next.new.self) c.args.sapling.sprouts.items
    → Grafted c.args.self.now c.args.parent (seeds_of c.args.sapling.sprouts.items) c.plant-key.result (value_of (end c))
grafted c whole = whole.grafted (value_of (end c)) (gained-orders _ _ c.plant-key.result (orders_in c.note_groups.new.groups.entries) c.self.inside.counts c.sow.ensures.gained) c.sow.ensures.plain c.sow.ensures.next

pub entries-requires-clause-few : goal.entries-requires-clause-few
entries-requires-clause-few c =
    let v = c.args.self.now in
    let free : graft_refusal (plain_of v) (option_map (number_of v) c.args.parent) (seeds_of c.args.sapling.sprouts.items) ≡ None =
    ap (λ list. graft_refusal (plain_of v) (option_map (number_of v) c.args.parent) (seeds_of list)) (sym c.deref.ensures.value) ∙ c.in_ok-may_take.ensures in
    subst (λ (sprouts : List Sprout). count_of v.tree + length sprouts ≤ max_views) (sym c.deref-2.ensures.value)
    (room_for v c.args.parent c.args.sapling.sprouts.items (is_tree c.self.inside v c.self.invariant.planted c.self.view_is) c.requires.live c.requires.root c.args.sapling.preorder free)

pub returns-in-Err-clause-refused : goal.returns-in-Err-clause-refused
returns-in-Err-clause-refused c =
    let v = c.args.self.now in
    let free : graft_refusal (plain_of v) (option_map (number_of v) c.args.parent) (seeds_of c.args.sapling.sprouts.items) ≡ None =
    ap (λ list. graft_refusal (plain_of v) (option_map (number_of v) c.args.parent) (seeds_of list)) (sym c.deref.ensures.value) ∙ c.in_ok-may_take.ensures in
    let cycle = cycle-grafted (group_at c.self.inside.groups) v c.args.parent c.args.sapling.sprouts.items (is_tree c.self.inside v c.self.invariant.planted c.self.view_is) c.requires.live c.args.sapling.preorder
    (subst (λ (v : Views). IsGrouped (group_at c.self.inside.groups) (plain_of v)) c.self.view_is c.self.invariant.grouped) in
    refused_or ℕ (Vec (ℕ × SiblingOrders) Global) _ _ (entries_cycle v c.args.parent c.args.sapling.sprouts.items) c.in-Err.fault (λ entries. AreGrafted v c.args.parent c.args.sapling.sprouts.items entries.items) free cycle
    (subst (λ (sprouts : List Sprout). IsMadeUnless {A = Vec (ℕ × SiblingOrders) Global} (entries_cycle v c.args.parent sprouts) (λ entries. AreGrafted v c.args.parent sprouts entries.items) (Err c.in-Err.fault)) c.deref-2.ensures.value c.in-Err.ensures)

pub invariant_of-self : goal.invariant_of-self
invariant_of-self c =
    whole-room c.self.inside (record c.self.inside { nodes = c.make_room.new.nodes; keys = c.make_room.new.keys; ids = c.make_room.new.ids })
    c.make_room.ensures.nodes c.make_room.ensures.keys c.make_room.ensures.ids refl (λ k. refl) refl refl refl c.self.invariant

pub invariant_of-self-in_err-make_group_room : goal.invariant_of-self-in_err-make_group_room
invariant_of-self-in_err-make_group_room c =
    whole-room c.self.inside
    (record c.self.inside { nodes = c.make_room.new.nodes; keys = c.make_room.new.keys; ids = c.make_room.new.ids; groups = c.make_group_room.new.groups })
    c.make_room.ensures.nodes c.make_room.ensures.keys c.make_room.ensures.ids c.make_group_room.ensures.same c.make_group_room.ensures.groups refl refl refl c.self.invariant

pub plant-key-requires-clause-sound : goal.plant-key-requires-clause-sound
plant-key-requires-clause-sound c =
    let a : Inside = record c.self.inside { nodes = c.make_room.new.nodes; keys = c.make_room.new.keys; ids = c.make_room.new.ids } in
    planted-fields a (sound-room c.self.inside a c.make_room.ensures.nodes c.make_room.ensures.keys c.make_room.ensures.ids refl refl refl refl c.self.invariant.planted)

pub plant-key-requires-clause-live : goal.plant-key-requires-clause-live
plant-key-requires-clause-live c =
    subst (λ (v : Views). IfSome c.args.parent (λ parent. IsLive v parent)) (sym (same (goal.at.plant-key-requires-clause-live c).After-branch-make_group_room)) c.requires.live

pub plant-key-requires-clause-empty : goal.plant-key-requires-clause-empty
plant-key-requires-clause-empty c = λ none.
    ap (λ (v : Views). v.tree) (same (goal.at.plant-key-requires-clause-empty c).After-branch-make_group_room) ∙ c.requires.root none

pub plant-key-requires-clause-taken : goal.plant-key-requires-clause-taken
plant-key-requires-clause-taken c =
    let d = (goal.at.plant-key-requires-clause-taken c).After-branch-make_group_room in
    subst (λ (v : Views). refusal_at (plain_of v) (option_map (number_of v) c.args.parent) ≡ None) (sym (same d))
    (taken c.args.self.now c.args.parent c.args.sapling.sprouts.items (shaped c.args.sapling.sprouts.items c.args.sapling.preorder)
    (is_tree c.self.inside c.args.self.now c.self.invariant.planted c.self.view_is) c.requires.live c.requires.root (free d)).own

pub invariant_of-self-2 : goal.invariant_of-self-2
invariant_of-self-2 c =
    let at = goal.at.invariant_of-self-2 c in
    let room = at.After-branch-make_group_room in
    let v = c.args.self.now in
    let whole = came at.After-plant-key (same room) (free room) in
    record {
      planted = planted-whole (end at.After-note_groups) c.sow.ensures.sound;
      grouped = grouped-grafted (group_at c.make_group_room.new.groups) (group_at c.note_groups.new.groups) v (value_of (end at.After-note_groups)) c.args.parent c.args.sapling.sprouts.items c.in-Ok.entries.items
          (is_tree c.self.inside v c.self.invariant.planted c.self.view_is) c.requires.live c.args.sapling.preorder (made room) c.note_groups.ensures (grafted at.After-note_groups whole).plain (grouped room);
      only = only-grafted (group_at c.make_group_room.new.groups) (group_at c.note_groups.new.groups) v (value_of (end at.After-note_groups)) c.args.parent c.args.sapling.sprouts.items c.in-Ok.entries.items
          c.requires.live c.requires.root c.args.sapling.preorder (made room) c.note_groups.ensures (grafted at.After-note_groups whole).plain
          (only-same (group_at c.self.inside.groups) (group_at c.make_group_room.new.groups) v.tree v.tree refl c.make_group_room.ensures.groups
          (subst (λ (v : Views). HasNoOther (group_at c.self.inside.groups) v.tree) c.self.view_is c.self.invariant.only));
    }

pub sow-requires-clause-live : goal.sow-requires-clause-live
sow-requires-clause-live c = let at = goal.at.sow-requires-clause-live c in (came at.After-plant-key (same at.After-branch-make_group_room) (free at.After-branch-make_group_room)).there

pub sow-requires-clause-fits : goal.sow-requires-clause-fits
sow-requires-clause-fits c = let at = goal.at.sow-requires-clause-fits c in (came at.After-plant-key (same at.After-branch-make_group_room) (free at.After-branch-make_group_room)).fits

pub returns-clause-grafted : goal.returns-clause-grafted
returns-clause-grafted c =
    let at = goal.at.returns-clause-grafted c in
    grafted at.After-note_groups (came at.After-plant-key (same at.After-branch-make_group_room) (free at.After-branch-make_group_room))

pub returns-clause-orders : goal.returns-clause-orders
returns-clause-orders c = λ k apart less.
    let at = goal.at.returns-clause-orders c in
    orders_kept c.self.inside.groups.entries c.note_groups.new.groups.entries k
    (kept-grafted (group_at c.make_group_room.new.groups) (group_at c.note_groups.new.groups) c.args.self.now c.args.parent c.args.sapling.sprouts.items c.in-Ok.entries.items
    (made at.After-branch-make_group_room) c.note_groups.ensures k apart less ∙ c.make_group_room.ensures.groups k)
    ∙ ap (λ (v : Views). orders_under v k) c.self.view_is

pub returns-clause-refused : goal.returns-clause-refused
returns-clause-refused c =
    let v = c.args.self.now in
    let room = (goal.at.returns-clause-refused c).After-branch-make_group_room in
    let cycle = cycle-grafted (group_at c.make_group_room.new.groups) v c.args.parent c.args.sapling.sprouts.items (is_tree c.self.inside v c.self.invariant.planted c.self.view_is) c.requires.live c.args.sapling.preorder (grouped room) in
    let none : entries_cycle v c.args.parent c.args.sapling.sprouts.items ≡ None =
    ap (entries_cycle v c.args.parent) (sym c.deref-2.ensures.value) ∙ c.in-Ok.ensures.0 in
    ap (λ reason. option_or reason (graft_cycle (plain_of v) (option_map (number_of v) c.args.parent) v.next (seeds_of c.args.sapling.sprouts.items))) (free room) ∙ cycle ∙ none

pub returns-clause-few : goal.returns-clause-few
returns-clause-few c =
    let at = goal.at.returns-clause-few c in
    let few = (came at.After-plant-key (same at.After-branch-make_group_room) (free at.After-branch-make_group_room)).few in
    let last = c.sow.ensures.next in
    let first = c.plant-key.ensures.attached.next in
    let start = ap (λ (v : Views). v.next) c.self.view_is in
    omega arith
