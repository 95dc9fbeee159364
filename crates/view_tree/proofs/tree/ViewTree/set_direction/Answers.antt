use Rattle.std.proofs.Common.{◌≡◌, ◌∙◌, ◌<◌, ◌≤◌, false, ℕ, ap, subst, sym}
use mathlib.Core.Path.{fun_ext}
use Rattle.view_model.specs.Directed.{directed, with_direction as plain_with_direction}
use Rattle.view_model.specs.Forest.{Forest}
use Rattle.view_model.specs.PlainTree.{PlainView}
use Rattle.view_tree.specs.tree.Directions.{directed_rows, turned_keys, with_direction}
use Rattle.view_tree.specs.tree.Requests.{asking, pressed}
use Rattle.view_tree.specs.Rows.{Row, changed_at_key, count_of_key, head_view, part_from}
use Rattle.view_tree.specs.Views.{AreDirected, Held, IsLive, Views, held_of, number_of, plain_rows}
use Rattle.view_tree.proofs.forest.PlainLaws.{plain_along}
use Rattle.view_tree.proofs.nodes.NodeReads.{contains_live, is_tree}
use Rattle.view_tree.proofs.nodes.TurnedFields.{can_turn, held-turned-all, plain-turned, sound-turned, tree-turned}
use Rattle.view_tree.proofs.nodes.TurnedRequests.{pressed_offset, requested_turned}
use Rattle.view_tree.proofs.values.KeptLaws.{is_tree-same}
use Rattle.view_tree.proofs.tree.ViewTree.set_direction.Goals as goal
use Rattle.view_tree.proofs.tree.ViewTree.set_direction.Goals.{After-turn}

live_then : (old new : Views) (view : ℕ) → new.tree ≡ old.tree → IsLive old view → IsLive new view
live_then old new view tree live = subst (λ (tree : Forest Row). 0 < count_of_key view tree) (sym tree) live

pub index_mut-node-requires : goal.index_mut-node-requires
index_mut-node-requires c =
    contains_live c.self.inside c.request.new.self c.args.view c.self.invariant.planted c.self.view_is (live_then c.args.self.now c.request.new.self c.args.view c.request.ensures.same.tree c.requires)

pub turn-requires : goal.turn-requires
turn-requires c =
    can_turn c.self.inside c.request.new.self c.args.view c.args.direction c.index_mut-node.result.now c.self.invariant.planted c.self.view_is
    (live_then c.args.self.now c.request.new.self c.args.view c.request.ensures.same.tree c.requires) c.index_mut-node.ensures.value

pub invariant_of-self : goal.invariant_of-self
invariant_of-self c =
    sound-turned c.self.inside c.request.new.self c.args.view c.args.direction c.index_mut-node.result.now c.self.invariant.planted c.self.view_is
    (live_then c.args.self.now c.request.new.self c.args.view c.request.ensures.same.tree c.requires) c.index_mut-node.ensures.value
    c.runs_above-above.result c.runs_above-above.ensures c.turn.new.nodes c.turn.ensures.turned c.turn.ensures.others c.turn.ensures.len c.self.invariant

pub returns-clause-tree : goal.returns-clause-tree
returns-clause-tree c =
    tree-turned c.self.inside c.request.new.self c.args.view c.args.direction c.index_mut-node.result.now c.self.invariant.planted c.self.view_is
    (live_then c.args.self.now c.request.new.self c.args.view c.request.ensures.same.tree c.requires) c.index_mut-node.ensures.value
    c.runs_above-above.result c.runs_above-above.ensures c.turn.new.nodes c.turn.ensures.turned c.turn.ensures.others c.turn.ensures.len
    ∙ ap (λ (tree : Forest Row). directed_rows false (changed_at_key c.args.view (with_direction c.args.direction) tree)) c.request.ensures.same.tree

pub returns-clause-plain : goal.returns-clause-plain
returns-clause-plain c =
    let v = c.request.new.self in
    let old = c.args.self.now in
    plain-turned c.self.inside v c.args.view c.args.direction c.index_mut-node.result.now c.self.invariant.planted c.self.view_is
    (live_then old v c.args.view c.request.ensures.same.tree c.requires) c.index_mut-node.ensures.value
    c.runs_above-above.result c.runs_above-above.ensures c.turn.new.nodes c.turn.ensures.turned c.turn.ensures.others c.turn.ensures.len
    ∙ ap (λ (tree : Forest Row). directed false (plain_with_direction (head_view (part_from c.args.view tree)).number c.args.direction (plain_rows (held_of v) tree))) c.request.ensures.same.tree
    ∙ ap (λ (tree : Forest PlainView). directed false (plain_with_direction (number_of old c.args.view) c.args.direction tree))
    (plain_along (held_of old) (held_of v) old.tree (λ key there. ap (λ (h : Held). h.offset) (c.request.ensures.held key) ∙ pressed_offset (held_of old) (asking (held_of old) c.args.view old.tree) key))

pub returns-clause-held : goal.returns-clause-held
returns-clause-held c = λ key.
    let v = c.request.new.self in
    let old = c.args.self.now in
    let is = is_tree c.self.inside v c.self.invariant.planted c.self.view_is in
    let same = c.request.ensures.same.tree in
    let keys = turned_keys false (changed_at_key c.args.view (with_direction c.args.direction) old.tree) in
    held-turned-all c.self.inside v c.args.view c.args.direction c.index_mut-node.result.now c.self.invariant.planted c.self.view_is
    (live_then old v c.args.view same c.requires) c.index_mut-node.ensures.value
    c.runs_above-above.result c.runs_above-above.ensures c.turn.new.nodes c.turn.ensures.turned c.turn.ensures.others c.turn.ensures.len key
    ∙ ap (λ (tree : Forest Row). pressed (held_of v) (turned_keys false (changed_at_key c.args.view (with_direction c.args.direction) tree)) key) same
    ∙ ap (λ (held : ℕ → Held). pressed held keys key) (fun_ext c.request.ensures.held)
    ∙ sym (ap (λ (held : ℕ → Held). held key) (requested_turned c.args.view c.args.direction old.tree (held_of old)
    (subst (λ (tree : Forest Row). (key : ℕ) → count_of_key key tree ≤ 1) same is.keys) c.requires (subst (AreDirected false) same is.directed)))

pub returns-clause-is_tree : goal.returns-clause-is_tree
returns-clause-is_tree c =
    is_tree-same c.request.new.self c.args.self.now (is_tree c.self.inside c.request.new.self c.self.invariant.planted c.self.view_is)
    (sym c.request.ensures.same.tree) (sym c.request.ensures.same.next)
