use Rattle.std.proofs.Common.{◌≡◌, ◌<◌, false, inl, ap, refl, sym, ◌∙◌, arith}
use Rattle.kept_views.specs.Pressing.{path_of}
use Rattle.view_model.specs.Facts.{is_shown, unscrolled_facts}
use Rattle.view_model.specs.PlainTree.{PlainView}
use Rattle.view_model.specs.Forest.{map_rows}
use Rattle.view_tree.specs.tree.Requests.{among, asking}
use Rattle.view_tree.specs.Rows.{count_of_key}
use Rattle.view_tree.proofs.forest.NumberLaws.{count_of_key-put}
use Rattle.view_tree.proofs.values.GeometryLaws.{laid_along}
use Rattle.traversal.specs.Changing.{bare}
use Rattle.traversal.proofs.hooks.PassEdits.{made_in_pass, put_bounds, plain_same, pressed_bounds, pressed_offset}
use Rattle.view_model.specs.Changes.{facts_after_change}
use Rattle.view_model.specs.declared.facts.Facts.{Facts}
use Rattle.view_tree.specs.Views.{Held, facts_of, held_of, laid_rows, plain_rows}
use Rattle.traversal.proofs.frames.ChangeLaws.{change_absent}
use Rattle.traversal.proofs.hooks.EditLaws.{Edited, change_leaves, edit_made, shape_then}
use Rattle.traversal.proofs.hooks.Unedited.{made_cache}
use Rattle.traversal.proofs.firing.make.Goals as goal

-- a change does not set a name of the view
pub set_facts-requires-clause-names : goal.set_facts-requires-clause-names
set_facts-requires-clause-names c =
    let leaves = change_leaves c.args.edit.change (facts_of c.args.tree.now c.in-Some.view) in
    let made = c.on-facts.ensures ∙ ap (facts_after_change c.args.edit.change) c.facts.ensures.value in
    (ap (λ (facts : Facts). facts.id) made ∙ leaves.id, ap (λ (facts : Facts). facts.rules) made ∙ leaves.rules)

pub set_facts-requires-clause-runs : goal.set_facts-requires-clause-runs
set_facts-requires-clause-runs c =
    let leaves = change_leaves c.args.edit.change (facts_of c.args.tree.now c.in-Some.view) in
    let made = c.on-facts.ensures ∙ ap (facts_after_change c.args.edit.change) c.facts.ensures.value in
    (ap (λ (facts : Facts). facts.direction) made ∙ leaves.direction, ap (λ (facts : Facts). facts.rtl) made ∙ leaves.rtl)

pub returns-in_default-clause-plain : goal.returns-in_default-clause-plain
returns-in_default-clause-plain c = sym (change_absent c.args.edit.view _ _ c.in_default.ensures.found)

made : (c : goal.After-request) → Edited c.args.tree.now c.args.edit c.set_facts.new.self
made c =
    let set = c.set_facts.ensures in
    edit_made c.args.tree.now c.set_facts.new.self c.in-Some.view c.args.edit c.on-facts.result c.facts.ensures.is_tree c.in-Some.ensures.live c.in-Some.ensures.number
    (c.on-facts.ensures ∙ ap (facts_after_change c.args.edit.change) c.facts.ensures.value)
    set.tree set.plain set.orders set.next set.held set.others

pub returns-clause-plain : goal.returns-clause-plain
returns-clause-plain c =
    ap (plain_rows (held_of c.request.new.self)) c.request.ensures.same.tree
    ∙ plain_same (held_of c.set_facts.new.self) (held_of c.request.new.self) c.set_facts.new.self.tree
    (λ key. ap (λ (h : Held). h.offset) (c.request.ensures.held key) ∙ pressed_offset (held_of c.set_facts.new.self) (asking (held_of c.set_facts.new.self) c.in-Some.view c.set_facts.new.self.tree) key)
    ∙ (made c).plain

pub returns-clause-geometry : goal.returns-clause-geometry
returns-clause-geometry c =
    ap (laid_rows (held_of c.request.new.self)) c.request.ensures.same.tree
    ∙ laid_along (held_of c.set_facts.new.self) (held_of c.request.new.self) c.set_facts.new.self.tree
    (λ key live. ap (λ (h : Held). h.state.bounds) (c.request.ensures.held key) ∙ pressed_bounds (held_of c.set_facts.new.self) (asking (held_of c.set_facts.new.self) c.in-Some.view c.set_facts.new.self.tree) key)
    ∙ (made c).geometry

pub returns-clause-bounds : goal.returns-clause-bounds
returns-clause-bounds c = λ key.
    ap (λ (h : Held). h.state.bounds) (c.request.ensures.held key) ∙ pressed_bounds (held_of c.set_facts.new.self) (asking (held_of c.set_facts.new.self) c.in-Some.view c.set_facts.new.self.tree) key
    ∙ put_bounds c.in-Some.view (held_of c.args.tree.now) (held_of c.set_facts.new.self) _ c.set_facts.ensures.held c.set_facts.ensures.others key

pub returns-clause-shape : goal.returns-clause-shape
returns-clause-shape c =
    shape_then (made c).shape (record { rows = ap (map_rows bare) c.request.ensures.same.tree; orders = c.request.ensures.same.orders; next = c.request.ensures.same.next })

pub returns-clause-in_pass : goal.returns-clause-in_pass
returns-clause-in_pass c = λ keys root p.
    let set = c.set_facts.ensures in
    let leaves = change_leaves c.args.edit.change (facts_of c.args.tree.now c.in-Some.view) in
    let is = c.on-facts.ensures ∙ ap (facts_after_change c.args.edit.change) c.facts.ensures.value in
    made_in_pass c.args.tree.now c.set_facts.new.self c.request.new.self c.in-Some.view c.on-facts.result keys root c.facts.ensures.is_tree c.in-Some.ensures.live
    set.tree set.held set.others (ap (λ (facts : Facts). facts.offset) is ∙ leaves.offset) (ap is_shown is ∙ leaves.shown) c.request.ensures.same.tree c.request.ensures.held p

pub returns-clause-live : goal.returns-clause-live
returns-clause-live c =
    let alive : 0 < count_of_key c.in-Some.view c.args.tree.now.tree = c.in-Some.ensures.live in
    let same : count_of_key c.in-Some.view c.set_facts.new.self.tree ≡ count_of_key c.in-Some.view c.args.tree.now.tree =
    ap (count_of_key c.in-Some.view) c.set_facts.ensures.tree ∙ count_of_key-put c.in-Some.view c.in-Some.view _ c.args.tree.now.tree in
    rw c.request.ensures.same.tree (omega arith)

pub request-requires : goal.request-requires
request-requires c =
    let alive : 0 < count_of_key c.in-Some.view c.args.tree.now.tree = c.in-Some.ensures.live in
    let same : count_of_key c.in-Some.view c.set_facts.new.self.tree ≡ count_of_key c.in-Some.view c.args.tree.now.tree =
    ap (count_of_key c.in-Some.view) c.set_facts.ensures.tree ∙ count_of_key-put c.in-Some.view c.in-Some.view _ c.args.tree.now.tree in
    omega arith

pub returns-in_default-clause-caches : goal.returns-in_default-clause-caches
returns-in_default-clause-caches c = λ key un. (refl, tt)

pub returns-clause-caches : goal.returns-clause-caches
returns-clause-caches c = λ key un.
    let set = c.set_facts.ensures in
    let off : among key (path_of c.in-Some.view c.args.tree.now.tree) ≡ false = un c.in-Some.view c.in-Some.ensures.live (inl (sym c.in-Some.ensures.number)) in (
      made_cache c.in-Some.view (held_of c.args.tree.now) (held_of c.set_facts.new.self) (held_of c.request.new.self) c.on-facts.result.offset
          (λ (v : PlainView). record v { facts = unscrolled_facts c.on-facts.result }) c.args.tree.now.tree c.set_facts.new.self.tree key set.held set.others set.tree c.request.ensures.held off,
      off,
    )
