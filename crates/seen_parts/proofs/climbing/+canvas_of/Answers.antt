use Rattle.std.proofs.Common.{sym, ap, ◌∙◌}
use Rattle.geom_core.specs.Rects.{holds}
use Rattle.seen_parts.proofs.ClimbLaws.{answer_below, below_none, below_nowhere, canvas_outermost, canvas_parent}
use Rattle.seen_parts.specs.Meeting.{as_seen, canvas_around}
use Rattle.view_model.specs.Visible.{Canvas, whole_window}
use Rattle.view_tree.specs.declared.node.state.State.{State}
use Rattle.view_tree.specs.Views.{facts_of, held_of, state_of}
use Rattle.seen_parts.proofs.climbing.+canvas_of.Goals as goal

pub returns-in_default-clause-canvas : goal.returns-in_default-clause-canvas
returns-in_default-clause-canvas t c =
    c.window_canvas.ensures.value
    ∙ sym (canvas_outermost (held_of c.args.tree.now) c.args.view c.args.tree.now.tree (whole_window c.args.window) c.recall_tree.ensures.keys c.requires c.in_default.ensures.path)

pub returns-in_default-canvas_of-clause-canvas : goal.returns-in_default-canvas_of-clause-canvas
returns-in_default-canvas_of-clause-canvas t c = λ x y.
    let held = held_of c.args.tree.now in
    let outer = canvas_around held (whole_window c.args.window) c.in-Some.parent c.args.tree.now.tree in
    ap (λ (canvas : Canvas). holds canvas.clip x y)
    (canvas_parent held c.args.view c.in-Some.parent c.args.tree.now.tree (whole_window c.args.window) c.recall_tree.ensures.keys c.requires c.in-Some.ensures.path)
    ∙ below_none (state_of c.args.tree.now c.in-Some.parent).bounds (facts_of c.args.tree.now c.in-Some.parent) outer x y (c.in_default-canvas_of.ensures.canvas x y)

pub returns-in_default-bounds-clause-canvas : goal.returns-in_default-bounds-clause-canvas
returns-in_default-bounds-clause-canvas t c = λ x y.
    let held = held_of c.args.tree.now in
    let outer = canvas_around held (whole_window c.args.window) c.in-Some.parent c.args.tree.now.tree in
    ap (λ (canvas : Canvas). holds canvas.clip x y)
    (canvas_parent held c.args.view c.in-Some.parent c.args.tree.now.tree (whole_window c.args.window) c.recall_tree.ensures.keys c.requires c.in-Some.ensures.path)
    ∙ below_nowhere (state_of c.args.tree.now c.in-Some.parent).bounds (facts_of c.args.tree.now c.in-Some.parent) outer x y (ap (λ (s : State). s.bounds) (sym c.state.ensures.value) ∙ c.in_default-bounds.is)

pub returns-clause-canvas : goal.returns-clause-canvas
returns-clause-canvas t c =
    let held = held_of c.args.tree.now in
    let outer = canvas_around held (whole_window c.args.window) c.in-Some.parent c.args.tree.now.tree in
    answer_below c.children_canvas.result c.in-Some-bounds.bounds (state_of c.args.tree.now c.in-Some.parent).bounds c.facts.result.now (facts_of c.args.tree.now c.in-Some.parent) (as_seen c.in-Some-canvas_of.outer) outer
    (canvas_around held (whole_window c.args.window) c.args.view c.args.tree.now.tree) (ap (λ (s : State). s.bounds) (sym c.state.ensures.value) ∙ c.in-Some-bounds.is) c.facts.ensures.value c.in-Some-canvas_of.ensures.canvas
    (canvas_parent held c.args.view c.in-Some.parent c.args.tree.now.tree (whole_window c.args.window) c.recall_tree.ensures.keys c.requires c.in-Some.ensures.path) c.children_canvas.ensures.below
