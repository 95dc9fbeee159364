use Rattle.std.proofs.Common.{sym, ap, ◌∙◌}
use Rattle.seen_parts.proofs.OriginLaws.{seen_moved, seen_nowhere}
use Rattle.seen_parts.specs.Meeting.{canvas_around}
use Rattle.view_model.specs.Visible.{whole_window}
use Rattle.view_tree.specs.declared.node.state.State.{State}
use Rattle.view_tree.specs.Views.{held_of, state_of}
use Rattle.seen_parts.proofs.origins.is_seen_within.Goals as goal

pub returns-in-Some-origin : goal.returns-in-Some-origin
returns-in-Some-origin c = λ yes window x y h.
    let at = c.in-Some-origin.origin in
    let starts = c.in-Some-origin.ensures window in
    c.is_placed_within.ensures yes x y
    (seen_moved (state_of c.args.tree.now c.args.view).bounds c.in-Some.bounds (canvas_around (held_of c.args.tree.now) (whole_window window) c.args.view c.args.tree.now.tree) at.left at.top x y
    (ap (λ (s : State). s.bounds) (sym c.state.ensures.value) ∙ c.in-Some.is) starts.0 starts.1 h)

pub returns-in_default : goal.returns-in_default
returns-in_default c = λ _ window.
    seen_nowhere (state_of c.args.tree.now c.args.view).bounds c.args.rect (canvas_around (held_of c.args.tree.now) (whole_window window) c.args.view c.args.tree.now.tree)
    (ap (λ (s : State). s.bounds) (sym c.state.ensures.value) ∙ c.in_default.is)
