use Rattle.std.proofs.Common.{sym, ap, ◌∙◌}
use Rattle.seen_parts.proofs.ClimbLaws.{seen_none}
use Rattle.seen_parts.proofs.SeenLaws.{seen_visible}
use Rattle.seen_parts.specs.Meeting.{as_seen, canvas_around}
use Rattle.view_model.specs.Visible.{Canvas, seen_in, whole_window}
use Rattle.view_tree.specs.declared.node.state.State.{State}
use Rattle.view_tree.specs.Views.{held_of, state_of}
use Rattle.seen_parts.proofs.climbing.seen.Goals as goal

pub returns-in-None-clause-keyed : goal.returns-in-None-clause-keyed
returns-in-None-clause-keyed c =
    c.nowhere.ensures
    ∙ seen_none (state_of c.args.tree.now c.args.view).bounds (canvas_around (held_of c.args.tree.now) (whole_window c.args.window) c.args.view c.args.tree.now.tree) c.in-None.ensures.canvas

pub returns-in-None-clause-value : goal.returns-in-None-clause-value
returns-in-None-clause-value c =
    returns-in-None-clause-keyed c ∙ sym (seen_visible c.args.tree.now c.args.window c.args.view c.state-bounds.ensures.is_tree c.requires)

pub returns-in-Some-clause-keyed : goal.returns-in-Some-clause-keyed
returns-in-Some-clause-keyed c =
    c.part_seen.ensures
    ∙ ap (λ (s : State). seen_in s.bounds (as_seen c.in-Some.canvas)) c.state-bounds.ensures.value
    ∙ ap (λ (canvas : Canvas). seen_in (state_of c.args.tree.now c.args.view).bounds canvas) c.in-Some.ensures.canvas

pub returns-in-Some-clause-value : goal.returns-in-Some-clause-value
returns-in-Some-clause-value c =
    returns-in-Some-clause-keyed c ∙ sym (seen_visible c.args.tree.now c.args.window c.args.view c.state-bounds.ensures.is_tree c.requires)
