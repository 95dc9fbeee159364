use Rattle.std.proofs.Common.{◌∙◌, ap}
use Rattle.touch_dispatch.proofs.scrolls.ScrollSteps.{first_lies, first_nowhere, first_rect_is}
use Rattle.view_tree.specs.Rows.{children_of_first, part_from}
use Rattle.view_tree.specs.Views.{held_of}
use Rattle.view_tree.specs.declared.node.state.State.{State}
use Rattle.touch_dispatch.proofs.handling.scrolling.first_rect.Goals as goal

pub returns-in-None-clause-place : goal.returns-in-None-clause-place
returns-in-None-clause-place c = first_nowhere (held_of c.args.tree.now) (children_of_first (part_from c.args.view c.args.tree.now.tree)) (rw c.in-None.is at c.first.ensures.key)

pub returns-in-Some-clause-scene : goal.returns-in-Some-clause-scene
returns-in-Some-clause-scene c = λ slop.
    ap (λ (s : State). s.bounds) c.state.ensures.value
    ∙ first_rect_is c.args.tree.now slop c.args.view c.in-Some.kid c.first.ensures.is_tree c.in-Some.ensures.live c.in-Some.ensures.part

pub returns-in-Some-clause-place : goal.returns-in-Some-clause-place
returns-in-Some-clause-place c =
    ap (λ (s : State). s.bounds) c.state.ensures.value
    ∙ first_lies c.args.tree.now c.args.view c.in-Some.kid c.in-Some.ensures.live c.in-Some.ensures.part
