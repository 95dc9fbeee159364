use Rattle.std.proofs.Common.{sym, ◌∙◌, ap}
use Rattle.std.proofs.lemmas.Int.{to_z-of_z}
use mir.Syntax.{w32}
use Rattle.touch_dispatch.proofs.steps.RootLaws.{root_no, root_yes}
use Rattle.touch_dispatch.specs.Dispatch.{reach}
use Rattle.touch_dispatch.specs.reaching.TreeEvents.{progress_of, scene_of}
use Rattle.view_tree.specs.Rows.{first_tree, part_from, views_of}
use Rattle.touch_dispatch.proofs.dispatching.dispatch.Goals as goal

pub returns-then-not-gets_events-clause-dispatched : goal.returns-then-not-gets_events-clause-dispatched
returns-then-not-gets_events-clause-dispatched c =
    let views = c.args.tree.now in
    root_no views c.args.slop c.in-Some.root c.args.event.now (progress_of views c.args.gesture.now c.args.log.now) c.root.ensures.is_tree c.in-Some.ensures.live c.in-Some.ensures.part
    (sym c.gets_events.ensures ∙ c.if-not-gets_events.true)

pub returns-clause-dispatched : goal.returns-clause-dispatched
returns-clause-dispatched c =
    let views = c.args.tree.now in
    let progress = progress_of views c.args.gesture.now c.args.log.now in
    root_yes views c.args.slop c.in-Some.root c.args.event.now progress c.root.ensures.is_tree c.in-Some.ensures.live c.in-Some.ensures.part (sym c.gets_events.ensures ∙ c.if-not-gets_events.false)
    ∙ ap (λ slop. reach (scene_of views slop) (views_of (first_tree (part_from c.in-Some.root views.tree))) c.args.event.now progress) (sym (to_z-of_z w32 c.args.slop c.ranges.slop))
    ∙ c.reach_whole.ensures.reached
