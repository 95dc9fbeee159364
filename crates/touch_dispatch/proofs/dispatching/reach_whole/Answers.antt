use Rattle.std.proofs.Common.{◌≤◌, ◌+◌, subst, arith}
use Rattle.touch_dispatch.proofs.counts.OnceLaws.{spent}
use Rattle.touch_dispatch.proofs.steps.RootLaws.{part_once, part_room}
use Rattle.touch_dispatch.specs.handling.Handling.{Reached}
use Rattle.touch_dispatch.specs.Once.{asks, touches}
use Rattle.touch_dispatch.specs.reaching.TreeEvents.{progress_of}
use Rattle.touch_dispatch.proofs.dispatching.reach_whole.Goals as goal

pub reach-requires-clause-fits : goal.reach-requires-clause-fits
reach-requires-clause-fits c =
    let d = c.args.delivery.now in
    let fits = part_room c.args.tree.now d.slop d.view d.event.now (progress_of c.args.tree.now c.args.gesture.now c.args.log.now) c.requires.may.tree c.requires.may.live c.recall_distinct.ensures in
    let all = c.requires.room in
    omega (arith, fits, all)

pub returns-clause-touched_once : goal.returns-clause-touched_once
returns-clause-touched_once c = λ n.
    let d = c.args.delivery.now in
    let progress = progress_of c.args.tree.now c.args.gesture.now c.args.log.now in
    subst (λ (r : Reached). spent (touches n) r.progress ≤ spent (touches n) progress + 1) c.reach.ensures.reached
    (part_once n c.args.tree.now d.slop d.view d.event.now progress c.requires.may.tree c.requires.may.live c.recall_distinct.ensures).touched

pub returns-clause-asked_once : goal.returns-clause-asked_once
returns-clause-asked_once c = λ n.
    let d = c.args.delivery.now in
    let progress = progress_of c.args.tree.now c.args.gesture.now c.args.log.now in
    subst (λ (r : Reached). spent (asks n) r.progress ≤ spent (asks n) progress + 1) c.reach.ensures.reached
    (part_once n c.args.tree.now d.slop d.view d.event.now progress c.requires.may.tree c.requires.may.live c.recall_distinct.ensures).asked
