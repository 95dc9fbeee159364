use Rattle.std.proofs.Common.{◌<◌, ◌≤◌, arith}
use Rattle.view_model.specs.Forest.{count_of}
use Rattle.view_tree.specs.Rows.{part_from, rest_from}
use Rattle.view_tree.proofs.forest.Forests.{count_alone, live_below}
use Rattle.view_tree.proofs.forest.Walks.{walk_falls}
use Rattle.world_replies.proofs.WalkLaws.{sent_end, sent_on, sent_start}
use Rattle.world_replies.proofs.bounds.+put_from.Goals as goal

pub loop-next-init : goal.loop-next-init
loop-next-init t g c = sent_start c.args.tree.now c.args.first _ _ c.requires

pub put_view-requires : goal.put_view-requires
put_view-requires t g c = let w = rw c.in-Some.is at c.loop-next.invariant.walk in w.live

pub first-requires : goal.first-requires
first-requires t g c = let w = rw c.in-Some.is at c.loop-next.invariant.walk in w.live

pub put_from-requires : goal.put_from-requires
put_from-requires t g c =
    let w = rw c.in-Some.is at c.loop-next.invariant.walk in
    let less = live_below c.in-Some.view c.args.tree.now.tree w.live in
    let one = count_alone (part_from c.in-Some.view c.args.tree.now.tree) in
    let few : count_of (part_from c.in-Some.view c.args.tree.now.tree) ≤ count_of (rest_from c.args.first c.args.tree.now.tree) = w.few in
    let kids : count_of (rest_from c.first.result c.args.tree.now.tree) < count_of (rest_from c.args.first c.args.tree.now.tree) = rw c.first.ensures.part (omega arith) in
    λ κs lives. (omega (arith, kids, c.decreases), (lives, c.first.ensures.live))

pub next-next-requires : goal.next-next-requires
next-next-requires t g c = let w = rw c.in-Some.is at c.loop-next.invariant.walk in w.live

pub loop-next-smaller : goal.loop-next-smaller
loop-next-smaller t g c = walk_falls c.args.tree.now.tree _ c.loop-next.next c.next-next.result c.in-Some.view c.in-Some.is c.loop-next.invariant.walk c.next-next.ensures.part

pub loop-next-preserved : goal.loop-next-preserved
loop-next-preserved t g c =
    sent_on c.args.tree.now (rest_from c.args.first c.args.tree.now.tree) c.in-Some.view c.first.result c.next-next.result (rw c.in-Some.is at c.loop-next.invariant)
    c.put_view.ensures c.first.ensures.part c.put_from.ensures c.next-next.ensures.part c.next-next.ensures.live

pub returns : goal.returns
returns t g c = sent_end c.args.tree.now (rest_from c.args.first c.args.tree.now.tree) (rw c.in_default.is at c.loop-next.invariant)
