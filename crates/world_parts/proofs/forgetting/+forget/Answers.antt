use Rattle.std.proofs.Common.{arith, sym, ◌∙◌, ap}
use Rattle.std.specs.Prelude.{Bool, ◌&&◌, not}
use Rattle.touch_dispatch.specs.gesture.Kept.{gesture_of, is_open}
use Rattle.view_tree.specs.Rows.{children_of_first, later_siblings, part_from}
use Rattle.view_tree.proofs.forest.Walks.{fewer_below, walk_falls, walk_on, walk_start}
use Rattle.world_parts.specs.Places.{all_disarmed}
use Rattle.world_parts.specs.Touching.{all_closed, is_among}
use Rattle.world_parts.proofs.edits.ForgettingLaws.{and_more, closed_alone, closed_list, disarmed_alone, disarmed_list, numbers_in, open_alone, open_list}
use Rattle.world_parts.proofs.forgetting.+forget.Goals as goal

pub loop-next-init : goal.loop-next-init
loop-next-init t c =
    let tree = c.args.tree.now.tree in
    let view = c.args.view in
    let below = numbers_in (children_of_first (part_from view tree)) in
    let first = c.first-next.ensures in
    record {
      walk = walk_start tree (children_of_first (part_from view tree)) c.first-next.result first.part first.live;
      hooks = rw first.part (ap (all_disarmed below) (rw c.number-number.ensures.value at c.disarm.ensures.hooks) ∙ disarmed_alone view tree c.requires c.args.hooks.now);
      gesture = rw first.part (ap (all_closed below) (rw c.number-number.ensures.value at c.close.ensures.gesture) ∙ closed_alone view tree c.requires (gesture_of c.args.gesture.now));
      opened = λ other. rw first.part (
          ap (λ (b : Bool). b && not (is_among other below)) (rw c.number-number.ensures.value at c.close.ensures.opened other)
          ∙ open_alone view tree c.requires other (is_open c.args.gesture.now other));
    }

pub forget-requires : goal.forget-requires
forget-requires t c =
    let walk = rw c.in-Some.is at c.loop-next.invariant.walk in
    let fewer = fewer_below c.args.tree.now.tree c.args.view c.in-Some.kid c.requires walk in
    (omega arith, walk.live)

pub loop-next-smaller : goal.loop-next-smaller
loop-next-smaller t c = walk_falls c.args.tree.now.tree _ c.loop-next.next c.next-next.result c.in-Some.kid c.in-Some.is c.loop-next.invariant.walk c.next-next.ensures.part

pub loop-next-preserved : goal.loop-next-preserved
loop-next-preserved t c =
    let tree = c.args.tree.now.tree in
    let kid = c.in-Some.kid in
    let following = numbers_in (later_siblings (part_from kid tree)) in
    let i = rw c.in-Some.is at c.loop-next.invariant in
    let next = c.next-next.ensures in
    let forgot = c.forget.ensures in
    record {
      walk = walk_on tree (children_of_first (part_from c.args.view tree)) kid c.next-next.result i.walk next.part next.live;
      hooks = rw next.part (ap (all_disarmed following) forgot.hooks ∙ disarmed_list kid tree i.walk.live c.loop-next.hooks ∙ i.hooks);
      gesture = rw next.part (ap (all_closed following) forgot.gesture ∙ closed_list kid tree i.walk.live (gesture_of c.loop-next.gesture) ∙ i.gesture);
      opened = λ other. rw next.part (
          ap (λ (b : Bool). b && not (is_among other following)) (forgot.opened other)
          ∙ open_list kid tree i.walk.live other (is_open c.loop-next.gesture other)
          ∙ i.opened other);
    }

pub returns-clause-hooks : goal.returns-clause-hooks
returns-clause-hooks t c = rw c.in_default.is at c.loop-next.invariant.hooks

pub returns-clause-gesture : goal.returns-clause-gesture
returns-clause-gesture t c = rw c.in_default.is at c.loop-next.invariant.gesture

pub returns-clause-opened : goal.returns-clause-opened
returns-clause-opened t c other = sym (and_more (is_open c.loop-next.gesture other)) ∙ (rw c.in_default.is at c.loop-next.invariant.opened other)
