use Rattle.std.proofs.Common.{arith, ap, ◌∙◌, sym}
use Rattle.view_model.specs.Forest.{Forest}
use Rattle.view_tree.specs.Rows.{Row, children_of_first, part_from}
use Rattle.view_tree.specs.Views.{held_of, laid_rows}
use Rattle.view_tree.proofs.forest.Walks.{fewer_below, walk_falls, walk_on, walk_start}
use Rattle.traversal.specs.Frames.{fired_in}
use Rattle.traversal.proofs.hooks.FiringLaws.{fired_alone, fired_list, or_first, or_second}
use Rattle.traversal.proofs.firing.+fired_from.Goals as goal

pub returns-in-Some : goal.returns-in-Some
returns-in-Some t c =
    sym (fired_alone c.args.hooks.now (held_of c.args.tree.now) c.args.view c.args.tree.now.tree c.requires ∙ or_first _ c.in-Some.ensures)

pub loop-next-init : goal.loop-next-init
loop-next-init t c =
    let tree = c.args.tree.now.tree in
    let first = c.first-next.ensures in
    record {
      walk = walk_start tree (children_of_first (part_from c.args.view tree)) c.first-next.result first.part first.live;
      rest = ap (λ (list : Forest Row). fired_in c.args.hooks.now (laid_rows (held_of c.args.tree.now) list)) first.part;
    }

pub fired_from-requires : goal.fired_from-requires
fired_from-requires t c =
    let i = rw c.in-Some-next.is at c.loop-next.invariant in
    let fewer = fewer_below c.args.tree.now.tree c.args.view c.in-Some-next.kid c.requires i.walk in
    (omega arith, i.walk.live)

pub returns-in-Some-fired_from : goal.returns-in-Some-fired_from
returns-in-Some-fired_from t c =
    let tree = c.args.tree.now.tree in
    let i = rw c.in-Some-next.is at c.loop-next.invariant in
    sym (
    fired_alone c.args.hooks.now (held_of c.args.tree.now) c.args.view tree c.requires
    ∙ or_second _ (sym c.in_default.ensures)
    ∙ sym i.rest
    ∙ fired_list c.args.hooks.now (held_of c.args.tree.now) c.in-Some-next.kid tree i.walk.live
    ∙ or_first _ c.in-Some-fired_from.ensures
    )

pub loop-next-smaller : goal.loop-next-smaller
loop-next-smaller t c = walk_falls c.args.tree.now.tree _ c.loop-next.next c.next-next.result c.in-Some-next.kid c.in-Some-next.is c.loop-next.invariant.walk c.next-next.ensures.part

pub loop-next-preserved : goal.loop-next-preserved
loop-next-preserved t c =
    let tree = c.args.tree.now.tree in
    let held = held_of c.args.tree.now in
    let i = rw c.in-Some-next.is at c.loop-next.invariant in
    let next = c.next-next.ensures in
    record {
      walk = walk_on tree (children_of_first (part_from c.args.view tree)) c.in-Some-next.kid c.next-next.result i.walk next.part next.live;
      rest =
          ap (λ (list : Forest Row). fired_in c.args.hooks.now (laid_rows held list)) next.part
          ∙ sym (fired_list c.args.hooks.now held c.in-Some-next.kid tree i.walk.live ∙ or_second _ (sym c.in_default-fired_from.ensures))
          ∙ i.rest;
    }

pub returns : goal.returns
returns t c =
    let i = rw c.in_default-next.is at c.loop-next.invariant in
    sym (
    fired_alone c.args.hooks.now (held_of c.args.tree.now) c.args.view c.args.tree.now.tree c.requires
    ∙ or_second _ (sym c.in_default.ensures)
    ∙ sym i.rest
    )
