use Rattle.std.proofs.Common.{arith, ap, ◌∙◌, sym}
use Rattle.view_model.specs.Forest.{Forest}
use Rattle.view_tree.specs.Rows.{Row, children_of_first, later_siblings, part_from}
use Rattle.view_tree.specs.Views.{held_of, laid_rows}
use Rattle.view_tree.proofs.forest.Walks.{fewer_below, walk_falls, walk_on, walk_start}
use Rattle.traversal.specs.Reporting.{reported_over}
use Rattle.traversal.proofs.hooks.ReportLaws.{reported_alone, reported_list}
use Rattle.traversal.proofs.reporting.+report_from.Goals as goal

pub loop-next-init : goal.loop-next-init
loop-next-init t c =
    let tree = c.args.tree.now.tree in
    let held = held_of c.args.tree.now in
    let first = c.first-next.ensures in
    record {
      walk = walk_start tree (children_of_first (part_from c.args.view tree)) c.first-next.result first.part first.live;
      reported =
          ap (λ (list : Forest Row). reported_over (laid_rows held list) c.report_at.new.hooks) first.part
          ∙ ap (reported_over (laid_rows held (children_of_first (part_from c.args.view tree)))) c.report_at.ensures
          ∙ sym (reported_alone held c.args.view tree c.requires c.args.hooks.now);
    }

pub report_from-requires : goal.report_from-requires
report_from-requires t c =
    let i = rw c.in-Some.is at c.loop-next.invariant in
    let fewer = fewer_below c.args.tree.now.tree c.args.view c.in-Some.kid c.requires i.walk in
    (omega arith, i.walk.live)

pub loop-next-smaller : goal.loop-next-smaller
loop-next-smaller t c = walk_falls c.args.tree.now.tree _ c.loop-next.next c.next-next.result c.in-Some.kid c.in-Some.is c.loop-next.invariant.walk c.next-next.ensures.part

pub loop-next-preserved : goal.loop-next-preserved
loop-next-preserved t c =
    let tree = c.args.tree.now.tree in
    let held = held_of c.args.tree.now in
    let i = rw c.in-Some.is at c.loop-next.invariant in
    let next = c.next-next.ensures in
    record {
      walk = walk_on tree (children_of_first (part_from c.args.view tree)) c.in-Some.kid c.next-next.result i.walk next.part next.live;
      reported =
          ap (λ (list : Forest Row). reported_over (laid_rows held list) c.report_from.new.hooks) next.part
          ∙ ap (reported_over (laid_rows held (later_siblings (part_from c.in-Some.kid tree)))) c.report_from.ensures
          ∙ sym (reported_list held c.in-Some.kid tree i.walk.live c.loop-next.hooks)
          ∙ i.reported;
    }
