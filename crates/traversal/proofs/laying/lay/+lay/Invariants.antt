use Rattle.std.proofs.Common.{◌+◌, ◌*◌}
use Rattle.damage_rect.specs.Within.{LiesIn}
use Rattle.kept_views.specs.Laying.{spot_of}
use Rattle.view_model.specs.Forest.{count_of}
use Rattle.view_tree.proofs.forest.BackwardWalks.{before}
use Rattle.view_tree.specs.Rows.{first_tree, children_of_first, part_from, rest_from}
use Rattle.view_tree.specs.Views.{SameTree, held_of}
use Rattle.traversal.specs.Counting.{IsMeasuringCounted}
use Rattle.traversal.specs.Laying.{stage_of}
use Rattle.traversal.proofs.laid.BackWalk.{BackWalk}
use Rattle.traversal.proofs.sight.FollowedViews.{CoverWalks, Walks}
use Rattle.traversal.proofs.laid.LaidWalk.{LaidWalk}
use Rattle.traversal.proofs.laying.lay.+lay.Given as goal

abbrev pub decreases-lay : goal.decreases-lay
decreases-lay l = 6 * count_of (first_tree (part_from l.view l.tree.now.tree)) + 4

abbrev pub decreases-lay_open : goal.decreases-lay_open
decreases-lay_open l = 6 * count_of (first_tree (part_from l.view l.tree.now.tree)) + 3

abbrev pub decreases-lay_kid : goal.decreases-lay_kid
decreases-lay_kid l = 6 * count_of (first_tree (part_from l.kid l.tree.now.tree)) + 5

abbrev pub decreases-lay_kids : goal.decreases-lay_kids
decreases-lay_kids l = 6 * count_of (first_tree (part_from l.view l.tree.now.tree)) + 2

abbrev pub decreases-lay_forwards : goal.decreases-lay_forwards
decreases-lay_forwards l = 6 * count_of (first_tree (part_from l.view l.tree.now.tree))

abbrev pub decreases-lay_backwards : goal.decreases-lay_backwards
decreases-lay_backwards l = 6 * count_of (first_tree (part_from l.view l.tree.now.tree)) + 1

abbrev pub decreases-lay_over : goal.decreases-lay_over
decreases-lay_over l = 6 * count_of (first_tree (part_from l.view l.tree.now.tree)) + 1

abbrev pub decreases-lay_in_line : goal.decreases-lay_in_line
decreases-lay_in_line l = 6 * count_of (first_tree (part_from l.view l.tree.now.tree)) + 1

abbrev pub decreases-lay_between : goal.decreases-lay_between
decreases-lay_between l = 6 * count_of (first_tree (part_from l.view l.tree.now.tree)) + 1

abbrev pub invariant-lay_forwards-loop-next : goal.invariant-lay_forwards-loop-next
invariant-lay_forwards-loop-next l = let tree = l.fn.tree.tree in record {
  same : SameTree l.fn.tree l.tree;
  counted : IsMeasuringCounted l.fn.tree l.tree l.fn.context.work l.context.work;
  grew : LiesIn l.fn.context.damage.rect l.context.damage.rect;
  sight : Walks l.inside.canvas l.context.damage.rect tree (children_of_first (part_from l.view tree)) (held_of l.fn.tree) l.next (held_of l.tree);
  cover : CoverWalks l.inside.canvas l.fn.context.damage.rect l.context.damage.rect tree (children_of_first (part_from l.view tree)) (held_of l.fn.tree) l.next (held_of l.tree);
  walked : LaidWalk tree (children_of_first (part_from l.view tree)) l.placer (spot_of (part_from l.view tree) (held_of l.fn.tree l.view) l.inside.size) (held_of l.fn.tree)
      l.fn.context.work.measured l.fn.tree.counts.laid l.next (held_of l.tree) l.context.work.measured l.tree.counts.laid;
}

abbrev pub decreases-lay_forwards-loop-next : goal.decreases-lay_forwards-loop-next
decreases-lay_forwards-loop-next l = count_of (rest_from l.next l.tree.tree)

abbrev pub invariant-lay_backwards-loop-next : goal.invariant-lay_backwards-loop-next
invariant-lay_backwards-loop-next l =
    let tree = l.fn.tree.tree in
    let spot = spot_of (part_from l.view tree) (held_of l.fn.tree l.view) l.inside.size in
    BackWalk tree (children_of_first (part_from l.view tree)) l.placer spot l.inside.canvas (stage_of l.fn.tree l.fn.context) l.next (stage_of l.tree l.context)

abbrev pub decreases-lay_backwards-loop-next : goal.decreases-lay_backwards-loop-next
decreases-lay_backwards-loop-next l = before l.next (children_of_first (part_from l.view l.tree.tree)) l.tree.tree
