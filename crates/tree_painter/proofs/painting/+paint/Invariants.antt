use Rattle.std.proofs.Common.{◌+◌, ◌*◌}
use Rattle.view_model.specs.Forest.{count_of}
use Rattle.view_model.specs.Painting.{painted}
use Rattle.view_tree.specs.Rows.{children_of_first, first_tree, part_from, rest_from}
use Rattle.view_tree.specs.Views.{held_of}
use Rattle.view_tree.proofs.forest.Walks.{Walk}
use Rattle.seen_parts.specs.Meeting.{placed_rows}
use Rattle.tree_painter.specs.Painted.{area_in, from_origin, share_of}
use Rattle.tree_painter.proofs.UnderWay.{IsUnderWay}
use Rattle.tree_painter.proofs.painting.+paint.Given as goal

-- one round from a view to its child goes through three functions
abbrev pub decreases-paint_view : goal.decreases-paint_view
decreases-paint_view l = 3 * count_of (first_tree (part_from l.view l.tree.now.tree)) + 2

abbrev pub decreases-paint_filled : goal.decreases-paint_filled
decreases-paint_filled l = 3 * count_of (first_tree (part_from l.view l.tree.now.tree)) + 1

abbrev pub decreases-paint_children : goal.decreases-paint_children
decreases-paint_children l = 3 * count_of (first_tree (part_from l.view l.tree.now.tree))

abbrev pub invariant-paint_children-loop-next : goal.invariant-paint_children-loop-next
invariant-paint_children-loop-next l =
    let tree = l.tree.tree in
    let children = children_of_first (part_from l.view tree) in
    let area = area_in l.fn.surface l.canvas.clip in
    record {
      walk : Walk tree children l.next;
      way : IsUnderWay (from_origin l.canvas.left l.canvas.top (painted (placed_rows (held_of l.tree) (rest_from l.next tree))))
          (from_origin l.canvas.left l.canvas.top (painted (placed_rows (held_of l.tree) children))) l.canvas.clip
          (share_of area (rest_from l.next tree)) (share_of area children) l.fn.surface l.surface l.fn.work l.work;
    }

abbrev pub decreases-paint_children-loop-next : goal.decreases-paint_children-loop-next
decreases-paint_children-loop-next l = count_of (rest_from l.next l.tree.tree)
