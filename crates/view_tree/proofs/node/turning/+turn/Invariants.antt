use Rattle.std.proofs.Common.{◌≡◌, ◌+◌, ◌*◌}
use Rattle.slab.specs.Slab.{get, slab_len}
use Rattle.view_model.specs.Forest.{count_of}
use Rattle.view_tree.specs.Rows.{children_of_first, first_tree, rest_from}
use Rattle.view_tree.specs.node.Turning.{part_at}
use Rattle.view_tree.proofs.nodes.TurnWalks.{TurnWalk}
use Rattle.view_tree.proofs.node.turning.+turn.Given as goal

-- a round from a view to its child goes through both functions
abbrev pub decreases-turn : goal.decreases-turn
decreases-turn l = 2 * count_of (first_tree (part_at l.nodes.now l.view)) + 1

abbrev pub decreases-turn_group : goal.decreases-turn_group
decreases-turn_group l = 2 * count_of (first_tree (part_at l.nodes.now l.view))

abbrev pub invariant-turn_group-loop-next : goal.invariant-turn_group-loop-next
invariant-turn_group-loop-next l = record {
  walk : TurnWalk (get l.fn.nodes) (get l.nodes) l.rtl l.view (children_of_first (part_at l.fn.nodes l.view)) l.next;
  len : slab_len l.nodes ≡ slab_len l.fn.nodes;
}

abbrev pub decreases-turn_group-loop-next : goal.decreases-turn_group-loop-next
decreases-turn_group-loop-next l = count_of (rest_from l.next (part_at l.fn.nodes l.view))
