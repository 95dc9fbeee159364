use Rattle.measure_pass.specs.Alike.{AreSized}
use Rattle.measure_pass.specs.Measured.{kids_from}
use Rattle.view_model.specs.Forest.{count_of}
use Rattle.view_tree.specs.Rows.{rest_from}
use Rattle.view_tree.proofs.forest.Walks.{Walk}
use Rattle.measure_pass.proofs.measuring.alike.are_sized.Given as goal

abbrev pub invariant-loop-next : goal.invariant-loop-next
invariant-loop-next l =
    let tree = l.tree.tree in
    record {
      walk : Walk tree (kids_from l.view tree) l.next;
      whole : AreSized (rest_from l.next tree) → AreSized (kids_from l.view tree);
    }

abbrev pub decreases-loop-next : goal.decreases-loop-next
decreases-loop-next l = count_of (rest_from l.next l.tree.tree)
