use Rattle.std.proofs.Common.{length, ◌+◌, ◌*◌}
use Rattle.view_tree.specs.Rows.{ancestors}
use Rattle.traversal.proofs.forcing.+force.Given as goal

abbrev pub decreases-force_path : goal.decreases-force_path
decreases-force_path l = 2 * length (ancestors l.view l.tree.now.tree) + 1

abbrev pub decreases-force_above : goal.decreases-force_above
decreases-force_above l = 2 * length (ancestors l.view l.tree.now.tree)
